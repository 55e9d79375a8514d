-- Facts of a live subscription.
use Rattle.std.proofs.Common.{◌≡◌, ℕ, Bool, true, false, cond, List, [], ◌∷◌, ap, ◌∙◌}
use Rattle.std.specs.Cmp.{eq_by_cmp_equiv}
use Rattle.std.specs.FinMap as map
use Rattle.std.specs.Ordering.{eq_by_cmp}
use Rattle.std.specs.Prelude.{Option, Some, None, Ok, Err, IfSome, if◌then◌else◌}
use Rattle.wef_batch.specs.WellFormed.{is_well_formed}
use Rattle.wef_batch.specs.declared.items.Batch.{Batch}
use Rattle.wef_documents.specs.Kept.{read_kept}
use Rattle.wef_documents.specs.Written.{document_text}
use Rattle.wef_keeper.specs.Keeping.{Follows}
use Rattle.wef_keeper.specs.declared.keys.Change.{Change}
use Rattle.wef_keeper.specs.Rows.{Rows, applied, key_cmp, key_cmp_total}
use Rattle.wef_keeper.specs.declared.keys.Cell.{Cell}
use Rattle.wef_keeper.specs.declared.keys.Key.{Key}
use Rattle.wef_collector_rows.specs.Keys.{subscription_key}
use Rattle.wef_collector_rows.specs.Standing.{is_full, standing, standing_by, standing_of}
use Rattle.wef_eventing.specs.declared.subscriptions.Subscription.{Subscription}
use Rattle.wef_collector_rows.specs.Answers.{channels_read, is_there}
use Rattle.wef_collector.specs.Calls.{add_effect, take_by}
use Rattle.wef_collector.specs.Taken.{batch_changes, put}
use Rattle.wef_collector_rows.specs.declared.faults.CollectorFault.TheVariants.{Exists, NotWellFormed, TooMany}
use Rattle.wef_collector_rows.specs.declared.standings.Standing.TheVariants.{Live}

same_key : (k : Key) → eq_by_cmp key_cmp k k ≡ true
same_key k = (eq_by_cmp_equiv key_cmp_total).refl k

-- a subscription whose kept words read back is live once they are put
pub put_lives : (rows : Rows) (s : Subscription) (words : List ℕ) → read_kept s.name words ≡ Some s
    → standing (map.insert rows (subscription_key s.name) (record { value = 0; body = words })) s.name ≡ Live s
put_lives rows s words reads =
    let cell : Cell = record { value = 0; body = words } in
    let key = subscription_key s.name in
    let found = map.get-insert key_cmp_total rows key cell key ∙ ap (λ (b : Bool). cond b (Some cell) (map.get rows key)) (same_key key) in
    ap (standing_of s.name) found ∙ ap (standing_by 0) reads

-- the changes of a subscription that is added
one_put : (rows : Rows) (s : Subscription) (changes : List Change) → add_effect rows s ≡ Ok changes → changes ≡ put (subscription_key s.name) 0 (document_text s) ∷ []
one_put rows s changes e = by (is_there rows s.name) (is_full rows) e
  where
    by : (there full : Bool) → (if there then Err Exists else if full then Err TooMany else Ok (put (subscription_key s.name) 0 (document_text s) ∷ [])) ≡ Ok changes → changes ≡ put (subscription_key s.name) 0 (document_text s) ∷ []
    by true full e = cc
    by false true e = cc
    by false false e = cc

-- once they stand, it is live
pub added_lives : (mid now : Option Rows) (s : Subscription) (changes : List Change) → Follows mid now (λ found after. after ≡ applied changes found) → IfSome mid (λ rows. add_effect rows s ≡ Ok changes)
    → read_kept s.name (document_text s) ≡ Some s → IfSome now (λ rows. standing rows s.name ≡ Live s)
added_lives mid None s changes follows made reads = tt
added_lives None (Some after) s changes follows made reads = absurd follows
added_lives (Some found) (Some after) s changes follows made reads =
    let is = follows ∙ ap (λ (made : List Change). applied made found) (one_put found s changes made) in
    ap (λ (rows : Rows). standing rows s.name) is ∙ put_lives found s (document_text s) reads

-- what taking a batch does for a live subscription, by how it is judged
pub takes_ill : (rows : Rows) (u source : List ℕ) (s : Subscription) (batch : Batch) (now : ℕ) → is_well_formed (channels_read s) batch ≡ false → take_by (Live s) rows u source batch now ≡ Err NotWellFormed
takes_ill rows u source s batch now ill = ap (λ (well : Bool). if well then Ok (batch_changes rows u source (channels_read s) batch now) else Err NotWellFormed) ill

pub takes_well : (rows : Rows) (u source : List ℕ) (s : Subscription) (batch : Batch) (now : ℕ) → is_well_formed (channels_read s) batch ≡ true
    → take_by (Live s) rows u source batch now ≡ Ok (batch_changes rows u source (channels_read s) batch now)
takes_well rows u source s batch now well = ap (λ (well : Bool). if well then Ok (batch_changes rows u source (channels_read s) batch now) else Err NotWellFormed) well
