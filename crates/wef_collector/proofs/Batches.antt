-- Runs of batches.
use Rattle.std.proofs.Common.{◌≡◌, ℕ, ◌≤◌, Bool, true, false, ◌&&◌, cond, List, [], ◌∷◌, refl, ap, sym, ◌∙◌, subst, arith}
use Rattle.std.specs.Prelude.{Option, None, Some, unwrap_or}
use Rattle.std.specs.Option.{option_map}
use Rattle.wef_base.specs.Names.{same}
use Rattle.wef_batch.specs.declared.items.Batch.{Batch}
use Rattle.wef_batch.specs.Reach.{reach}
use Rattle.wef_batch.specs.WellFormed.{is_in}
use Rattle.wef_keeper.specs.declared.keys.Cell.{Cell}
use Rattle.wef_keeper.specs.Rows.{Rows}
use Rattle.wef_collector_rows.specs.Bookmarks.{bookmark_at}
use Rattle.wef_collector_rows.specs.Keys.{bookmark_key}
use Rattle.wef_collector.specs.Laws.{EventsAreHeld, BookmarkMoves, BookmarkNeverFalls, OthersStay, held_after_all, is_of_pair, moved, moved_by_all}
use Rattle.wef_collector.specs.Taken.{taken}
use Rattle.wef_collector.proofs.Hits.{one_name}
use Rattle.wef_collector.proofs.Moving.{bookmark_by_taking, others_by_taking}
use Rattle.wef_collector.proofs.Taking.{held_by_taking}

listed_moves : (rows : Rows) (u s : List ℕ) (channels : List (List ℕ)) (batch : Batch) (now : ℕ) (c : List ℕ) → is_in channels c ≡ true →
    bookmark_at (taken rows u s channels batch now) u s c ≡ moved (bookmark_at rows u s c) (reach c batch)
listed_moves rows u s channels batch now c listed =
    bookmark_by_taking rows u s channels batch now c ∙ ap (λ (t : Bool). cond t (moved (bookmark_at rows u s c) (reach c batch)) (bookmark_at rows u s c)) listed

pub events_are_held : EventsAreHeld
events_are_held rows u s channels [] c n listed = refl
events_are_held rows u s channels (batch ∷ batches) c n listed =
    let next = taken rows u s channels batch.0 batch.1 in
    events_are_held next u s channels batches c n listed
    ∙ (λ i. held_after_all c (listed_moves rows u s channels batch.0 batch.1 c listed i) n batches (held_by_taking rows u s channels batch.0 batch.1 c n listed i))

pub bookmark_moves : BookmarkMoves
bookmark_moves rows u s channels [] c listed = refl
bookmark_moves rows u s channels (batch ∷ batches) c listed =
    bookmark_moves (taken rows u s channels batch.0 batch.1) u s channels batches c listed
    ∙ ap (λ (b : ℕ). moved_by_all c b batches) (listed_moves rows u s channels batch.0 batch.1 c listed)

pub others_stay : OthersStay
others_stay rows u s channels [] q other = refl
others_stay rows u s channels (batch ∷ batches) q other =
    others_stay (taken rows u s channels batch.0 batch.1) u s channels batches q other ∙ others_by_taking rows u s channels batch.0 batch.1 q other

at_least : (b : ℕ) (reached : Option ℕ) → b ≤ moved b reached
at_least b None = omega arith
at_least b (Some t) = omega arith

either_way : (t : Bool) (b : ℕ) (reached : Option ℕ) → b ≤ cond t (moved b reached) b
either_way true b reached = at_least b reached
either_way false b reached = omega arith

-- both tests of a pair
both_tests : (a b : Bool) → (a && b) ≡ true → (a ≡ true) × (b ≡ true)
both_tests true b e = (refl, e)
both_tests false b e = cc

own_rises : (rows : Rows) (u s : List ℕ) (channels : List (List ℕ)) (batch : Batch) (now : ℕ) (c : List ℕ) → bookmark_at rows u s c ≤ bookmark_at (taken rows u s channels batch now) u s c
own_rises rows u s channels batch now c =
    subst (λ (n : ℕ). bookmark_at rows u s c ≤ n) (sym (bookmark_by_taking rows u s channels batch now c)) (either_way (is_in channels c) (bookmark_at rows u s c) (reach c batch))

number : Option Cell → ℕ
number cell = unwrap_or (option_map (λ (k : Cell). k.value) cell) 0

same_number : (a b : ℕ) → a ≡ b → b ≤ a
same_number a b e = omega arith

one_rises : (rows : Rows) (u s : List ℕ) (channels : List (List ℕ)) (batch : Batch) (now : ℕ) (v r c : List ℕ) → bookmark_at rows v r c ≤ bookmark_at (taken rows u s channels batch now) v r c
unfolding number
one_rises rows u s channels batch now v r c =
    elim (is_of_pair u s (bookmark_key v r c)) as (λ t. is_of_pair u s (bookmark_key v r c) ≡ t → bookmark_at rows v r c ≤ bookmark_at (taken rows u s channels batch now) v r c) [
      | true ↦ λ is.
          let tests = both_tests (same u v) (same s r) is in
          subst (λ (w : List ℕ). bookmark_at rows w r c ≤ bookmark_at (taken rows u s channels batch now) w r c) (one_name u v tests.0)
          (subst (λ (w : List ℕ). bookmark_at rows u w c ≤ bookmark_at (taken rows u s channels batch now) u w c) (one_name s r tests.1) (own_rises rows u s channels batch now c))
      | false ↦ λ is. let e = ap number (others_by_taking rows u s channels batch now (bookmark_key v r c) is) in same_number _ _ e
    ] refl

pub bookmark_never_falls : BookmarkNeverFalls
bookmark_never_falls rows u s channels [] v r c = omega arith
bookmark_never_falls rows u s channels (batch ∷ batches) v r c =
    let first = one_rises rows u s channels batch.0 batch.1 v r c in
    let rest = bookmark_never_falls (taken rows u s channels batch.0 batch.1) u s channels batches v r c in
    omega arith
