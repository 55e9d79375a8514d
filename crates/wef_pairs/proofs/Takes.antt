-- What is kept of a pair after a batch, after a subscription begins or ends, and once more is written.
use Rattle.std.proofs.Common.{◌≡◌, ◌≢◌, ℕ, ◌<◌, ◌≤◌, ◌==◌, Bool, true, false, ◌&&◌, ◌||◌, cond, List, [], ◌++◌, length, map, refl, ap, sym, ◌∙◌, subst, Option, Some, None, nat_lt, arith, inl, inr, ◌⊎◌, length-append}
use Rattle.std.specs.FinMap as finite
use Rattle.std.proofs.lemmas.Bool.Decides.{nat_tests}
use Rattle.std.specs.Option.{option_map, option_or}
use Rattle.std.specs.Prelude.{max, unwrap_or}
use Rattle.wef_base.specs.Names.{same}
use Rattle.wef_batch.specs.Reach.{loose_sum, reach}
use Rattle.wef_batch.specs.declared.items.Batch.{Batch}
use Rattle.wef_batch.specs.WellFormed.{is_in, is_well_formed}
use Rattle.wef_bookmark.specs.Order.{number_at}
use Rattle.wef_collector_rows.specs.Answers.{added_rows, channels_read, ended_rows}
use Rattle.wef_collector_rows.specs.Bookmarks.{bookmark_at}
use Rattle.wef_collector_rows.specs.Held.{event_of_row, held_after}
use Rattle.wef_collector_rows.specs.Keys.{bookmark_key, heard_key, held_key, key, loose_key, mark_key, subscription_key}
use Rattle.wef_collector.specs.Laws.{moved}
use Rattle.wef_collector_rows.specs.Standing.{kept_body, standing, standing_by, standing_of}
use Rattle.wef_collector.specs.Taken.{reach_changes, taken}
use Rattle.wef_collector_rows.specs.declared.standings.Standing.{Standing}
use Rattle.wef_collector_rows.specs.declared.standings.Standing.TheVariants.{Ended, Live}
use Rattle.wef_collector.proofs.Hits.{hits, hits_self, not_both, one_key, one_name, refuted}
use Rattle.wef_collector.proofs.Live.{put_lives}
use Rattle.wef_collector.proofs.Moving.{bookmark_by_taking}
use Rattle.wef_collector.proofs.Taking.{held_by_taking}
use Rattle.wef_documents.specs.Kept.{read_kept}
use Rattle.wef_documents.specs.Written.{document_text}
use Rattle.wef_eventing.specs.declared.subscriptions.Subscription.{Subscription}
use Rattle.wef_keeper.specs.Rows.{Rows, found_after, key_cmp, key_cmp_total}
use Rattle.wef_keeper.specs.declared.keys.Cell.{Cell}
use Rattle.wef_keeper.specs.declared.keys.Depth.TheVariants.{Channel}
use Rattle.wef_keeper.specs.declared.keys.Key.{Key}
use Rattle.wef_query.specs.declared.QueryList.{QueryList}
use Rattle.wef_building.specs.Building.{room_of}
use Rattle.wef_building.specs.Fits.{FitsChannel, FitsUpTo, event_at, ranges_in}
use Rattle.wef_building.specs.Wanted.{AreRising, EndBy, IsLost, Range, Settings, in_ranges, is_too_large}
use Rattle.wef_source_log.specs.Histories.{History, history}
use Rattle.wef_pairs.specs.Laws.{FittingBatchesAreSafe}
use Rattle.wef_pairs.specs.Pairs.{IsPairKey, IsPairSafe, IsUntouched, marks_of, range_of_row, settings_of, wanted_events}
use Rattle.wef_pairs.proofs.Fitted.{held_after_is, held_are, held_step, held_were, in_joined, text_cell, text_in}
use Rattle.wef_pairs.proofs.InOrder.{in_order, ranges_reached}
use Rattle.wef_pairs.proofs.Marked.{marks_after, no_mark_by_taking, reach_loose}
use Rattle.wef_pairs.proofs.Numbered.{no_rows, same_section}
use Rattle.wef_pairs.proofs.Ranges.{clip, clip_ends, clip_rises, ends-append, ends_later, ranges_rise, rising-append}
use Rattle.wef_pairs.proofs.Spared.{and_no, missed_apart, missed_channel, spared, touched, unreached}
use Rattle.wef_pairs.proofs.WantedEvents.{events_alike, nothing_wanted, selected_longer, wanted_longer}

-- Of a source's channel the same is kept for a subscription in some rows as in others.
abbrev pub SameRows : Rows → Rows → List ℕ → List ℕ → List ℕ → Type 0
SameRows after before u s c = (q : Key) → IsPairKey u s c q → finite.get after q ≡ finite.get before q

number_of : Option Cell → ℕ
number_of cell = unwrap_or (option_map (λ (k : Cell). k.value) cell) 0

pair_key : (kind : ℕ) (u s c : List ℕ) (n : ℕ) → 2 ≤ kind → kind ≤ 5 → IsPairKey u s c (key kind u s c n)
pair_key kind u s c n least greatest = record { least = least; greatest = greatest; sub = refl; source = refl; channel = refl }

pub bookmark_alike : (after before : Rows) (u s c : List ℕ) → SameRows after before u s c → bookmark_at after u s c ≡ bookmark_at before u s c
unfolding number_of
bookmark_alike after before u s c same = ap number_of (same (bookmark_key u s c) (pair_key 2 u s c 0 (omega arith) (omega arith)))

held_alike : (after before : Rows) (u s c : List ℕ) → SameRows after before u s c → held_after after u s c 0 ≡ held_after before u s c 0
held_alike after before u s c same = ap (map (event_of_row c)) (same_section 3 u s c 0 after before (λ n. same (held_key u s c n) (pair_key 3 u s c n (omega arith) (omega arith))))

marks_alike : (after before : Rows) (u s c : List ℕ) → SameRows after before u s c → marks_of after u s c ≡ marks_of before u s c
marks_alike after before u s c same = ap (map range_of_row) (same_section 4 u s c 0 after before (λ n. same (mark_key u s c n) (pair_key 4 u s c n (omega arith) (omega arith))))

-- where nothing is kept, the same is kept as in no rows
untouched_alone : (rows : Rows) (u s c : List ℕ) → IsUntouched rows u s c → SameRows rows finite.empty u s c
untouched_alone rows u s c none q is = none q is ∙ sym (finite.get-empty key_cmp q)

pub untouched_bookmark : (rows : Rows) (u s c : List ℕ) → IsUntouched rows u s c → bookmark_at rows u s c ≡ 0
unfolding number_of
untouched_bookmark rows u s c none = bookmark_alike rows finite.empty u s c (untouched_alone rows u s c none) ∙ ap number_of (finite.get-empty key_cmp (bookmark_key u s c))

-- what is safe by its bookmark and its marks
safe_with : (rows : Rows) (u s c : List ℕ) (start : ℕ) (settings : Settings) (records : History) (capacity : ℕ) (b : ℕ) (ranges : List Range) →
    bookmark_at rows u s c ≡ b → marks_of rows u s c ≡ ranges → start ≤ b → b ≤ length records → held_after rows u s c 0 ≡ wanted_events settings.query c records start b ranges →
    AreRising start ranges → EndBy b ranges → ((n : ℕ) → in_ranges ranges n ≡ true → IsLost settings.query settings.max_bytes c records capacity n) →
    finite.get rows (held_key u s c 0) ≡ None → finite.get rows (mark_key u s c 0) ≡ None → ((n : ℕ) → finite.get rows (loose_key u s c n) ≡ None) →
    IsPairSafe rows u s c start settings records capacity
safe_with rows u s c start settings records capacity b ranges bookmark marks begun within held rising below lost event mark loose = record {
  begun = subst (λ (x : ℕ). start ≤ x) (sym bookmark) begun;
  within = subst (λ (x : ℕ). x ≤ length records) (sym bookmark) within;
  held = held ∙ (λ i. wanted_events settings.query c records start (sym bookmark i) (sym marks i));
  rising = subst (AreRising start) (sym marks) rising;
  below = subst (λ (x : ℕ × List Range). EndBy x.0 x.1) (λ i. (sym bookmark i, sym marks i)) below;
  lost = λ n inside. lost n (ap (λ (rs : List Range). in_ranges rs n) (sym marks) ∙ inside);
  no_first_event = event;
  no_first_mark = mark;
  no_loose = loose;
}

-- where the same is kept, as much is safe
pub safe_alike : (after before : Rows) (u s c : List ℕ) (start : ℕ) (settings : Settings) (records : History) (capacity : ℕ) →
    SameRows after before u s c → IsPairSafe before u s c start settings records capacity → IsPairSafe after u s c start settings records capacity
safe_alike after before u s c start settings records capacity same safe =
    safe_with after u s c start settings records capacity (bookmark_at before u s c) (marks_of before u s c) (bookmark_alike after before u s c same) (marks_alike after before u s c same)
    safe.begun safe.within (held_alike after before u s c same ∙ safe.held) safe.rising safe.below safe.lost
    (same (held_key u s c 0) (pair_key 3 u s c 0 (omega arith) (omega arith)) ∙ safe.no_first_event)
    (same (mark_key u s c 0) (pair_key 4 u s c 0 (omega arith) (omega arith)) ∙ safe.no_first_mark)
    (λ n. same (loose_key u s c n) (pair_key 5 u s c n (omega arith) (omega arith)) ∙ safe.no_loose n)

-- and as much is untouched
pub untouched_alike : (after before : Rows) (u s c : List ℕ) → SameRows after before u s c → IsUntouched before u s c → IsUntouched after u s c
untouched_alike after before u s c same none q is = same q is ∙ none q is

-- a key of another kind than those of a pair is none of them
pub kind_apart : (k q : Key) → (k.kind ≡ q.kind → ⊥) → hits k q ≡ false
kind_apart k q other = refuted _ (λ hit. other (ap (λ (x : Key). x.kind) (one_key k q hit)))

unlike : (m n : ℕ) → m < n → m ≡ n → ⊥
unlike m n less e = omega arith

heard_apart : (u s v r c : List ℕ) (q : Key) → IsPairKey v r c q → hits (heard_key u s) q ≡ false
heard_apart u s v r c q is = kind_apart (heard_key u s) q (λ same_kind. unlike q.kind 6 (let most = is.greatest in omega arith) (sym same_kind))

-- whether a batch of a subscription and a source may change what is kept of a channel
abbrev pub is_served : List ℕ → List ℕ → List (List ℕ) → List ℕ → List ℕ → List ℕ → Bool
is_served u s channels v r c = same u v && (same s r && is_in channels c)

-- ---- a batch

-- no channel of the query is the one that isn't served
not_served : (u s : List ℕ) (channels : List (List ℕ)) (v r c d : List ℕ) → is_in channels d ≡ true → is_served u s channels v r c ≡ false → (same u v && (same s r && same d c)) ≡ false
not_served u s channels v r c d here apart =
    elim (same d c) as (λ t. same d c ≡ t → (same u v && (same s r && t)) ≡ false) [
      | true ↦ λ is. ap (λ (t : Bool). same u v && (same s r && t)) (sym here ∙ ap (is_in channels) (one_name d c is)) ∙ apart
      | false ↦ λ is. nowhere (same u v) (same s r)
    ] refl
  where
    nowhere : (a b : Bool) → (a && (b && false)) ≡ false
    nowhere true true = refl
    nowhere true false = refl
    nowhere false b = refl

-- a batch leaves what is kept of every other subscription, source and channel
pub taking_spares : (rows : Rows) (u s : List ℕ) (channels : List (List ℕ)) (batch : Batch) (now : ℕ) (v r c : List ℕ) →
    is_served u s channels v r c ≡ false → SameRows (taken rows u s channels batch now) rows v r c
taking_spares rows u s channels batch now v r c apart q is =
    spared rows u s channels batch now q
    (λ d here. missed_apart u s d q (ap (λ (k : List ℕ × List ℕ × List ℕ). same u k.0 && (same s k.1 && same d k.2)) (λ i. (is.sub i, is.source i, is.channel i))
    ∙ not_served u s channels v r c d here apart))
    (heard_apart u s v r c q is)

other_name : (a b : List ℕ) → (a ≢ b) → same a b ≡ false
other_name a b other = refuted (same a b) (λ is. other (one_name a b is))

-- of another subscription
pub taking_spares_sub : (rows : Rows) (u s : List ℕ) (channels : List (List ℕ)) (batch : Batch) (now : ℕ) (v r c : List ℕ) →
    (u ≢ v) → SameRows (taken rows u s channels batch now) rows v r c
taking_spares_sub rows u s channels batch now v r c other =
    taking_spares rows u s channels batch now v r c (ap (λ (t : Bool). t && (same s r && is_in channels c)) (other_name u v other))

-- of another source
pub taking_spares_source : (rows : Rows) (u s : List ℕ) (channels : List (List ℕ)) (batch : Batch) (now : ℕ) (v r c : List ℕ) →
    (s ≢ r) → SameRows (taken rows u s channels batch now) rows v r c
taking_spares_source rows u s channels batch now v r c other =
    taking_spares rows u s channels batch now v r c (ap (λ (t : Bool). same u v && (t && is_in channels c)) (other_name s r other) ∙ and_no (same u v))

-- of another channel
pub taking_spares_channel : (rows : Rows) (u s : List ℕ) (channels : List (List ℕ)) (batch : Batch) (now : ℕ) (v r c : List ℕ) →
    is_in channels c ≡ false → SameRows (taken rows u s channels batch now) rows v r c
taking_spares_channel rows u s channels batch now v r c other =
    taking_spares rows u s channels batch now v r c
    (ap (λ (t : Bool). same u v && (same s r && t)) other ∙ ap (λ (t : Bool). same u v && t) (and_no (same s r)) ∙ and_no (same u v))

-- and every subscription
pub standing_by_taking : (rows : Rows) (u s : List ℕ) (channels : List (List ℕ)) (batch : Batch) (now : ℕ) (v : List ℕ) →
    standing (taken rows u s channels batch now) v ≡ standing rows v
standing_by_taking rows u s channels batch now v =
    ap (standing_of v) (spared rows u s channels batch now (subscription_key v)
    (λ d here. record { bookmark = refl; held = λ n. refl; marks = λ n. refl; loose = λ n. refl }) refl)

-- a channel that the query lacks stays untouched
pub untouched_by_taking : (rows : Rows) (u s : List ℕ) (channels : List (List ℕ)) (batch : Batch) (now : ℕ) (c : List ℕ) →
    is_in channels c ≡ false → IsUntouched rows u s c → IsUntouched (taken rows u s channels batch now) u s c
untouched_by_taking rows u s channels batch now c other none =
    untouched_alike (taken rows u s channels batch now) rows u s c (taking_spares_channel rows u s channels batch now u s c other) none

-- ---- a subscription that begins or ends

-- a row at a key that is none of a pair
putting_spares : (rows : Rows) (k : Key) (cell : Cell) (u s c : List ℕ) → ((q : Key) → IsPairKey u s c q → q.kind ≡ k.kind → ⊥) → SameRows (finite.insert rows k cell) rows u s c
putting_spares rows k cell u s c other q is =
    finite.get-insert key_cmp_total rows k cell q ∙ ap (λ (t : Bool). cond t (Some cell) (finite.get rows q)) (kind_apart q k (other q is))

-- a row of a subscription says nothing of a pair
subscribing_spares : (rows : Rows) (v : List ℕ) (cell : Cell) (u s c : List ℕ) → SameRows (finite.insert rows (subscription_key v) cell) rows u s c
subscribing_spares rows v cell u s c = putting_spares rows (subscription_key v) cell u s c (λ q is same_kind. unlike 1 q.kind (let least = is.least in omega arith) (sym same_kind))

-- what stands for a subscription once its row is put
put_own : (rows : Rows) (v : List ℕ) (cell : Cell) → standing (finite.insert rows (subscription_key v) cell) v ≡ standing_of v (Some cell)
put_own rows v cell =
    ap (standing_of v) (finite.get-insert key_cmp_total rows (subscription_key v) cell (subscription_key v)
    ∙ ap (λ (t : Bool). cond t (Some cell) (finite.get rows (subscription_key v))) (hits_self (subscription_key v)))

-- and for others
put_others : (rows : Rows) (v w : List ℕ) (cell : Cell) → (v ≢ w) → standing (finite.insert rows (subscription_key v) cell) w ≡ standing rows w
put_others rows v w cell other =
    let missed : hits (subscription_key w) (subscription_key v) ≡ false =
    refuted _ (λ hit. other (sym (ap (λ (k : Key). k.sub) (one_key (subscription_key w) (subscription_key v) hit)))) in
    ap (standing_of w) (finite.get-insert key_cmp_total rows (subscription_key v) cell (subscription_key w)
    ∙ ap (λ (t : Bool). cond t (Some cell) (finite.get rows (subscription_key w))) missed)

-- a new subscription changes nothing that is kept of a pair
pub adding_spares : (rows : Rows) (about : Subscription) (u s c : List ℕ) → SameRows (added_rows rows about) rows u s c
adding_spares rows about u s c = subscribing_spares rows about.name (record { value = 0; body = document_text about }) u s c

-- nor does one that ends
pub ending_spares : (rows : Rows) (v u s c : List ℕ) → SameRows (ended_rows rows v) rows u s c
ending_spares rows v u s c = subscribing_spares rows v (record { value = 1; body = kept_body (finite.get rows (subscription_key v)) }) u s c

-- what stands for a new subscription: what its words read as
pub standing_read : (rows : Rows) (about : Subscription) → standing (added_rows rows about) about.name ≡ standing_by 0 (read_kept about.name (document_text about))
standing_read rows about = put_own rows about.name (record { value = 0; body = document_text about })

-- one that is read again from its document is live
pub standing_by_adding : (rows : Rows) (about : Subscription) → read_kept about.name (document_text about) ≡ Some about →
    standing (added_rows rows about) about.name ≡ Live about
standing_by_adding rows about reads = put_lives rows about (document_text about) reads

-- the others are as before
pub others_by_adding : (rows : Rows) (about : Subscription) (v : List ℕ) → (about.name ≢ v) → standing (added_rows rows about) v ≡ standing rows v
others_by_adding rows about v other = put_others rows about.name v (record { value = 0; body = document_text about }) other

ended_from : (value : ℕ) (kept : Option Subscription) (about : Subscription) → standing_by value kept ≡ Live about → standing_by 1 kept ≡ Ended about
ended_from value None about live = cc
ended_from value (Some given) about live =
    elim (value == 0) as (λ t. cond t (Live given) (Ended given) ≡ Live about → ◌≡◌ {A = Standing} (Ended given) (Ended about)) [
      | true ↦ λ is. cc
      | false ↦ λ is. cc
    ] live

ended_by : (u : List ℕ) (cell : Option Cell) (about : Subscription) → standing_of u cell ≡ Live about → standing_of u (Some (record { value = 1; body = kept_body cell })) ≡ Ended about
ended_by u None about live = cc
ended_by u (Some cell) about live = ended_from cell.value (read_kept u cell.body) about live

-- a live subscription that ends has ended
pub standing_by_ending : (rows : Rows) (u : List ℕ) (about : Subscription) → standing rows u ≡ Live about → standing (ended_rows rows u) u ≡ Ended about
standing_by_ending rows u about live =
    put_own rows u (record { value = 1; body = kept_body (finite.get rows (subscription_key u)) }) ∙ ended_by u (finite.get rows (subscription_key u)) about live

-- the others are as before
pub others_by_ending : (rows : Rows) (u v : List ℕ) → (u ≢ v) → standing (ended_rows rows u) v ≡ standing rows v
others_by_ending rows u v other = put_others rows u v (record { value = 1; body = kept_body (finite.get rows (subscription_key u)) }) other

-- ---- histories that grow, and pairs of which nothing is kept

-- what is lost stays lost
pub lost_longer : (query : QueryList) (max_bytes : ℕ) (c : List ℕ) (records more : History) (capacity n : ℕ) → IsLost query max_bytes c records capacity n →
    IsLost query max_bytes c (records ++ more) capacity n
lost_longer query max_bytes c records more capacity n lost =
    let within : n ≤ length records = lost.1 in (
      lost.0,
      omega (arith, length-append {A = List ℕ}),
      elim lost.2 [
        | inl gone ↦ inl (omega (arith, length-append {A = List ℕ}))
        | inr large ↦ inr (ap (is_too_large query (room_of max_bytes) c n) (selected_longer query c records more n within) ∙ large)
      ],
    )

-- what is safe stays so when more is written
pub safe_longer : (rows : Rows) (u s c : List ℕ) (start : ℕ) (settings : Settings) (records records' more : History) (capacity : ℕ) → records' ≡ records ++ more →
    IsPairSafe rows u s c start settings records capacity → IsPairSafe rows u s c start settings records' capacity
safe_longer rows u s c start settings records records' more capacity longer safe =
    subst (λ (all : History). IsPairSafe rows u s c start settings all capacity) (sym longer)
    (record {
      begun = safe.begun;
      within = let within = safe.within in omega (arith, length-append {A = List ℕ});
      held = safe.held ∙ events_alike settings.query c records (records ++ more) start (bookmark_at rows u s c) (bookmark_at rows u s c) (marks_of rows u s c) (marks_of rows u s c)
          (λ n. sym (wanted_longer settings.query c records more start (bookmark_at rows u s c) (marks_of rows u s c) safe.within n));
      rising = safe.rising;
      below = safe.below;
      lost = λ n inside. lost_longer settings.query settings.max_bytes c records more capacity n (safe.lost n inside);
      no_first_event = safe.no_first_event;
      no_first_mark = safe.no_first_mark;
      no_loose = safe.no_loose;
    })

-- nothing kept is safe for a pair that begins with the first record, whatever the query and the history
pub safe_untouched : (rows : Rows) (u s c : List ℕ) (settings : Settings) (records : History) (capacity : ℕ) →
    IsUntouched rows u s c → IsPairSafe rows u s c 0 settings records capacity
safe_untouched rows u s c settings records capacity none =
    let alone = untouched_alone rows u s c none in
    safe_with rows u s c 0 settings records capacity 0 [] (untouched_bookmark rows u s c none)
    (marks_alike rows finite.empty u s c alone ∙ ap (map range_of_row) (no_rows Channel (mark_key u s c 0))) (omega arith) (omega arith)
    (held_alike rows finite.empty u s c alone ∙ ap (map (event_of_row c)) (no_rows Channel (held_key u s c 0)) ∙ sym (nothing_wanted settings.query c records 0)) tt tt
    (λ n inside. absurd (not_both inside refl))
    (none (held_key u s c 0) (pair_key 3 u s c 0 (omega arith) (omega arith))) (none (mark_key u s c 0) (pair_key 4 u s c 0 (omega arith) (omega arith)))
    (λ n. none (loose_key u s c n) (pair_key 5 u s c n (omega arith) (omega arith)))

-- ---- a batch that fits

-- one that doesn't reach a channel leaves it as it is
unreached_rows : (rows : Rows) (u s : List ℕ) (channels : List (List ℕ)) (batch : Batch) (now : ℕ) (c : List ℕ) → is_in channels c ≡ true → reach c batch ≡ None →
    SameRows (taken rows u s channels batch now) rows u s c
unreached_rows rows u s channels batch now c listed none q is =
    unreached rows u s channels batch now c q listed none (missed_channel u s c q is.channel) (heard_apart u s u s c q is)

-- a listed channel's bookmark after a batch
pub bookmark_moved : (rows : Rows) (u s : List ℕ) (channels : List (List ℕ)) (batch : Batch) (now : ℕ) (c : List ℕ) → is_in channels c ≡ true →
    bookmark_at (taken rows u s channels batch now) u s c ≡ moved (bookmark_at rows u s c) (reach c batch)
bookmark_moved rows u s channels batch now c listed =
    bookmark_by_taking rows u s channels batch now c ∙ ap (λ (t : Bool). cond t (moved (bookmark_at rows u s c) (reach c batch)) (bookmark_at rows u s c)) listed

-- ---- a batch that fits, where it reaches the channel

-- one of two tests
or_either : (a b : Bool) → (a || b) ≡ true → (a ≡ true) ⊎ (b ≡ true)
or_either true b e = inl refl
or_either false b e = inr e

and_second : (a b : Bool) → (a && b) ≡ true → b ≡ true
and_second true b e = e
and_second false b e = cc

none_below : (b : ℕ) → nat_lt b 0 ≡ false
none_below b = grind (arith, nat_tests)

reached_safe : (rows : Rows) (u s c : List ℕ) (start : ℕ) (about : Subscription) (records : History) (capacity b : ℕ) (batch : Batch) (now t : ℕ) → is_in (channels_read about) c ≡ true →
    IsPairSafe rows u s c start (settings_of about) records capacity → is_well_formed (channels_read about) batch ≡ true → loose_sum batch.items ≡ 0 → b ≤ bookmark_at rows u s c → reach c batch ≡ Some t →
    FitsUpTo about.query about.max_bytes c records capacity b batch.items t → IsPairSafe (taken rows u s (channels_read about) batch now) u s c start (settings_of about) records capacity
reached_safe rows u s c start about records capacity b batch now t listed safe formed none le reached fits =
    let channels = channels_read about in
    let after = taken rows u s channels batch now in
    let kept = bookmark_at rows u s c in
    let marks = marks_of rows u s c in
    let dropped = ranges_in c batch.items in
    let rises = in_order channels batch c formed listed in
    let above : AreRising kept (clip kept dropped) = clip_rises kept 0 kept dropped (omega arith) (ranges_rise c None batch.items rises) in
    let ends : EndBy t (clip kept dropped) = clip_ends kept t dropped (ranges_reached channels batch c t formed listed reached) in
    let begun : start ≤ kept = safe.begun in
    let size : kept ≤ length records = safe.within in
    let reaches : t ≤ length records = fits.within in
    safe_with after u s c start (settings_of about) records capacity (max kept t) (marks ++ clip kept dropped)
    (bookmark_moved rows u s channels batch now c listed ∙ ap (moved kept) reached)
    (marks_after rows u s channels batch now c start t listed reached begun safe.rising safe.below above)
    (omega arith) (omega arith)
    (held_are about.query c records start (max kept t) (marks ++ clip kept dropped) after u s
    (λ n. ap (λ (cell : Option Cell). text_in (cond (nat_lt 0 n) cell None))
    (held_by_taking rows u s channels batch now c n listed ∙ held_after_is c kept n None batch.items (finite.get rows (held_key u s c n)) rises)
    ∙ held_step about.query c records start b kept t marks dropped n (event_at c n batch.items) (finite.get rows (held_key u s c n)) begun le safe.below
    (fits.exact n) (held_were about.query c records start kept marks rows u s safe.held n)))
    (rising-append start kept marks (clip kept dropped) begun safe.rising safe.below above)
    (ends-append (max kept t) marks (clip kept dropped) (ends_later kept (max kept t) marks (omega arith) safe.below) (ends_later t (max kept t) (clip kept dropped) (omega arith) ends))
    (λ n inside. elim (or_either (in_ranges marks n) (nat_lt kept n && in_ranges dropped n) (sym (in_joined kept marks dropped n) ∙ inside)) [
      | inl old ↦ safe.lost n old
      | inr new ↦ fits.lost n (and_second (nat_lt kept n) (in_ranges dropped n) new)
    ])
    (held_by_taking rows u s channels batch now c 0 listed ∙ held_after_is c kept 0 None batch.items (finite.get rows (held_key u s c 0)) rises
    ∙ ap (λ (t : Bool). cond t (option_or (option_map text_cell (event_at c 0 batch.items)) (finite.get rows (held_key u s c 0))) (finite.get rows (held_key u s c 0))) (none_below kept)
    ∙ safe.no_first_event)
    (no_mark_by_taking rows u s channels batch now c t listed reached above safe.no_first_mark)
    (λ n. touched rows u s channels batch now c (loose_key u s c n) (λ cell. cell) listed (missed_channel u s c (loose_key u s c n) refl) refl
    (λ cell. ap (λ r. found_after (reach_changes u s c kept batch r) (loose_key u s c n) cell) reached ∙ reach_loose u s c kept t n batch cell none) (λ x. refl)
    ∙ safe.no_loose n)

by_reach : (rows : Rows) (u s c : List ℕ) (start : ℕ) (about : Subscription) (records : History) (capacity b : ℕ) (batch : Batch) (now : ℕ) (reached : Option ℕ) → is_in (channels_read about) c ≡ true →
    IsPairSafe rows u s c start (settings_of about) records capacity → is_well_formed (channels_read about) batch ≡ true → loose_sum batch.items ≡ 0 → b ≤ bookmark_at rows u s c → reach c batch ≡ reached →
    FitsChannel about.query about.max_bytes c records capacity b batch.items reached → IsPairSafe (taken rows u s (channels_read about) batch now) u s c start (settings_of about) records capacity
by_reach rows u s c start about records capacity b batch now None listed safe formed none le reached fits =
    safe_alike (taken rows u s (channels_read about) batch now) rows u s c start (settings_of about) records capacity (unreached_rows rows u s (channels_read about) batch now c listed reached) safe
by_reach rows u s c start about records capacity b batch now (Some t) listed safe formed none le reached fits =
    reached_safe rows u s c start about records capacity b batch now t listed safe formed none le reached fits

pub fitting_batches_are_safe : FittingBatchesAreSafe
fitting_batches_are_safe rows u s c start about all capacity b batch now listed safe fits le = (
  by_reach rows u s c start about (history all c) capacity (number_at b c) batch now (reach c batch) listed safe fits.well_formed fits.no_loose le refl (fits.channels c listed),
  bookmark_moved rows u s (channels_read about) batch now c listed,
)
