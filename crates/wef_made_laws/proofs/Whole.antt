-- Of a source's channel of which all is selected and nothing is left, each record is held or lies under a mark.
use Rattle.std.proofs.Common.{◌≡◌, ℕ, suc, ◌+◌, ◌-◌, ◌<◌, ◌≤◌, ◌==◌, Bool, true, false, not, ◌&&◌, cond, List, [], ◌∷◌, get_or, length, map, refl, ap, sym, ◌∙◌, subst, Option, Some, None, nat_lt, nat_le, arith}
use Rattle.std.proofs.lemmas.Bool.Decides.{nat_tests}
use Rattle.std.proofs.lemmas.Option.{none-some, slice_get-get_or}
use Rattle.std.specs.List.{cons_option, filter_map}
use Rattle.std.specs.Option.{option_and_then, option_map}
use Rattle.std.specs.Prelude.{is_some, slice_get}
use Rattle.wef_building.specs.Selecting.{is_wanted}
use Rattle.wef_building.specs.Wanted.{EndBy, Range, Settings, in_ranges, selected_at, selected_text}
use Rattle.wef_collector_rows.specs.Bookmarks.{bookmark_at}
use Rattle.wef_collector_rows.specs.Held.{event_of_row, held_rows, mark_rows}
use Rattle.wef_event.specs.Events.{Event}
use Rattle.wef_keeper.specs.Rows.{Rows}
use Rattle.wef_pairs.specs.Pairs.{IsPairSafe, event_with, marks_of, numbers_from, wanted_event}
use Rattle.wef_query.specs.declared.QueryList.{QueryList}
use Rattle.wef_settling.specs.Settled.{IsPassed}
use Rattle.wef_source_log.specs.Histories.{History, text_at}
use Rattle.wef_summary.specs.Summary.{marked_by, sum_of}
use Rattle.wef_made_laws.proofs.Sizes.{free, free_and_marked, sizes, sizes_marked}

-- ---- records that are all selected

-- each text of a history is wanted
abbrev pub AreAllWanted : QueryList → List ℕ → History → Type 0
AreAllWanted query c records = (n : ℕ) (text : List ℕ) → text_at records n ≡ Some text → is_wanted query c text ≡ true

within : (n size : ℕ) → 1 ≤ n → n ≤ size → n - 1 < size
within n size least most = omega arith

no_zero : (n : ℕ) → 1 ≤ n → (n == 0) ≡ false
no_zero n h = grind (arith, nat_tests)

text_there : (records : History) (n : ℕ) → 1 ≤ n → n ≤ length records → text_at records n ≡ Some (get_or records (n - 1) [])
text_there records n least most =
    (λ i. cond (no_zero n least i) None (slice_get records (n - 1))) ∙ slice_get-get_or records (n - 1) [] (within n (length records) least most)

selected : (query : QueryList) (c : List ℕ) (records : History) (n : ℕ) → AreAllWanted query c records → 1 ≤ n → n ≤ length records →
    selected_at query c records n ≡ Some (get_or records (n - 1) [])
selected query c records n all least most =
    let text = get_or records (n - 1) [] in
    let there = text_there records n least most in
    ap (λ (o : Option (List ℕ)). option_and_then (selected_text query c) o) there ∙ ap (λ (t : Bool). cond t (Some text) None) (all n text there)

-- ---- as many are held as lie under no mark

module _ {X : Type 0} where
  one_or_none : (o : Option X) (t : Bool) (rest : List X) (r : ℕ) → is_some o ≡ not t → length rest ≡ r → length (cons_option o rest) ≡ cond t 0 1 + r
  one_or_none None true rest r e h = let same : length rest ≡ 0 + r = omega (arith, h) in same
  one_or_none None false rest r e h = cc
  one_or_none (Some x) true rest r e h = cc
  one_or_none (Some x) false rest r e h = let more : suc (length rest) ≡ 1 + r = omega (arith, h) in more

  picked_free : (f : ℕ → Option X) (rs : List Range) (k : ℕ) (texts : History) → ((n : ℕ) → k < n → n ≤ k + length texts → is_some (f n) ≡ not (in_ranges rs n)) →
      length (filter_map f (numbers_from (k + 1) texts)) ≡ free rs k (length texts)
  picked_free f rs k [] each = refl
  picked_free f rs k (text ∷ texts) each =
      one_or_none (f (k + 1)) (in_ranges rs (k + 1)) (filter_map f (numbers_from ((k + 1) + 1) texts)) (free rs (k + 1) (length texts)) (each (k + 1) (omega arith) (omega arith))
      (picked_free f rs (k + 1) texts (λ n above most. each n (omega (arith, above)) (omega (arith, most))))

-- whether one is wanted that is selected
is_one : (query : QueryList) (c : List ℕ) (records : History) (b : ℕ) (rs : List Range) (n : ℕ) → AreAllWanted query c records → b ≡ length records → 1 ≤ n → n ≤ length records →
    is_some (wanted_event query c records 0 b rs n) ≡ not (in_ranges rs n)
is_one query c records b rs n all end least most = by (in_ranges rs n) refl
  where
    begins : nat_lt 0 n ≡ true
    begins = grind (arith, nat_tests, least)

    ends : nat_le n b ≡ true
    ends = grind (arith, nat_tests, most, end)

    by : (t : Bool) → in_ranges rs n ≡ t → is_some (wanted_event query c records 0 b rs n) ≡ not t
    by true e = λ i. is_some (option_map (event_with c n) (cond (begins i && ends i && not (e i)) (selected_at query c records n) None))
    by false e = (λ i. is_some (option_map (event_with c n) (cond (begins i && ends i && not (e i)) (selected query c records n all least most i) None)))

length_map : {X Y : Type 0} (f : X → Y) (xs : List X) → length (map f xs) ≡ length xs
length_map f [] = refl
length_map f (x ∷ xs) = ap suc (length_map f xs)

-- a bookmark behind which nothing is left is at the end
at_end : (query : QueryList) (c : List ℕ) (records : History) (capacity b : ℕ) → AreAllWanted query c records → b ≤ length records →
    ((n : ℕ) → b < n → n ≤ length records → IsPassed query c records capacity n) → b ≡ length records
at_end query c records capacity b all low passed = by (nat_lt b (length records)) refl
  where
    by : (t : Bool) → nat_lt b (length records) ≡ t → b ≡ length records
    by true e =
        let more : b + 1 ≤ length records = grind (arith, nat_tests, e) in
        absurd (none-some (get_or records ((b + 1) - 1) []) (sym (passed (b + 1) (omega arith) more).unselected ∙ selected query c records (b + 1) all (omega arith) more))
    by false e = grind (arith, nat_tests, e, low)

-- what is held of a channel, and what lies under its marks
pub whole : (rows : Rows) (u s c : List ℕ) (settings : Settings) (records : History) (capacity : ℕ) → IsPairSafe rows u s c 0 settings records capacity → AreAllWanted settings.query c records →
    ((n : ℕ) → bookmark_at rows u s c < n → n ≤ length records → IsPassed settings.query c records capacity n) →
    length (held_rows rows u s c 0) + sum_of marked_by (mark_rows rows u s c) ≡ length records
whole rows u s c settings records capacity safe all passed =
    let b = bookmark_at rows u s c in
    let rs = marks_of rows u s c in
    let end : b ≡ length records = at_end settings.query c records capacity b all safe.within passed in
    let held : length (held_rows rows u s c 0) ≡ free rs 0 (length records) =
    sym (length_map (event_of_row c) (held_rows rows u s c 0)) ∙ ap (λ (events : List Event). length events) safe.held
    ∙ picked_free (wanted_event settings.query c records 0 b rs) rs 0 records (λ n above most. is_one settings.query c records b rs n all end (omega (arith, above)) (omega (arith, most))) in
    let marked : sizes 0 rs ≡ sum_of marked_by (mark_rows rows u s c) = sizes_marked 0 (mark_rows rows u s c) safe.rising in
    let at : b ≡ 0 + length records = omega (arith, end) in
    let both : free rs 0 (length records) + sizes 0 rs ≡ length records = free_and_marked rs 0 0 (length records) safe.rising (subst (λ (t : ℕ). EndBy t rs) at safe.below) in
    omega arith
