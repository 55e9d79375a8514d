-- The candidates of a channel say all that its history has above a position.
use Rattle.std.proofs.Common.{◌≡◌, ℕ, zero, suc, ◌+◌, ◌-◌, ◌<◌, ◌≤◌, ◌==◌, Bool, true, false, ◌&&◌, ◌||◌, cond, List, [], ◌∷◌, ◌++◌, length, length-drop, drop, max, refl, ap, sym, subst, ◌∙◌, Some, None, inl, inr, arith, nat_lt, nat_le}
use Rattle.std.specs.Prelude.{Option, slice_get}
use Rattle.std.specs.List.{cons_option, filter_map}
use Rattle.std.specs.Option.{option_and_then}
use Rattle.std.proofs.lemmas.Option.{slice_get_within}
use Rattle.wef_base.specs.Names.{same}
use Rattle.wef_batch.specs.Cost.{cost}
use Rattle.wef_batch.specs.declared.items.Item.{Item}
use Rattle.wef_batch.specs.declared.items.Item.TheVariants.{Event, Dropped}
use Rattle.wef_event.specs.Events as records
use Rattle.wef_query.specs.declared.QueryList.{QueryList}
use Rattle.wef_source_log.specs.Histories.{History, text_at}
use Rattle.wef_source_log.specs.Laws.{numbered_from, records_from}
use Rattle.wef_source_log.specs.LogWindow.{first_for}
use Rattle.wef_building.specs.Building.{first_number, is_of, item_of, room_of, sized_item}
use Rattle.wef_building.specs.Fits.{event_at, ranges_in}
use Rattle.wef_building.specs.Selecting.{is_wanted}
use Rattle.wef_building.specs.Wanted.{IsLost, in_ranges, is_too_large, selected_at, selected_text}
use Rattle.wef_building.proofs.Cases.{apart, by_bool, by_test, eq_itself, eq_refused, le_fails, le_holds, lt_fails, lt_holds, le_refused, le_tested, same_itself, both_true, and_true}
use Rattle.wef_building.proofs.Cuts.{Says, unless_dropped}
use Rattle.wef_building.proofs.Items.{ItemsEndBy, Ordered, end_number, no_event_below, no_range_below}

-- a record of a channel
abbrev record_at : List ℕ → ℕ → List ℕ → records.Event
record_at c n text = record { channel = c; number = n; text = text }

-- its item
abbrev sized : ℕ → List ℕ → ℕ → List ℕ → Item
sized room c n text = sized_item room (record_at c n text)

-- items with one in front where its record is selected
abbrev put : Bool → Item → List Item → List Item
put selected i is = cons_option (cond selected (Some i) None) is

-- the items of records from a number on
abbrev sized_from : QueryList → ℕ → List ℕ → ℕ → List (List ℕ) → List Item
sized_from query room c n [] = []
sized_from query room c n (text ∷ texts) = put (is_wanted query c text) (sized room c n text) (sized_from query room c (n + 1) texts)

-- the text at a place, where the query selects it
abbrev selected_in : QueryList → List ℕ → List (List ℕ) → ℕ → Option (List ℕ)
selected_in query c texts i = option_and_then (selected_text query c) (slice_get texts i)

-- ---- one item

sized_of : (room : ℕ) (c : List ℕ) (n : ℕ) (text : List ℕ) → is_of c (sized room c n text) ≡ true
sized_of room c n text = by_bool (λ item. is_of c item ≡ true) (nat_lt room (cost (Event (record_at c n text)))) (λ _. same_itself c) (λ _. same_itself c)

sized_first : (room : ℕ) (c : List ℕ) (n : ℕ) (text : List ℕ) → first_number (sized room c n text) ≡ n
sized_first room c n text = by_bool (λ item. first_number item ≡ n) (nat_lt room (cost (Event (record_at c n text)))) (λ _. refl) (λ _. refl)

sized_end : (room : ℕ) (c : List ℕ) (n : ℕ) (text : List ℕ) → end_number (sized room c n text) ≡ n
sized_end room c n text = by_bool (λ item. end_number item ≡ n) (nat_lt room (cost (Event (record_at c n text)))) (λ _. refl) (λ _. refl)

-- ---- their order

sized_ordered : (query : QueryList) (room : ℕ) (c : List ℕ) (k n : ℕ) (texts : List (List ℕ)) → k < n → Ordered c k (sized_from query room c n texts)
sized_ordered query room c k n [] up = tt
sized_ordered query room c k n (text ∷ texts) up =
    let first = sized_first room c n text in
    let end = sized_end room c n text in
    by_test (λ t. Ordered c k (put t (sized room c n text) (sized_from query room c (n + 1) texts))) (is_wanted query c text)
    (λ _. (sized_of room c n text, omega arith, omega arith, sized_ordered query room c (end_number (sized room c n text)) (n + 1) texts (omega arith)))
    (λ _. sized_ordered query room c k (n + 1) texts (omega arith))

sized_ends : (query : QueryList) (room : ℕ) (c : List ℕ) (n t : ℕ) (texts : List (List ℕ)) → n + length texts ≤ t + 1 → ItemsEndBy t (sized_from query room c n texts)
sized_ends query room c n t [] up = tt
sized_ends query room c n t (text ∷ texts) up =
    let end = sized_end room c n text in
    let rest = sized_ends query room c (n + 1) t texts (omega arith) in
    by_test (λ x. ItemsEndBy t (put x (sized room c n text) (sized_from query room c (n + 1) texts))) (is_wanted query c text) (λ _. (omega arith, rest)) (λ _. rest)

-- ---- what they say

-- an item at its own number, with nothing of the number behind it
sized_here : (room : ℕ) (c : List ℕ) (n : ℕ) (text : List ℕ) (items : List Item) → event_at c n items ≡ None → in_ranges (ranges_in c items) n ≡ false
    → event_at c n (sized room c n text ∷ items) ≡ unless_dropped (in_ranges (ranges_in c (sized room c n text ∷ items)) n) (Some text)
sized_here room c n text items none free =
    by_bool (λ item. event_at c n (item ∷ items) ≡ unless_dropped (in_ranges (ranges_in c (item ∷ items)) n) (Some text)) (nat_lt room (cost (Event (record_at c n text))))
    (λ _. none ∙ sym (ap (λ t. unless_dropped t (Some text)) (ap (λ t. in_ranges (cond t ((n, n) ∷ ranges_in c items) (ranges_in c items)) n) (same_itself c)
    ∙ ap (λ t. (t && t) || in_ranges (ranges_in c items) n) (le_tested n n (omega arith)))))
    (λ _. ap (λ t. cond t (Some text) (event_at c n items)) (and_true (same c c) (n == n) (same_itself c) (eq_itself n)) ∙ sym (ap (λ t. unless_dropped t (Some text)) free))

-- an item says nothing of greater numbers
sized_event_apart : (room : ℕ) (c : List ℕ) (n m : ℕ) (text : List ℕ) (items : List Item) → n < m → event_at c m (sized room c n text ∷ items) ≡ event_at c m items
sized_event_apart room c n m text items up =
    by_bool (λ item. event_at c m (item ∷ items) ≡ event_at c m items) (nat_lt room (cost (Event (record_at c n text))))
    (λ _. refl)
    (λ _. ap (λ t. cond t (Some text) (event_at c m items)) (ap (λ t. t && n == m) (same_itself c) ∙ eq_refused n m (inl up)))

sized_range_apart : (room : ℕ) (c : List ℕ) (n m : ℕ) (text : List ℕ) (items : List Item) → n < m
    → in_ranges (ranges_in c (sized room c n text ∷ items)) m ≡ in_ranges (ranges_in c items) m
sized_range_apart room c n m text items up =
    by_bool (λ item. in_ranges (ranges_in c (item ∷ items)) m ≡ in_ranges (ranges_in c items) m) (nat_lt room (cost (Event (record_at c n text))))
    (λ _. ap (λ t. in_ranges (cond t ((n, n) ∷ ranges_in c items) (ranges_in c items)) m) (same_itself c)
    ∙ ap (λ t. t || in_ranges (ranges_in c items) m) (and_last (nat_le n m) (nat_le m n) (le_refused m n up)))
    (λ _. refl)
  where
    and_last : (a b : Bool) → b ≡ false → (a && b) ≡ false
    and_last true b e = e
    and_last false b e = refl

step_back : (m n : ℕ) → n < m → m - n ≡ suc (m - (n + 1))
step_back m n up = omega arith

-- the same where the record may not be selected
put_here : (query : QueryList) (room : ℕ) (c : List ℕ) (n : ℕ) (text : List ℕ) (items : List Item) → event_at c n items ≡ None → in_ranges (ranges_in c items) n ≡ false
    → event_at c n (put (is_wanted query c text) (sized room c n text) items)
    ≡ unless_dropped (in_ranges (ranges_in c (put (is_wanted query c text) (sized room c n text) items)) n) (selected_text query c text)
put_here query room c n text items none free =
    by_test (λ t. event_at c n (put t (sized room c n text) items) ≡ unless_dropped (in_ranges (ranges_in c (put t (sized room c n text) items)) n) (cond t (Some text) None)) (is_wanted query c text)
    (λ _. sized_here room c n text items none free)
    (λ _. none ∙ sym (ap (λ t. unless_dropped t None) free))

put_event_apart : (t : Bool) (room : ℕ) (c : List ℕ) (n m : ℕ) (text : List ℕ) (items : List Item) → n < m → event_at c m (put t (sized room c n text) items) ≡ event_at c m items
put_event_apart true room c n m text items up = sized_event_apart room c n m text items up
put_event_apart false room c n m text items up = refl

put_range_apart : (t : Bool) (room : ℕ) (c : List ℕ) (n m : ℕ) (text : List ℕ) (items : List Item) → n < m
    → in_ranges (ranges_in c (put t (sized room c n text) items)) m ≡ in_ranges (ranges_in c items) m
put_range_apart true room c n m text items up = sized_range_apart room c n m text items up
put_range_apart false room c n m text items up = refl

sized_exact : (query : QueryList) (room : ℕ) (c : List ℕ) (n m : ℕ) (texts : List (List ℕ)) → n ≤ m
    → event_at c m (sized_from query room c n texts) ≡ unless_dropped (in_ranges (ranges_in c (sized_from query room c n texts)) m) (selected_in query c texts (m - n))
sized_exact query room c n m [] up = refl
sized_exact query room c n m (text ∷ texts) up =
    let all = sized_from query room c n (text ∷ texts) in
    let rest = sized_from query room c (n + 1) texts in
    by_test (λ t. nat_le m n ≡ t → event_at c m all ≡ unless_dropped (in_ranges (ranges_in c all) m) (selected_in query c (text ∷ texts) (m - n))) (nat_le m n)
    (λ _ low.
    let le = le_holds m n low in
    let one : n ≡ m = omega arith in
    let none : m - n ≡ 0 = omega arith in
    let above = sized_ordered query room c n (n + 1) texts (omega arith) in
    subst (λ x. event_at c x all ≡ unless_dropped (in_ranges (ranges_in c all) x) (selected_in query c (text ∷ texts) (m - n))) one
    (put_here query room c n text rest (no_event_below c n n _ above (omega arith)) (no_range_below c n n _ above (omega arith))
    ∙ ap (λ i. unless_dropped (in_ranges (ranges_in c all) n) (selected_in query c (text ∷ texts) i)) (sym none)))
    (λ _ high.
    let more = le_fails m n high in
    put_event_apart (is_wanted query c text) room c n m text rest more
    ∙ sized_exact query room c (n + 1) m texts (omega arith)
    ∙ (λ i. unless_dropped (sym (put_range_apart (is_wanted query c text) room c n m text rest more) i) (selected_in query c (text ∷ texts) (sym (step_back m n more) i))))
    refl

-- an item that drops its own number is too large
sized_large : (room : ℕ) (c : List ℕ) (n : ℕ) (text : List ℕ) (items : List Item) → in_ranges (ranges_in c items) n ≡ false
    → in_ranges (ranges_in c (sized room c n text ∷ items)) n ≡ true → nat_lt room (cost (Event (record_at c n text))) ≡ true
sized_large room c n text items free =
    by_bool (λ item. in_ranges (ranges_in c (item ∷ items)) n ≡ true → nat_lt room (cost (Event (record_at c n text))) ≡ true) (nat_lt room (cost (Event (record_at c n text))))
    (λ large _. large)
    (λ _ dropped. apart (sym free ∙ dropped))

put_large : (query : QueryList) (room : ℕ) (c : List ℕ) (n : ℕ) (text : List ℕ) (items : List Item) → in_ranges (ranges_in c items) n ≡ false
    → in_ranges (ranges_in c (put (is_wanted query c text) (sized room c n text) items)) n ≡ true → is_too_large query room c n (selected_text query c text) ≡ true
put_large query room c n text items free =
    by_test (λ t. in_ranges (ranges_in c (put t (sized room c n text) items)) n ≡ true → is_too_large query room c n (cond t (Some text) None) ≡ true) (is_wanted query c text)
    (λ _ dropped. sized_large room c n text items free dropped)
    (λ _ dropped. apart (sym free ∙ dropped))

-- a dropped number of theirs is that of a record that is selected and too large
sized_lost : (query : QueryList) (room : ℕ) (c : List ℕ) (n m : ℕ) (texts : List (List ℕ)) → in_ranges (ranges_in c (sized_from query room c n texts)) m ≡ true
    → (n ≤ m) × (is_too_large query room c m (selected_in query c texts (m - n)) ≡ true)
sized_lost query room c n m [] dropped = apart dropped
sized_lost query room c n m (text ∷ texts) dropped =
    let all = sized_from query room c n (text ∷ texts) in
    let rest = sized_from query room c (n + 1) texts in
    by_test (λ t. nat_lt m n ≡ t → (n ≤ m) × (is_too_large query room c m (selected_in query c (text ∷ texts) (m - n)) ≡ true)) (nat_lt m n)
    (λ _ below.
    let low = lt_holds m n below in
    apart (sym (no_range_below c m m all (sized_ordered query room c m n (text ∷ texts) low) (omega arith)) ∙ dropped))
    (λ _ up.
    let from = lt_fails m n up in
    by_test (λ t. nat_le m n ≡ t → (n ≤ m) × (is_too_large query room c m (selected_in query c (text ∷ texts) (m - n)) ≡ true)) (nat_le m n)
    (λ _ low.
    let le = le_holds m n low in
    let one : m ≡ n = omega arith in
    let none : m - n ≡ 0 = omega arith in
    let above = sized_ordered query room c n (n + 1) texts (omega arith) in
    let large = put_large query room c n text rest (no_range_below c n n _ above (omega arith)) (subst (λ x. in_ranges (ranges_in c all) x ≡ true) one dropped) in
    (from, (λ i. is_too_large query room c (one i) (selected_in query c (text ∷ texts) (none i))) ∙ large))
    (λ _ high.
    let more = le_fails m n high in
    let behind = sized_lost query room c (n + 1) m texts (sym (put_range_apart (is_wanted query c text) room c n m text rest more) ∙ dropped) in
    (from, ap (λ i. is_too_large query room c m (selected_in query c (text ∷ texts) i)) (step_back m n more) ∙ behind.1))
    refl)
    refl

-- ---- the records of a history from a number on

got_dropped : (k : ℕ) (xs : List (List ℕ)) (i j : ℕ) → j ≡ k + i → slice_get (drop k xs) i ≡ slice_get xs j
got_dropped zero xs i j e = let same_place : i ≡ j = omega arith in ap (slice_get xs) same_place
got_dropped (suc k) [] i j e = refl
got_dropped (suc k) (x ∷ xs) i zero e = absurd (omega arith)
got_dropped (suc k) (x ∷ xs) i (suc j) e = got_dropped k xs i j (omega arith)

text_is : (records : History) (m n : ℕ) → 1 ≤ m → m ≤ n → slice_get (drop (m - 1) records) (n - m) ≡ text_at records n
text_is records m n one up =
    got_dropped (m - 1) records (n - m) (n - 1) (omega arith)
    ∙ sym (ap (λ t. cond t None (slice_get records (n - 1))) (eq_refused n 0 (inr (omega arith))))

all_sized : (query : QueryList) (room : ℕ) (c : List ℕ) (n : ℕ) (texts : List (List ℕ)) → filter_map (item_of query room) (numbered_from c n texts) ≡ sized_from query room c n texts
all_sized query room c n [] = refl
all_sized query room c n (text ∷ texts) = ap (put (is_wanted query c text) (sized room c n text)) (all_sized query room c (n + 1) texts)

large_is_there : (query : QueryList) (room : ℕ) (c : List ℕ) (n i : ℕ) (texts : List (List ℕ)) (text : Option (List ℕ)) → slice_get texts i ≡ text
    → is_too_large query room c n (option_and_then (selected_text query c) text) ≡ true → i < length texts
large_is_there query room c n i texts None is large = apart large
large_is_there query room c n i texts (Some text) is large = slice_get_within texts i text is

-- the items of a history's records from a number on
abbrev pub items_from : QueryList → ℕ → List ℕ → History → ℕ → List Item
items_from query room c records first = filter_map (item_of query room) (records_from c records first)

sized_says : (query : QueryList) (max_bytes : ℕ) (c : List ℕ) (records : History) (capacity m : ℕ) → 1 ≤ m → m ≤ length records + 1
    → Says query max_bytes c records capacity (m - 1) (sized_from query (room_of max_bytes) c m (drop (m - 1) records))
sized_says query max_bytes c records capacity m one within =
    let room = room_of max_bytes in
    let texts = drop (m - 1) records in
    let long = length-drop (m - 1) records in
    record {
      ordered = sized_ordered query room c (m - 1) m texts (omega arith);
      ends = sized_ends query room c m (length records) texts (omega arith);
      exact = λ n over.
          sized_exact query room c m n texts (omega arith)
          ∙ ap (λ text. unless_dropped (in_ranges (ranges_in c (sized_from query room c m texts)) n) (option_and_then (selected_text query c) text)) (text_is records m n one (omega arith));
      lost = λ n dropped.
          let large = sized_lost query room c m n texts dropped in
          let from = large.0 in
          let there = large_is_there query room c n (n - m) texts (slice_get texts (n - m)) refl large.1 in
          (omega arith, omega arith, inr (ap (λ text. is_too_large query room c n (option_and_then (selected_text query c) text)) (sym (text_is records m n one from)) ∙ large.1));
    }

-- the items from a number on say all that the history has from there on
from_says : (query : QueryList) (max_bytes : ℕ) (c : List ℕ) (records : History) (capacity m : ℕ) → 1 ≤ m → m ≤ length records + 1
    → Says query max_bytes c records capacity (m - 1) (items_from query (room_of max_bytes) c records m)
from_says query max_bytes c records capacity m one within =
    subst (λ items. Says query max_bytes c records capacity (m - 1) items) (sym (all_sized query (room_of max_bytes) c m (drop (m - 1) records)))
    (sized_says query max_bytes c records capacity m one within)

-- ---- with the records that left the window unread

-- the records above a position and below a window's first, as one range
abbrev pub skipped : List ℕ → ℕ → ℕ → List Item
skipped c p first = cond (nat_lt (p + 1) first) (Dropped c (p + 1) (first - 1) ∷ []) []

skipped_says : (query : QueryList) (max_bytes : ℕ) (c : List ℕ) (records : History) (capacity p : ℕ) (items : List Item) → p + 1 < first_for capacity (length records)
    → Says query max_bytes c records capacity (first_for capacity (length records) - 1) items
    → Says query max_bytes c records capacity p (Dropped c (p + 1) (first_for capacity (length records) - 1) ∷ items)
skipped_says query max_bytes c records capacity p items gap says =
    let first = first_for capacity (length records) in
    let range_is : (n : ℕ) → in_ranges (ranges_in c (Dropped c (p + 1) (first - 1) ∷ items)) n ≡ ((nat_le (p + 1) n && nat_le n (first - 1)) || in_ranges (ranges_in c items) n) =
    λ n. ap (λ t. in_ranges (cond t ((p + 1, first - 1) ∷ ranges_in c items) (ranges_in c items)) n) (same_itself c) in
    record {
      ordered = (same_itself c, omega arith, omega arith, says.ordered);
      ends = (omega arith, says.ends);
      exact = λ n over.
          by_test (λ t. nat_le n (first - 1) ≡ t → event_at c n items ≡ unless_dropped (in_ranges (ranges_in c (Dropped c (p + 1) (first - 1) ∷ items)) n) (selected_at query c records n)) (nat_le n (first - 1))
          (λ _ low.
          let le = le_holds n (first - 1) low in
          no_event_below c (first - 1) n items says.ordered le
          ∙ sym (ap (λ t. unless_dropped t (selected_at query c records n)) (range_is n ∙ (λ i. ((le_tested (p + 1) n (omega arith)) i && low i) || in_ranges (ranges_in c items) n))))
          (λ _ high.
          let more = le_fails n (first - 1) high in
          says.exact n more
          ∙ sym (ap (λ t. unless_dropped t (selected_at query c records n)) (range_is n ∙ (λ i. ((le_tested (p + 1) n (omega arith)) i && high i) || in_ranges (ranges_in c items) n))))
          refl;
      lost = λ n dropped.
          by_test (λ t. (nat_le (p + 1) n && nat_le n (first - 1)) ≡ t → (t || in_ranges (ranges_in c items) n) ≡ true → IsLost query max_bytes c records capacity n) (nat_le (p + 1) n && nat_le n (first - 1))
          (λ within _ _.
          let range = both_true (nat_le (p + 1) n) (nat_le n (first - 1)) within in
          let low = le_holds (p + 1) n range.0 in
          let high = le_holds n (first - 1) range.1 in
          (omega arith, omega arith, inl (omega arith)))
          (λ _ _ there. says.lost n there)
          refl (sym (range_is n) ∙ dropped);
    }

-- A channel's candidates say all that its history has above a position within it.
pub channel_says : (query : QueryList) (max_bytes : ℕ) (c : List ℕ) (records : History) (capacity p : ℕ) → p ≤ length records
    → Says query max_bytes c records capacity p (skipped c p (first_for capacity (length records)) ++ items_from query (room_of max_bytes) c records (max (first_for capacity (length records)) (p + 1)))
channel_says query max_bytes c records capacity p within =
    let first = first_for capacity (length records) in
    let m = max first (p + 1) in
    let says = from_says query max_bytes c records capacity m (omega arith) (omega arith) in
    by_test (λ t. nat_lt (p + 1) first ≡ t → Says query max_bytes c records capacity p (cond t (Dropped c (p + 1) (first - 1) ∷ []) [] ++ items_from query (room_of max_bytes) c records m)) (nat_lt (p + 1) first)
    (λ _ gap.
    let more = lt_holds (p + 1) first gap in
    let is : m ≡ first = omega arith in
    skipped_says query max_bytes c records capacity p (items_from query (room_of max_bytes) c records m) more
    (subst (λ x. Says query max_bytes c records capacity (x - 1) (items_from query (room_of max_bytes) c records m)) is says))
    (λ _ none.
    let le = lt_fails (p + 1) first none in
    let is : m - 1 ≡ p = omega arith in
    subst (λ x. Says query max_bytes c records capacity x (items_from query (room_of max_bytes) c records m)) is says)
    refl
