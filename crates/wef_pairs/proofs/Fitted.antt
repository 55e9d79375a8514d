-- The events that are held after a batch that fits, by number.
use Rattle.std.proofs.Common.{◌≡◌, ℕ, ◌<◌, ◌≤◌, ◌==◌, Bool, true, false, not, ◌&&◌, ◌||◌, cond, List, [], ◌∷◌, ◌++◌, map, refl, ap, sym, ◌∙◌, subst, Option, Some, None, nat_lt, nat_le, arith}
use Rattle.std.proofs.lemmas.Bool.Decides.{nat_tests}
use Rattle.std.proofs.lemmas.Bool.{and_parts}
use Rattle.std.specs.FinMap as finite
use Rattle.std.specs.FinMap.Entries.{below_all}
use Rattle.std.specs.FinMap.{find, is_sorted}
use Rattle.std.specs.Option.{option_map, option_or}
use Rattle.std.specs.Ordering.{eq_by_cmp, is_lt, nat_cmp}
use Rattle.std.specs.Prelude.{T, max}
use Rattle.wef_base.specs.Names.{same}
use Rattle.wef_batch.specs.Reach.{later, span_in}
use Rattle.wef_batch.specs.WellFormed.{follows, rises}
use Rattle.wef_batch.specs.declared.items.Item.TheVariants.{Event, Dropped, Loose}
use Rattle.wef_batch.specs.declared.items.Item.{Item}
use Rattle.wef_collector_rows.specs.Held.{event_of_row, held_after}
use Rattle.wef_collector_rows.specs.Keys.{held_key}
use Rattle.wef_collector.specs.Laws.{held_after_items, held_as, is_new}
use Rattle.wef_keeper.specs.Rows.{Rows}
use Rattle.wef_keeper.specs.declared.keys.Cell.{Cell}
use Rattle.wef_query.specs.declared.QueryList.{QueryList}
use Rattle.wef_building.specs.Fits.{event_at, is_event_at, text_of}
use Rattle.wef_building.specs.Wanted.{EndBy, Range, in_ranges, selected_at, wanted}
use Rattle.wef_source_log.specs.Histories.{History}
use Rattle.wef_pairs.specs.Pairs.{wanted_events}
use Rattle.wef_pairs.proofs.Spared.{and_no}
use Rattle.wef_pairs.proofs.Numbered.{above_zero, find_numbered, lt_is, numbered, numbered_sorted, own_row, rows_numbered}
use Rattle.wef_pairs.proofs.Ranges.{after_last, clip, follow_later, follows_parts, in_clip, in_none_past, in_ranges-append}
use Rattle.wef_pairs.proofs.WantedEvents.{event_of, texts_are, texts_were}

-- ---- what the items of a channel in order leave at the key of a held event

unequal : (n k : ℕ) → n < k → k == n ≡ false
unequal n k h = grind (arith, nat_tests)

-- an item whose numbers are all above isn't the event of a number
is_not_event : (c : List ℕ) (n : ℕ) (previous : Option ℕ) (item : Item) → follows previous (span_in c item) ≡ true → n < after_last previous → is_event_at c n item ≡ false
is_not_event c n previous (Event e) h below =
    elim (same e.channel c) as (λ b. follows previous (cond b (Some (e.number, e.number)) None) ≡ true → (b && e.number == n) ≡ false) [
      | true ↦ λ g. let parts = follows_parts previous e.number e.number g in let first = parts.0 in unequal n e.number (omega arith)
      | false ↦ λ g. refl
    ] h
is_not_event c n previous (Dropped channel first last) h below = refl
is_not_event c n previous (Loose count) h below = refl

-- an event is new where it is that of a number above the bookmark
above_same : (a : Bool) (b k n : ℕ) → (a && nat_lt b k && k == n) ≡ (a && k == n) && nat_lt b n
above_same true b k n = by_number b k n
  where
    by_number : (b k n : ℕ) → (nat_lt b k && k == n) ≡ (k == n) && nat_lt b n
    by_number b k n = grind (arith, nat_tests)
above_same false b k n = refl

new_event : (c : List ℕ) (b n : ℕ) (item : Item) → is_new c b n item ≡ is_event_at c n item && nat_lt b n
new_event c b n (Event e) = above_same (same e.channel c) b e.number n
new_event c b n (Dropped channel first last) = refl
new_event c b n (Loose count) = refl

-- where numbers are above, nothing is held anew
pub nothing_new : (c : List ℕ) (b n : ℕ) (previous : Option ℕ) (items : List Item) (cell : Option Cell) → rises c previous items ≡ true → n < after_last previous → held_after_items c b n items cell ≡ cell
nothing_new c b n previous [] cell h below = refl
nothing_new c b n previous (item ∷ items) cell h below =
    let parts = and_parts (follows previous (span_in c item)) (rises c (later previous (span_in c item)) items) h in
    let further = follow_later previous (span_in c item) parts.0 in
    ap (λ (t : Bool). held_after_items c b n items (cond t (held_as item) cell)) (new_event c b n item ∙ ap (λ (t : Bool). t && nat_lt b n) (is_not_event c n previous item parts.0 below))
    ∙ nothing_new c b n (later previous (span_in c item)) items cell parts.1 (omega arith)

abbrev pub text_cell : List ℕ → Cell
text_cell text = record { value = 0; body = text }

-- what the item that is the event of a number leaves
abbrev Leaves : List ℕ → ℕ → ℕ → Item → List Item → Option Cell → Type 0
Leaves c b n item items cell =
    held_after_items c b n items (cond (nat_lt b n) (held_as item) cell) ≡ cond (nat_lt b n) (option_or (option_map text_cell (text_of item)) cell) cell

at_event : (c : List ℕ) (b n : ℕ) (previous : Option ℕ) (item : Item) (items : List Item) (cell : Option Cell) → is_event_at c n item ≡ true →
    rises c (later previous (span_in c item)) items ≡ true → Leaves c b n item items cell
at_event c b n previous (Event e) items cell is h =
    let parts = and_parts (same e.channel c) (e.number == n) is in
    let number : e.number ≡ n = grind (arith, nat_tests, parts.1) in
    let spans : rises c (Some e.number) items ≡ true = ap (λ (t : Bool). rises c (later previous (cond t (Some (e.number, e.number)) None)) items) (sym parts.0) ∙ h in
    nothing_new c b n (Some e.number) items (cond (nat_lt b n) (held_as (Event e)) cell) spans (omega arith)
at_event c b n previous (Dropped channel first last) items cell is h = cc
at_event c b n previous (Loose count) items cell is h = cc

-- what items in order leave of a number: above the bookmark, the event that they have for it, where they have one
pub held_after_is : (c : List ℕ) (b n : ℕ) (previous : Option ℕ) (items : List Item) (cell : Option Cell) → rises c previous items ≡ true →
    held_after_items c b n items cell ≡ cond (nat_lt b n) (option_or (option_map text_cell (event_at c n items)) cell) cell
held_after_is c b n previous [] cell h = elim (nat_lt b n) as (λ t. cell ≡ cond t cell cell) [ true ↦ refl | false ↦ refl ]
held_after_is c b n previous (item ∷ items) cell h =
    let parts = and_parts (follows previous (span_in c item)) (rises c (later previous (span_in c item)) items) h in
    ap (λ (t : Bool). held_after_items c b n items (cond t (held_as item) cell)) (new_event c b n item)
    ∙ elim (is_event_at c n item) as (λ t. is_event_at c n item ≡ t → held_after_items c b n items (cond (t && nat_lt b n) (held_as item) cell)
    ≡ cond (nat_lt b n) (option_or (option_map text_cell (cond t (text_of item) (event_at c n items))) cell) cell) [
      | true ↦ λ is. at_event c b n previous item items cell is parts.1
      | false ↦ λ is. held_after_is c b n (later previous (span_in c item)) items cell parts.1
    ] refl

-- ---- held events by number

abbrev body_of : ℕ × Cell → ℕ × List ℕ
body_of e = (e.0, e.1.body)

abbrev pub text_in : Option Cell → Option (List ℕ)
text_in cell = option_map (λ (k : Cell). k.body) cell

texts_of : Rows → List ℕ → List ℕ → List ℕ → List (ℕ × List ℕ)
texts_of rows u s c = map body_of (numbered 3 u s c 0 rows)

held_texts : (rows : Rows) (u s c : List ℕ) → held_after rows u s c 0 ≡ map (event_of c) (texts_of rows u s c)
unfolding texts_of
held_texts rows u s c = ap (map (event_of_row c)) (rows_numbered 3 u s c 0 rows) ∙ fused (numbered 3 u s c 0 rows)
  where
    fused : (es : List (ℕ × Cell)) → map (event_of_row c) (map (own_row 3 u s c) es) ≡ map (event_of c) (map body_of es)
    fused [] = refl
    fused (e ∷ es) = ap (λ events. event_of c (body_of e) ∷ events) (fused es)

below_bodies : (k : ℕ) (es : List (ℕ × Cell)) → below_all nat_cmp k (map body_of es) ≡ below_all nat_cmp k es
below_bodies k [] = refl
below_bodies k (e ∷ es) = ap (λ (t : Bool). is_lt (nat_cmp k e.0) && t) (below_bodies k es)

sorted_bodies : (es : List (ℕ × Cell)) → is_sorted nat_cmp (map body_of es) ≡ is_sorted nat_cmp es
sorted_bodies [] = refl
sorted_bodies (e ∷ es) = λ i. below_bodies e.0 es i && sorted_bodies es i

find_bodies : (n : ℕ) (es : List (ℕ × Cell)) → find nat_cmp n (map body_of es) ≡ text_in (find nat_cmp n es)
find_bodies n [] = refl
find_bodies n (e ∷ es) = elim (eq_by_cmp nat_cmp n e.0) as (λ t. cond t (Some e.1.body) (find nat_cmp n (map body_of es)) ≡ text_in (cond t (Some e.1) (find nat_cmp n es))) [
  | true ↦ refl
  | false ↦ find_bodies n es
]

find_text : (rows : Rows) (u s c : List ℕ) (n : ℕ) → find nat_cmp n (texts_of rows u s c) ≡ text_in (cond (nat_lt 0 n) (finite.get rows (held_key u s c n)) None)
unfolding texts_of
find_text rows u s c n = find_bodies n (numbered 3 u s c 0 rows) ∙ ap text_in (find_numbered 3 u s c 0 rows n)

-- what is held is what is wanted where it is so number by number
pub held_are : (query : QueryList) (c : List ℕ) (records : History) (start t : ℕ) (ranges : List Range) (rows : Rows) (u s : List ℕ) →
    ((n : ℕ) → text_in (cond (nat_lt 0 n) (finite.get rows (held_key u s c n)) None) ≡ wanted query c records start t ranges n) → held_after rows u s c 0 ≡ wanted_events query c records start t ranges
unfolding texts_of
held_are query c records start t ranges rows u s same =
    held_texts rows u s c
    ∙ texts_are query c records start t ranges (texts_of rows u s c) (subst T (sym (sorted_bodies (numbered 3 u s c 0 rows))) (numbered_sorted 3 u s c 0 rows))
    (λ n. find_text rows u s c n ∙ same n)

-- and then it is so number by number
pub held_were : (query : QueryList) (c : List ℕ) (records : History) (start t : ℕ) (ranges : List Range) (rows : Rows) (u s : List ℕ) → held_after rows u s c 0 ≡ wanted_events query c records start t ranges →
    (n : ℕ) → text_in (cond (nat_lt 0 n) (finite.get rows (held_key u s c n)) None) ≡ wanted query c records start t ranges n
held_were query c records start t ranges rows u s same n =
    sym (find_text rows u s c n) ∙ texts_were query c records start t ranges (texts_of rows u s c) (sym (held_texts rows u s c) ∙ same) n

-- ---- what is wanted above the bookmark, and up to it

le_up : (b t n : ℕ) → nat_lt b n ≡ true → nat_le n t ≡ nat_le n (max b t)
le_up b t n e = grind (arith, nat_tests)

lt_too : (start b n : ℕ) → start ≤ b → nat_lt b n ≡ true → nat_lt start n ≡ true
lt_too start b n le e = grind (arith, nat_tests)

le_past : (start b t n : ℕ) → start ≤ b → nat_lt b n ≡ true → (nat_lt b n && nat_le n t) ≡ (nat_lt start n && nat_le n (max b t))
le_past start b t n le e = λ i. (e ∙ sym (lt_too start b n le e)) i && le_up b t n e i

le_within : (b t n : ℕ) → nat_lt b n ≡ false → nat_le n b ≡ nat_le n (max b t)
le_within b t n e = grind (arith, nat_tests)

not_up : (b n : ℕ) → nat_lt b n ≡ true → nat_le n b ≡ false
not_up b n e = grind (arith, nat_tests)

not_within : (start b n : ℕ) → nat_lt b n ≡ true → (nat_lt start n && nat_le n b) ≡ false
not_within start b n e = ap (λ (t : Bool). nat_lt start n && t) (not_up b n e) ∙ and_no (nat_lt start n)

pub in_joined : (b : ℕ) (marks dropped : List Range) (n : ℕ) → in_ranges (marks ++ clip b dropped) n ≡ in_ranges marks n || (nat_lt b n && in_ranges dropped n)
in_joined b marks dropped n = in_ranges-append marks (clip b dropped) n ∙ ap (λ (t : Bool). in_ranges marks n || t) (in_clip b dropped n)

or_no : (a : Bool) → a || false ≡ a
or_no true = refl
or_no false = refl

-- above the bookmark the batch's reach and its dropped ranges decide
wanted_above : (query : QueryList) (c : List ℕ) (records : History) (start b t : ℕ) (marks dropped : List Range) (n : ℕ) → start ≤ b → EndBy b marks → nat_lt b n ≡ true →
    wanted query c records b t dropped n ≡ wanted query c records start (max b t) (marks ++ clip b dropped) n
wanted_above query c records start b t marks dropped n le ends is =
    let free : in_ranges marks n ≡ false = in_none_past b marks n ends (lt_is b n is) in
    let joined : in_ranges (marks ++ clip b dropped) n ≡ in_ranges dropped n = in_joined b marks dropped n ∙ (λ i. free i || (is i && in_ranges dropped n)) in
    λ i. cond (le_past start b t n le is i && not (sym joined i)) (selected_at query c records n) None

-- up to it the marks that were there do
wanted_within : (query : QueryList) (c : List ℕ) (records : History) (start b t : ℕ) (marks dropped : List Range) (n : ℕ) → nat_lt b n ≡ false →
    wanted query c records start b marks n ≡ wanted query c records start (max b t) (marks ++ clip b dropped) n
wanted_within query c records start b t marks dropped n is =
    let joined : in_ranges (marks ++ clip b dropped) n ≡ in_ranges marks n = in_joined b marks dropped n ∙ ap (λ (x : Bool). in_ranges marks n || (x && in_ranges dropped n)) is ∙ or_no (in_ranges marks n) in
    λ i. cond (nat_lt start n && le_within b t n is i && not (sym joined i)) (selected_at query c records n) None

unwanted_past : (query : QueryList) (c : List ℕ) (records : History) (start b : ℕ) (marks : List Range) (n : ℕ) → nat_lt b n ≡ true → wanted query c records start b marks n ≡ None
unwanted_past query c records start b marks n is = ap (λ (t : Bool). cond (t && not (in_ranges marks n)) (selected_at query c records n) None) (not_within start b n is)

no_cell : (cell : Option Cell) → text_in cell ≡ None → cell ≡ None
no_cell None e = refl
no_cell (Some cell) e = cc

text_back : (text : Option (List ℕ)) → text_in (option_or (option_map text_cell text) None) ≡ text
text_back None = refl
text_back (Some text) = refl

lt_true : (a n : ℕ) → a < n → nat_lt a n ≡ true
lt_true a n h = grind (arith, nat_tests)

both_above : (a b n : ℕ) → a < n → b < n → nat_lt a n ≡ nat_lt b n
both_above a b n e f = lt_true a n e ∙ sym (lt_true b n f)

-- what is wanted of a number above two starts is the same
wanted_between : (query : QueryList) (c : List ℕ) (records : History) (start start' t : ℕ) (ranges : List Range) (n : ℕ) → start < n → start' < n →
    wanted query c records start t ranges n ≡ wanted query c records start' t ranges n
wanted_between query c records start start' t ranges n above above' =
    ap (λ (b : Bool). cond (b && nat_le n t && not (in_ranges ranges n)) (selected_at query c records n) None) (both_above start start' n above above')

-- what a batch that fits above a start leaves of a number is what is wanted of it
pub held_step : (query : QueryList) (c : List ℕ) (records : History) (start from b t : ℕ) (marks dropped : List Range) (n : ℕ) (event : Option (List ℕ)) (cell : Option Cell) → start ≤ b → from ≤ b →
    EndBy b marks → (from < n → event ≡ wanted query c records from t dropped n) → text_in (cond (nat_lt 0 n) cell None) ≡ wanted query c records start b marks n →
    text_in (cond (nat_lt 0 n) (cond (nat_lt b n) (option_or (option_map text_cell event) cell) cell) None) ≡ wanted query c records start (max b t) (marks ++ clip b dropped) n
held_step query c records start from b t marks dropped n event cell begun le ends fits old =
    elim (nat_lt b n) as (λ x. nat_lt b n ≡ x →
    text_in (cond (nat_lt 0 n) (cond x (option_or (option_map text_cell event) cell) cell) None) ≡ wanted query c records start (max b t) (marks ++ clip b dropped) n) [
      | true ↦ λ is.
          let positive = above_zero b n is in
          let above : b < n = lt_is b n is in
          let none : cell ≡ None = no_cell cell (ap (λ (x : Bool). text_in (cond x cell None)) (sym positive) ∙ old ∙ unwanted_past query c records start b marks n is) in
          (λ i. text_in (cond (positive i) (option_or (option_map text_cell event) (none i)) None))
          ∙ text_back event
          ∙ fits (omega arith)
          ∙ wanted_between query c records from b t dropped n (omega arith) above
          ∙ wanted_above query c records start b t marks dropped n begun ends is
      | false ↦ λ is. old ∙ wanted_within query c records start b t marks dropped n is
    ] refl
