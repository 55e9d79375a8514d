-- The marks of dropped records after a batch, by number.
use Rattle.std.proofs.Common.{◌≡◌, ℕ, ◌+◌, ◌<◌, ◌≤◌, Bool, true, false, ◌&&◌, cond, List, [], ◌∷◌, ◌++◌, map, refl, ap, sym, ◌∙◌, subst, Option, Some, None, nat_lt, arith}
use Rattle.std.specs.Cmp.{eq_by_cmp_equiv, nat_cmp_total}
use Rattle.std.specs.FinMap as finite
use Rattle.std.specs.FinMap.Entries.{below_all}
use Rattle.std.specs.FinMap.{find, is_sorted}
use Rattle.std.specs.List.{flat_map}
use Rattle.std.specs.Option.{option_or}
use Rattle.std.specs.Ordering.{eq_by_cmp, is_eq, nat_cmp}
use Rattle.std.specs.Prelude.{T, max}
use Rattle.wef_base.specs.Names.{same}
use Rattle.wef_batch.specs.Reach.{loose_sum, reach}
use Rattle.wef_batch.specs.WellFormed.{is_in}
use Rattle.wef_batch.specs.declared.items.Batch.{Batch}
use Rattle.wef_batch.specs.declared.items.Item.TheVariants.{Event, Dropped, Loose}
use Rattle.wef_batch.specs.declared.items.Item.{Item}
use Rattle.wef_collector.proofs.Hits.{found-append, found_flat_other, found_if, found_if_other, hits}
use Rattle.wef_collector_rows.specs.Bookmarks.{bookmark_at}
use Rattle.wef_collector_rows.specs.Keys.{bookmark_key, held_key, loose_key, mark_key}
use Rattle.wef_collector.specs.Taken.{item_changes, loose_changes, move_changes, put, reach_changes, taken}
use Rattle.wef_keeper.specs.Rows.{found_after, Rows}
use Rattle.wef_keeper.specs.declared.keys.Cell.{Cell}
use Rattle.wef_building.specs.Fits.{ranges_in}
use Rattle.wef_building.specs.Wanted.{AreRising, EndBy, Range}
use Rattle.std.proofs.lemmas.List.{map-append}
use Rattle.wef_pairs.specs.Pairs.{marks_of, range_of_row}
use Rattle.wef_pairs.proofs.Numbered.{above_zero, below, find-append, find_above, find_numbered, key_cmp_number, lt_is, no_tie, no_tie_back, not_below, numbered, numbered_sorted, own_row, rows_numbered, same_numbers, tie_is}
use Rattle.wef_pairs.proofs.Ranges.{clip, rising-append}
use Rattle.wef_pairs.proofs.Spared.{missed_channel, touched}

-- ---- what the items of a channel in order leave at the key of a mark

abbrev pub as_cells : List Range → List (ℕ × Cell)
as_cells [] = []
as_cells (r ∷ rs) = (r.0, record { value = r.1; body = [] }) ∷ as_cells rs

abbrev pub range_of : ℕ × Cell → Range
range_of e = (e.0, e.1.value)

pub ranges_back : (rs : List Range) → map range_of (as_cells rs) ≡ rs
ranges_back [] = refl
ranges_back (r ∷ rs) = ap (λ ss. r ∷ ss) (ranges_back rs)

-- what ranges leave at the mark of a number, one after the other
abbrev marked : ℕ → List Range → Option Cell → Option Cell
marked n [] cell = cell
marked n (r ∷ rs) cell = marked n rs (cond (eq_by_cmp nat_cmp n r.0) (Some (record { value = r.1; body = [] })) cell)

-- entries whose ranges rise are in order
pub rising_below : (j k : ℕ) (es : List (ℕ × Cell)) → j ≤ k → AreRising k (map range_of es) → below_all nat_cmp j es ≡ true
rising_below j k [] le h = refl
rising_below j k (e ∷ es) le h =
    let first = h.0 in
    let size = h.1 in
    (λ i. below j e.0 (omega arith) i && rising_below j e.1.value es (omega arith) h.2 i)

pub rising_sorted : (k : ℕ) (es : List (ℕ × Cell)) → AreRising k (map range_of es) → T (is_sorted nat_cmp es)
rising_sorted k [] h = tt
rising_sorted k (e ∷ es) h = subst (λ (t : Bool). T (t && is_sorted nat_cmp es)) (sym (rising_below e.0 e.1.value es h.1 h.2)) (rising_sorted e.1.value es h.2)

marked_above : (n k : ℕ) (rs : List Range) (cell : Option Cell) → AreRising k rs → n ≤ k → marked n rs cell ≡ cell
marked_above n k [] cell h le = refl
marked_above n k (r ∷ rs) cell h le =
    let first = h.0 in
    let size = h.1 in
    ap (λ (t : Bool). marked n rs (cond t (Some (record { value = r.1; body = [] })) cell)) (no_tie n r.0 (omega arith)) ∙ marked_above n r.1 rs cell h.2 (omega arith)

marked_is : (n k : ℕ) (rs : List Range) (cell : Option Cell) → AreRising k rs → marked n rs cell ≡ option_or (find nat_cmp n (as_cells rs)) cell
marked_is n k [] cell h = refl
marked_is n k (r ∷ rs) cell h =
    elim (eq_by_cmp nat_cmp n r.0) as (λ t. eq_by_cmp nat_cmp n r.0 ≡ t → marked n rs (cond t (Some (record { value = r.1; body = [] })) cell)
    ≡ option_or (cond t (Some (record { value = r.1; body = [] })) (find nat_cmp n (as_cells rs))) cell) [
      | true ↦ λ is.
          let at = tie_is n r.0 is in
          let size = h.1 in
          marked_above n r.1 rs (Some (record { value = r.1; body = [] })) h.2 (omega arith)
      | false ↦ λ is. marked_is n r.1 rs cell h.2
    ] refl

-- the test of two marks of a channel
marks_tie : (u s c : List ℕ) (m n : ℕ) → hits (mark_key u s c m) (mark_key u s c n) ≡ eq_by_cmp nat_cmp n m
marks_tie u s c m n = ap is_eq (key_cmp_number 4 u s c m n) ∙ (eq_by_cmp_equiv nat_cmp_total).symm m n

item_marked : (u s c : List ℕ) (b n : ℕ) (item : Item) (items : List Item) (cell : Option Cell) →
    marked n (clip b (ranges_in c items)) (found_after (item_changes u s c b item) (mark_key u s c n) cell) ≡ marked n (clip b (ranges_in c (item ∷ items))) cell
item_marked u s c b n (Event e) items cell =
    ap (marked n (clip b (ranges_in c items))) (found_if_other (same e.channel c && nat_lt b e.number) (put (held_key u s c e.number) 0 e.text) (mark_key u s c n) cell refl)
item_marked u s c b n (Dropped channel first last) items cell =
    ap (marked n (clip b (ranges_in c items)))
    (found_if (same channel c && nat_lt b last) (put (mark_key u s c (max first (b + 1))) last []) (mark_key u s c n) cell
    ∙ ap (λ (t : Bool). cond (same channel c && nat_lt b last) (cond t (Some (record { value = last; body = [] })) cell) cell) (marks_tie u s c (max first (b + 1)) n))
    ∙ elim (same channel c) as (λ mine. marked n (clip b (ranges_in c items)) (cond (mine && nat_lt b last) (cond (eq_by_cmp nat_cmp n (max first (b + 1))) (Some (record { value = last; body = [] })) cell) cell)
    ≡ marked n (clip b (cond mine ((first, last) ∷ ranges_in c items) (ranges_in c items))) cell) [
      | true ↦ by_test (nat_lt b last)
      | false ↦ refl
    ]
  where
    by_test : (above : Bool) →
        marked n (clip b (ranges_in c items)) (cond above (cond (eq_by_cmp nat_cmp n (max first (b + 1))) (Some (record { value = last; body = [] })) cell) cell)
        ≡ marked n (cond above ((max first (b + 1), last) ∷ clip b (ranges_in c items)) (clip b (ranges_in c items))) cell
    by_test true = refl
    by_test false = refl
item_marked u s c b n (Loose count) items cell = refl

items_marked : (u s c : List ℕ) (b n : ℕ) (items : List Item) (cell : Option Cell) →
    found_after (flat_map (item_changes u s c b) items) (mark_key u s c n) cell ≡ marked n (clip b (ranges_in c items)) cell
items_marked u s c b n [] cell = refl
items_marked u s c b n (item ∷ items) cell =
    found-append (item_changes u s c b item) (flat_map (item_changes u s c b) items) (mark_key u s c n) cell
    ∙ items_marked u s c b n items (found_after (item_changes u s c b item) (mark_key u s c n) cell)
    ∙ item_marked u s c b n item items cell

-- moving a bookmark touches no mark
move_keeps_marks : (u s c : List ℕ) (b t sum n : ℕ) (cell : Option Cell) → found_after (move_changes u s c b t sum) (mark_key u s c n) cell ≡ cell
move_keeps_marks u s c b t sum n cell = by_test (nat_lt b t)
  where
    by_test : (moves : Bool) → found_after (cond moves (loose_changes u s c b t sum ++ put (bookmark_key u s c) t [] ∷ []) []) (mark_key u s c n) cell ≡ cell
    by_test true = found-append (loose_changes u s c b t sum) (put (bookmark_key u s c) t [] ∷ []) (mark_key u s c n) cell ∙ found_if_other (nat_lt 0 sum) _ (mark_key u s c n) cell refl
    by_test false = refl

-- what a batch in order leaves at the mark of a number of a channel that it reaches
pub reach_marks : (u s c : List ℕ) (b t n : ℕ) (batch : Batch) (cell : Option Cell) → AreRising b (clip b (ranges_in c batch.items)) →
    found_after (reach_changes u s c b batch (Some t)) (mark_key u s c n) cell ≡ option_or (find nat_cmp n (as_cells (clip b (ranges_in c batch.items)))) cell
reach_marks u s c b t n batch cell rising =
    found-append (flat_map (item_changes u s c b) batch.items) (move_changes u s c b t (loose_sum batch.items)) (mark_key u s c n) cell
    ∙ move_keeps_marks u s c b t (loose_sum batch.items) n (found_after (flat_map (item_changes u s c b) batch.items) (mark_key u s c n) cell)
    ∙ items_marked u s c b n batch.items cell
    ∙ marked_is n b (clip b (ranges_in c batch.items)) cell rising

-- ---- marks by number

marks_numbered : (rows : Rows) (u s c : List ℕ) → marks_of rows u s c ≡ map range_of (numbered 4 u s c 0 rows)
marks_numbered rows u s c = ap (map range_of_row) (rows_numbered 4 u s c 0 rows) ∙ fused (numbered 4 u s c 0 rows)
  where
    fused : (es : List (ℕ × Cell)) → map range_of_row (map (own_row 4 u s c) es) ≡ map range_of es
    fused [] = refl
    fused (e ∷ es) = ap (λ rs. range_of e ∷ rs) (fused es)

or_twice : (o x : Option Cell) → option_or o (option_or o x) ≡ option_or o x
or_twice None x = refl
or_twice (Some cell) x = refl

-- what a batch that reaches a channel leaves at the mark of a number
pub marks_by_taking : (rows : Rows) (u s : List ℕ) (channels : List (List ℕ)) (batch : Batch) (now : ℕ) (c : List ℕ) (t n : ℕ) → is_in channels c ≡ true → reach c batch ≡ Some t →
    AreRising (bookmark_at rows u s c) (clip (bookmark_at rows u s c) (ranges_in c batch.items)) →
    finite.get (taken rows u s channels batch now) (mark_key u s c n)
    ≡ option_or (find nat_cmp n (as_cells (clip (bookmark_at rows u s c) (ranges_in c batch.items)))) (finite.get rows (mark_key u s c n))
marks_by_taking rows u s channels batch now c t n listed reached rising =
    let b = bookmark_at rows u s c in
    let here = find nat_cmp n (as_cells (clip b (ranges_in c batch.items))) in
    touched rows u s channels batch now c (mark_key u s c n) (option_or here) listed (missed_channel u s c (mark_key u s c n) refl) refl
    (λ cell. ap (λ r. found_after (reach_changes u s c b batch r) (mark_key u s c n) cell) reached ∙ reach_marks u s c b t n batch cell rising)
    (or_twice here)

-- entries whose ranges rise and end by a number have none behind it
find_past : (k t n : ℕ) (es : List (ℕ × Cell)) → AreRising k (map range_of es) → EndBy t (map range_of es) → t < n → find nat_cmp n es ≡ None
find_past k t n [] rising ends past = refl
find_past k t n (e ∷ es) rising ends past =
    let size = rising.1 in
    let end = ends.0 in
    (λ i. cond (no_tie_back e.0 n (omega arith) i) (Some e.1) (find_past e.1.value t n es rising.2 ends.1 past i))

-- what is found of a number where the new lie above the old
joined_find : (b k n : ℕ) (old new : List (ℕ × Cell)) (cell : Option Cell) → AreRising k (map range_of old) → EndBy b (map range_of old) → AreRising b (map range_of new) →
    find nat_cmp n old ≡ cond (nat_lt 0 n) cell None → cond (nat_lt 0 n) (option_or (find nat_cmp n new) cell) None ≡ find nat_cmp n (old ++ new)
joined_find b k n old new cell rising ends above found =
    elim (nat_lt b n) as (λ t. nat_lt b n ≡ t → cond (nat_lt 0 n) (option_or (find nat_cmp n new) cell) None ≡ find nat_cmp n (old ++ new)) [
      | true ↦ λ is.
          let none : find nat_cmp n old ≡ None = find_past k b n old rising ends (lt_is b n is) in
          let positive = above_zero b n is in
          let empty : cell ≡ None = ap (λ (t : Bool). cond t cell None) (sym positive) ∙ sym found ∙ none in
          ap (λ (t : Bool). cond t (option_or (find nat_cmp n new) cell) None) positive
          ∙ ap (option_or (find nat_cmp n new)) empty
          ∙ or_none (find nat_cmp n new)
          ∙ ap (λ (o : Option Cell). option_or o (find nat_cmp n new)) (sym none)
          ∙ sym (find-append n old new)
      | false ↦ λ is.
          let none : find nat_cmp n new ≡ None = find_above n b new (not_below b n is) (rising_below b b new (omega arith) above) in
          ap (λ (o : Option Cell). cond (nat_lt 0 n) (option_or o cell) None) none
          ∙ sym found
          ∙ sym (or_none (find nat_cmp n old))
          ∙ ap (option_or (find nat_cmp n old)) (sym none)
          ∙ sym (find-append n old new)
    ] refl
  where
    or_none : (o : Option Cell) → option_or o None ≡ o
    or_none None = refl
    or_none (Some cell) = refl

-- the marks after a batch: those that were there, and what is new above the bookmark
pub marks_after : (rows : Rows) (u s : List ℕ) (channels : List (List ℕ)) (batch : Batch) (now : ℕ) (c : List ℕ) (start t : ℕ) → is_in channels c ≡ true → reach c batch ≡ Some t →
    start ≤ bookmark_at rows u s c → AreRising start (marks_of rows u s c) → EndBy (bookmark_at rows u s c) (marks_of rows u s c) → AreRising (bookmark_at rows u s c) (clip (bookmark_at rows u s c) (ranges_in c batch.items)) →
    marks_of (taken rows u s channels batch now) u s c ≡ marks_of rows u s c ++ clip (bookmark_at rows u s c) (ranges_in c batch.items)
marks_after rows u s channels batch now c start t listed reached begun rising ends above =
    let b = bookmark_at rows u s c in
    let ranges = clip b (ranges_in c batch.items) in
    let old = numbered 4 u s c 0 rows in
    let new = as_cells ranges in
    let after = taken rows u s channels batch now in
    let old_is : marks_of rows u s c ≡ map range_of old = marks_numbered rows u s c in
    let both : map range_of (old ++ new) ≡ marks_of rows u s c ++ ranges = map-append range_of old new ∙ (λ i. sym old_is i ++ ranges_back ranges i) in
    let sorted : T (is_sorted nat_cmp (old ++ new)) = rising_sorted start (old ++ new) (subst (AreRising start) (sym both) (rising-append start b (marks_of rows u s c) ranges begun rising ends above)) in
    marks_numbered after u s c
    ∙ ap (map range_of) (same_numbers (numbered 4 u s c 0 after) (old ++ new) (numbered_sorted 4 u s c 0 after) sorted
    (λ n. find_numbered 4 u s c 0 after n
    ∙ ap (λ (cell : Option Cell). cond (nat_lt 0 n) cell None) (marks_by_taking rows u s channels batch now c t n listed reached above)
    ∙ joined_find b start n old new (finite.get rows (mark_key u s c n)) (subst (AreRising start) old_is rising) (subst (EndBy b) old_is ends) (subst (AreRising b) (sym (ranges_back ranges)) above) (find_numbered 4 u s c 0 rows n)))
    ∙ both

-- and at number 0 none, where none was there
pub no_mark_by_taking : (rows : Rows) (u s : List ℕ) (channels : List (List ℕ)) (batch : Batch) (now : ℕ) (c : List ℕ) (t : ℕ) → is_in channels c ≡ true → reach c batch ≡ Some t →
    AreRising (bookmark_at rows u s c) (clip (bookmark_at rows u s c) (ranges_in c batch.items)) → finite.get rows (mark_key u s c 0) ≡ None →
    finite.get (taken rows u s channels batch now) (mark_key u s c 0) ≡ None
no_mark_by_taking rows u s channels batch now c t listed reached above none =
    let b = bookmark_at rows u s c in
    let new = as_cells (clip b (ranges_in c batch.items)) in
    marks_by_taking rows u s channels batch now c t 0 listed reached above
    ∙ (λ i. option_or (find_above 0 b new (omega arith) (rising_below b b new (omega arith) (subst (AreRising b) (sym (ranges_back (clip b (ranges_in c batch.items)))) above)) i) (none i))

-- ---- loose records

item_keeps_loose : (u s c : List ℕ) (b n : ℕ) (item : Item) (cell : Option Cell) → found_after (item_changes u s c b item) (loose_key u s c n) cell ≡ cell
item_keeps_loose u s c b n (Event e) cell = found_if_other (same e.channel c && nat_lt b e.number) (put (held_key u s c e.number) 0 e.text) (loose_key u s c n) cell refl
item_keeps_loose u s c b n (Dropped channel first last) cell =
    found_if_other (same channel c && nat_lt b last) (put (mark_key u s c (max first (b + 1))) last []) (loose_key u s c n) cell refl
item_keeps_loose u s c b n (Loose count) cell = refl

-- none are counted where none are gone
move_keeps_loose : (u s c : List ℕ) (b t n : ℕ) (cell : Option Cell) → found_after (move_changes u s c b t 0) (loose_key u s c n) cell ≡ cell
move_keeps_loose u s c b t n cell = by_test (nat_lt b t)
  where
    by_test : (moves : Bool) → found_after (cond moves (loose_changes u s c b t 0 ++ put (bookmark_key u s c) t [] ∷ []) []) (loose_key u s c n) cell ≡ cell
    by_test true = refl
    by_test false = refl

pub reach_loose : (u s c : List ℕ) (b t n : ℕ) (batch : Batch) (cell : Option Cell) → loose_sum batch.items ≡ 0 →
    found_after (reach_changes u s c b batch (Some t)) (loose_key u s c n) cell ≡ cell
reach_loose u s c b t n batch cell none =
    found-append (flat_map (item_changes u s c b) batch.items) (move_changes u s c b t (loose_sum batch.items)) (loose_key u s c n) cell
    ∙ ap (λ sum. found_after (move_changes u s c b t sum) (loose_key u s c n) (found_after (flat_map (item_changes u s c b) batch.items) (loose_key u s c n) cell)) none
    ∙ move_keeps_loose u s c b t n (found_after (flat_map (item_changes u s c b) batch.items) (loose_key u s c n) cell)
    ∙ found_flat_other (item_changes u s c b) batch.items (loose_key u s c n) cell (item_keeps_loose u s c b n)
