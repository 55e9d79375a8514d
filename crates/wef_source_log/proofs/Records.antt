-- What a page of a channel's records says of each number.
use Rattle.std.proofs.Common.{◌≡◌, ℕ, zero, suc, ◌<◌, ◌≤◌, Bool, true, false, cond, T, ◌&&◌, List, [], ◌∷◌, take, map, refl, ap, sym, ◌∙◌, subst, arith, inl, inr, Some, None}
use Rattle.std.proofs.lemmas.Bool.{and_parts}
use Rattle.std.proofs.lemmas.List.{take-map}
use Rattle.std.specs.FinMap as finite
use Rattle.std.specs.FinMap.{find, is_sorted}
use Rattle.std.specs.FinMap.Entries.{below_all, find-where_key, is_sorted-where_key, where_key}
use Rattle.std.specs.List.{AllByRecursion, list_all}
use Rattle.std.specs.Ordering.{is_lt}
use Rattle.std.specs.Option.{option_map}
use Rattle.std.specs.Prelude.{Option, IfSome, ◌⊎◌}
use Rattle.wef_event.specs.Events.{Event}
use Rattle.wef_keeper.specs.Forms.{IsPassedAt}
use Rattle.wef_keeper.specs.Rows.{Rows, is_after, key_cmp, key_cmp_exact, row_of}
use Rattle.wef_keeper.specs.Sections.{is_under, rows_under}
use Rattle.wef_keeper.specs.declared.keys.Cell.{Cell}
use Rattle.wef_keeper.specs.declared.keys.Depth.TheVariants.{Channel}
use Rattle.wef_keeper.specs.declared.keys.Key.{Key}
use Rattle.wef_keeper.specs.declared.keys.Row.{Row}
use Rattle.wef_source_log.specs.Forms.{is_formed}
use Rattle.wef_source_log.specs.Judged.{JudgesPage}
use Rattle.wef_source_log.specs.Keys.{record_key}
use Rattle.wef_source_log.specs.LogWindow.{event_of_row, last_number, records_after}
use Rattle.wef_source_log.proofs.Cells.{hits}
use Rattle.wef_source_log.proofs.Contents.{hit, is_wanted, rose, section_entries, wanted_record}
use Rattle.wef_source_log.proofs.Pages.{own_key}

-- ---- a record that stands is one of those above each lower number

found_in : (P : Row → Type 0) (q : Key) (cell : Cell) (es : List (Key × Cell)) → find key_cmp q es ≡ Some cell → AllByRecursion P (map row_of es) → P (row_of (q, cell))
found_in P q cell [] is all = cc
found_in P q cell (e ∷ es) is all = by (λ is. found_in P q cell es is all.1) (hits q e.0) refl is
  where
    by : (find key_cmp q es ≡ Some cell → P (row_of (q, cell))) → (t : Bool) → hits q e.0 ≡ t → cond t (Some e.1) (find key_cmp q es) ≡ Some cell → P (row_of (q, cell))
    by rest true same is =
        let key = hit q e.0 same in
        let value : e.1 ≡ cell = cc in
        subst P (λ i. row_of (sym key i, value i)) all.0
    by rest false miss is = rest is

section_is : (c : List ℕ) (after : ℕ) (rows : Rows) → rows_under Channel (record_key c after) rows ≡ map row_of (where_key key_cmp (is_wanted c after) (finite.entries rows))
section_is c after rows = section_entries (is_after (record_key c after)) (is_under Channel (record_key c after)) (finite.entries rows)

stands_above : (P : Row → Type 0) (rows : Rows) (c : List ℕ) (after n : ℕ) (cell : Cell) → AllByRecursion P (rows_under Channel (record_key c after) rows) → after < n → finite.get rows (record_key c n) ≡ Some cell
    → P (row_of (record_key c n, cell))
stands_above P rows c after n cell all above is =
    let wanted = is_wanted c after in
    let there : find key_cmp (record_key c n) (where_key key_cmp wanted (finite.entries rows)) ≡ Some cell =
    find-where_key key_cmp wanted (record_key c n) (λ x tied. ap wanted (sym (key_cmp_exact (record_key c n) x tied))) (finite.entries rows)
    ∙ ap (λ (b : Bool). cond b (find key_cmp (record_key c n) (finite.entries rows)) None) (wanted_record c after n above)
    ∙ sym (finite.get-entries rows (record_key c n)) ∙ is
    in
    found_in P (record_key c n) cell (where_key key_cmp wanted (finite.entries rows)) there (subst (AllByRecursion P) (section_is c after rows) all)

-- ---- the numbers of a section rise

abbrev Rises : ℕ → List Row → Type 0
Rises m [] = Unit {0}
Rises m (row ∷ rows) = (m < row.key.number) × Rises row.key.number rows

-- a key of the channel's records, above a number
abbrev IsRecordAbove : List ℕ → ℕ → Key × Cell → Type 0
IsRecordAbove c m e = (e.0 ≡ record_key c e.0.number) × (m < e.0.number)

wanted_in : (c : List ℕ) (after : ℕ) (es : List (Key × Cell)) → AllByRecursion (IsRecordAbove c after) (where_key key_cmp (is_wanted c after) es)
wanted_in c after [] = tt
wanted_in c after (e ∷ es) = by (wanted_in c after es) (is_wanted c after e.0) refl
  where
    by : AllByRecursion (IsRecordAbove c after) (where_key key_cmp (is_wanted c after) es) → (t : Bool) → is_wanted c after e.0 ≡ t → AllByRecursion (IsRecordAbove c after) (cond t (e ∷ where_key key_cmp (is_wanted c after) es) (where_key key_cmp (is_wanted c after) es))
    by rest true wanted =
        let parts = and_parts (is_after (record_key c after) e.0) (is_under Channel (record_key c after) e.0) wanted in
        let own = own_key c after e.0 parts.1 in
        ((own, rose c after e.0.number (subst (λ (k : Key). is_after (record_key c after) k ≡ true) own parts.0)), rest)
    by rest false wanted = rest

first : (a b : Bool) → T (a && b) → T a
first true b p = tt
first false b p = p

second : (a b : Bool) → T (a && b) → T b
second true b p = p
second false b p = absurd p

holds : (t : Bool) → T t → t ≡ true
holds true p = refl
holds false p = absurd p

behind_first : (c : List ℕ) (m : ℕ) (e : Key × Cell) (es : List (Key × Cell)) → e.0 ≡ record_key c e.0.number → T (below_all key_cmp e.0 es) → AllByRecursion (IsRecordAbove c m) es
    → AllByRecursion (IsRecordAbove c e.0.number) es
behind_first c m e [] own below all = tt
behind_first c m e (f ∷ fs) own below all =
    let less = holds (is_lt (key_cmp e.0 f.0)) (first (is_lt (key_cmp e.0 f.0)) (below_all key_cmp e.0 fs) below) in
    let both : is_after (record_key c e.0.number) (record_key c f.0.number) ≡ true = subst (λ (k : Key). is_after k (record_key c f.0.number) ≡ true) own (subst (λ (k : Key). is_after e.0 k ≡ true) all.0.0 less) in
    ((all.0.0, rose c e.0.number f.0.number both), behind_first c m e fs own (second (is_lt (key_cmp e.0 f.0)) (below_all key_cmp e.0 fs) below) all.1)

rises_in : (c : List ℕ) (m : ℕ) (es : List (Key × Cell)) → T (is_sorted key_cmp es) → AllByRecursion (IsRecordAbove c m) es → Rises m (map row_of es)
rises_in c m [] sorted all = tt
rises_in c m (e ∷ es) sorted all =
    let below = first (below_all key_cmp e.0 es) (is_sorted key_cmp es) sorted in
    let rest = second (below_all key_cmp e.0 es) (is_sorted key_cmp es) sorted in
    (all.0.1, rises_in c e.0.number es rest (behind_first c m e es all.0.0 below all.1))

section_rises : (c : List ℕ) (after : ℕ) (rows : Rows) → Rises after (rows_under Channel (record_key c after) rows)
section_rises c after rows =
    subst (Rises after) (sym (section_is c after rows))
    (rises_in c after (where_key key_cmp (is_wanted c after) (finite.entries rows)) (is_sorted-where_key key_cmp (is_wanted c after) (finite.entries rows) (finite.entries_sorted rows)) (wanted_in c after (finite.entries rows)))

-- ---- a page

weaker : (P Q : Row → Type 0) → ((row : Row) → P row → Q row) → (rows : List Row) → AllByRecursion P rows → AllByRecursion Q rows
weaker P Q gives [] all = tt
weaker P Q gives (row ∷ rows) all = (gives row all.0, weaker P Q gives rows all.1)

all_above : (m k : ℕ) (rows : List Row) → m ≤ k → Rises k rows → AllByRecursion (λ (row : Row). m < row.key.number) rows
all_above m k [] least rises = tt
all_above m k (row ∷ rows) least rises = (up m k row.key.number least rises.0, all_above m row.key.number rows (over m k row.key.number least rises.0) rises.1)
  where
    up : (m k n : ℕ) → m ≤ k → k < n → m < n
    up m k n p q = omega arith

    over : (m k n : ℕ) → m ≤ k → k < n → m ≤ n
    over m k n p q = omega arith

-- a row that is of its form, or whose number is above this one
abbrev IsReadTo : ℕ → Row → Type 0
IsReadTo last row = (is_formed row ≡ true) ⊎ (last < row.key.number)

-- each row of a page is of its form, and each behind it has a number above the page's last
parts_read : (c : List ℕ) (max m : ℕ) (rows : List Row) → Rises m rows → list_all is_formed (take max rows) ≡ true
    → AllByRecursion (IsReadTo (last_number m (map (event_of_row c) (take max rows)))) rows
parts_read c zero m rows rises formed =
    weaker (λ (row : Row). m < row.key.number) (IsReadTo m) (λ row higher. inr higher) rows (all_above m m rows (omega arith) rises)
parts_read c (suc max) m [] rises formed = tt
parts_read c (suc max) m (row ∷ rows) rises formed =
    let parts = and_parts (is_formed row) (list_all is_formed (take max rows)) formed in
    (inl parts.0, parts_read c max row.key.number rows rises.1 parts.1)

-- each record up to the page's last number is of its form
pub page_read : (rows : Rows) (c : List ℕ) (after max : ℕ) → JudgesPage c after max rows → (n : ℕ) → after < n → n ≤ last_number after (take max (records_after rows c after)) → IsPassedAt is_formed (record_key c n) rows
page_read rows c after max judged n above below = by (finite.get rows (record_key c n)) refl
  where
    never : (n last : ℕ) → n ≤ last → last < n → ⊥
    never n last low high = omega arith

    by : (found : Option Cell) → finite.get rows (record_key c n) ≡ found → IfSome (option_map (λ cell. row_of (record_key c n, cell)) found) (λ row. is_formed row ≡ true)
    by None is = tt
    by (Some cell) is =
        let low = subst (λ (page : List Event). n ≤ last_number after page) (take-map (event_of_row c) max (rows_under Channel (record_key c after) rows)) below in
        elim (stands_above (IsReadTo (last_number after (map (event_of_row c) (take max (rows_under Channel (record_key c after) rows))))) rows c after n cell (parts_read c max after (rows_under Channel (record_key c after) rows) (section_rises c after rows) judged) above is) [
          | inl formed ↦ formed
          | inr higher ↦ absurd (never n (last_number after (map (event_of_row c) (take max (rows_under Channel (record_key c after) rows)))) low higher)
        ]

-- where a channel has no record above a number, none stands there
pub nothing_read : (rows : Rows) (c : List ℕ) (after : ℕ) → records_after rows c after ≡ [] → (n : ℕ) → after < n → IsPassedAt is_formed (record_key c n) rows
nothing_read rows c after none n above = by (finite.get rows (record_key c n)) refl
  where
    empty : (section : List Row) → map (event_of_row c) section ≡ [] → AllByRecursion (λ row. ⊥) section
    empty [] is = tt
    empty (row ∷ rows) is = cc

    by : (found : Option Cell) → finite.get rows (record_key c n) ≡ found → IfSome (option_map (λ cell. row_of (record_key c n, cell)) found) (λ row. is_formed row ≡ true)
    by None is = tt
    by (Some cell) is = absurd (stands_above (λ row. ⊥) rows c after n cell (empty (rows_under Channel (record_key c after) rows) none) above is)

-- the numbers of a page's records are at most its last
within_rows : (c : List ℕ) (max m : ℕ) (rows : List Row) → Rises m rows → (m ≤ last_number m (map (event_of_row c) (take max rows)))
    × AllByRecursion (λ (event : Event). event.number ≤ last_number m (map (event_of_row c) (take max rows))) (map (event_of_row c) (take max rows))
within_rows c zero m rows rises = (omega arith, tt)
within_rows c (suc max) m [] rises = (omega arith, tt)
within_rows c (suc max) m (row ∷ rows) rises =
    let rest = within_rows c max row.key.number rows rises.1 in
    (up m row.key.number (last_number row.key.number (map (event_of_row c) (take max rows))) rises.0 rest.0, (rest.0, rest.1))
  where
    up : (m k last : ℕ) → m < k → k ≤ last → m ≤ last
    up m k last p q = omega arith

pub page_within : (rows : Rows) (c : List ℕ) (after max : ℕ) → AllByRecursion (λ (event : Event). event.number ≤ last_number after (take max (records_after rows c after))) (take max (records_after rows c after))
page_within rows c after max =
    subst (λ (page : List Event). AllByRecursion (λ (event : Event). event.number ≤ last_number after page) page) (sym (take-map (event_of_row c) max (rows_under Channel (record_key c after) rows)))
    (within_rows c max after (rows_under Channel (record_key c after) rows) (section_rises c after rows)).1
