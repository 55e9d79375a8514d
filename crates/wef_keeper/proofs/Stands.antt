-- Each row of a section stands in the rows.
use Rattle.std.proofs.Common.{◌≡◌, Bool, true, false, cond, T, ◌&&◌, List, [], ◌∷◌, refl, ap, ◌∙◌}
use Rattle.std.proofs.lemmas.List.Elements.{All-nil, All-cons, All-head, All-tail, All-filter, All-map, All-weaker}
use Rattle.std.specs.Cmp.{tied_itself}
use Rattle.std.specs.FinMap as finite
use Rattle.std.specs.FinMap.Entries.{below_all, find, is_sorted}
use Rattle.std.specs.List.{All, filter}
use Rattle.std.specs.Ordering.{is_lt, is_eq, eq_by_cmp, ordering_reverse}
use Rattle.std.specs.Prelude.{Some}
use Rattle.std.specs.declared.cmp.Ordering.{Ordering}
use Rattle.std.specs.declared.cmp.Ordering.TheVariants.{Less, Equal, Greater}
use Rattle.wef_keeper.specs.Rows.{Rows, cell_of_row, is_after, key_cmp, key_cmp_total, row_of, rows_after}
use Rattle.wef_keeper.specs.Sections.{is_under, rows_under}
use Rattle.wef_keeper.specs.declared.keys.Cell.{Cell}
use Rattle.wef_keeper.specs.declared.keys.Depth.{Depth}
use Rattle.wef_keeper.specs.declared.keys.Key.{Key}
use Rattle.wef_keeper.specs.declared.keys.Row.{Row}

-- a row stands at its key
abbrev pub Stands : Rows → Row → Type 0
Stands rows row = finite.get rows row.key ≡ Some (cell_of_row row)

-- ---- each entry is found at its key

pub first : (a b : Bool) → T (a && b) → T a
first true b p = tt
first false b p = p

pub second : (a b : Bool) → T (a && b) → T b
second true b p = p
second false b p = absurd p

reversed_less : (r : Ordering) → T (is_lt r) → is_eq (ordering_reverse r) ≡ false
reversed_less Less h = refl
reversed_less Equal h = absurd h
reversed_less Greater h = refl

-- a key is none that is less
other : (k e : Key) → T (is_lt (key_cmp k e)) → eq_by_cmp key_cmp e k ≡ false
other k e h = ap is_eq (key_cmp_total.antisymm e k) ∙ reversed_less (key_cmp k e) h

Found : List (Key × Cell) → Key × Cell → Type 0
Found whole entry = find key_cmp entry.0 whole ≡ Some entry.1

found_behind : (k : Key) (c : Cell) (whole es : List (Key × Cell)) → T (below_all key_cmp k es) → All (Found whole) es → All (Found ((k, c) ∷ whole)) es
unfolding Found
found_behind k c whole [] above found = All-nil (Found ((k, c) ∷ whole))
found_behind k c whole (e ∷ es) above found =
    let less = first (is_lt (key_cmp k e.0)) (below_all key_cmp k es) above in
    let rest = second (is_lt (key_cmp k e.0)) (below_all key_cmp k es) above in
    All-cons (Found ((k, c) ∷ whole)) e es
    (ap (λ (b : Bool). cond b (Some c) (find key_cmp e.0 whole)) (other k e.0 less) ∙ All-head (Found whole) e es found)
    (found_behind k c whole es rest (All-tail (Found whole) e es found))

entries_found : (es : List (Key × Cell)) → T (is_sorted key_cmp es) → All (Found es) es
unfolding Found
entries_found [] h = All-nil (Found [])
entries_found (e ∷ es) h =
    let above = first (below_all key_cmp e.0 es) (is_sorted key_cmp es) h in
    let rest = second (below_all key_cmp e.0 es) (is_sorted key_cmp es) h in
    All-cons (Found (e ∷ es)) e es (ap (λ (b : Bool). cond b (Some e.1) (find key_cmp e.0 es)) (ap is_eq (tied_itself key_cmp_total e.0))) (found_behind e.0 e.1 es es above (entries_found es rest))

-- ---- so does each row of a section

pub rows_stand : (depth : Depth) (after : Key) (rows : Rows) → All (Stands rows) (rows_under depth after rows)
unfolding Found
rows_stand depth after rows =
    let entries = finite.entries rows in
    let found : All (λ (e : Key × Cell). Stands rows (row_of e)) entries =
    All-weaker (Found entries) (λ (e : Key × Cell). Stands rows (row_of e)) (λ e is. finite.get-entries rows e.0 ∙ is) entries (entries_found entries (finite.entries_sorted rows)) in
    All-filter (λ (row : Row). is_under depth after row.key) (Stands rows) (rows_after after rows)
    (All-map (Stands rows) row_of (filter (λ (e : Key × Cell). is_after after e.0) entries) (All-filter (λ (e : Key × Cell). is_after after e.0) (λ (e : Key × Cell). Stands rows (row_of e)) entries found))
