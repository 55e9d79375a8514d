-- How a page is filled, row by row, and section by section.
use Rattle.std.proofs.Common.{◌≡◌, ◌<◌, ◌≤◌, ◌+◌, ◌-◌, ℕ, suc, zero, Some, List, [], ◌∷◌, ◌++◌, length, take, slice_index_or, true, refl, sym, ap, subst, ◌∙◌, IsTrue}
use Rattle.std.specs.Option.{option_map}
use Rattle.std.proofs.lemmas.List.{take_all, take_more}
use Rattle.sqlite.specs.Effect.{Database}
use Rattle.sqlite.specs.State.{State}
use Rattle.sqlite_trees.specs.View.{IsShaped}
use Rattle.sqlite_trees.specs.declared.store.Shape.TheVariants as shape
use Rattle.sqlite_value.specs.Order.{Row as Columns}
use Rattle.wef_keeper.specs.Rows.{Rows, row_of, rows_after}
use Rattle.wef_keeper.specs.declared.keys.Key.{Key}
use Rattle.wef_keeper.specs.declared.keys.Row.{Row}
use Rattle.wef_sqlite.proofs.PageSections.{page_goes_on, rows_after_are}
use Rattle.wef_sqlite.specs.Columns.{entry_in}
use Rattle.wef_sqlite.specs.Contents.{are_rows, rows_in, table_in}
use Rattle.wef_sqlite.specs.Paging.{OnRows, SayRows, rows_behind}
use Rattle.wef_sqlite.specs.States.{Rests}
use Rattle.wef_sqlite.specs.declared.read.Section.TheVariants.{Number, Channel, Source, Sub, Kind}

say_push : (answer : List Columns) (part : List Row) (columns : Columns) (row : Row) → SayRows answer part → option_map row_of (entry_in columns) ≡ Some row → SayRows (answer ++ columns ∷ []) (part ++ row ∷ [])
say_push [] [] columns row h e = (e, tt)
say_push [] (x ∷ part) columns row h e = absurd h
say_push (c ∷ answer) [] columns row h e = absurd h
say_push (c ∷ answer) (x ∷ part) columns row h e = (h.0, say_push answer part columns row h.1 e)

-- one row more is read
pub say_more : (answer : List Columns) (part : List Row) (i : ℕ) (columns : Columns) (row : Row) → SayRows (take i answer) part → i < length answer → columns ≡ slice_index_or answer i columns
    → option_map row_of (entry_in columns) ≡ Some row → SayRows (take (i + 1) answer) (part ++ row ∷ [])
say_more answer part i columns row h within is e =
    subst (λ l. SayRows l (part ++ row ∷ [])) (sym (take_more answer i columns within ∙ ap (λ c. take i answer ++ c ∷ []) (sym is))) (say_push (take i answer) part columns row h e)

-- all rows are read
pub say_all : (answer : List Columns) (part : List Row) (n : ℕ) → length answer ≤ n → SayRows (take n answer) part → SayRows answer part
say_all answer part n past h = subst (λ l. SayRows l part) (take_all n answer past) h

-- the columns of an answer say one list of rows
pub said_once : (answer : List Columns) (part all : List Row) → SayRows answer part → SayRows answer all → part ≡ all
said_once [] [] [] h k = refl
said_once [] [] (y ∷ all) h k = absurd k
said_once [] (x ∷ part) all h k = absurd h
said_once (c ∷ answer) [] all h k = absurd h
said_once (c ∷ answer) (x ∷ part) [] h k = absurd k
said_once (c ∷ answer) (x ∷ part) (y ∷ all) h k = let same : x ≡ y = cc in λ i. same i ∷ said_once answer part all h.1 k.1 i

-- what holds of the rows holds of them where they rest
pub on_rows_then : (P : Rows → Type 0) (old new : State) → Rests old new → OnRows old P → OnRows new P
on_rows_then P old new rests h is_open shaped ours =
    subst (λ (db : Database). P (rows_in (table_in db.trees))) (sym rests.now)
    (h (subst IsTrue rests.is_open is_open) (subst (λ (db : Database). IsShaped shape.Table (table_in db.trees)) rests.now shaped) (subst (λ (db : Database). are_rows (table_in db.trees) ≡ true) rests.now ours))

none_taken : (n : ℕ) (rows : List Row) → rows ≡ [] → take n rows ≡ []
none_taken zero rows is = refl
none_taken (suc n) rows is = ap (take (suc n)) is

-- a page of all sections, each filled over the same rows
pub page_is : (after : Key) (max : ℕ) (rows : Rows) (p0 p1 p2 p3 p4 p5 : List Row) → p0 ≡ []
    → p1 ≡ p0 ++ take (max - length p0) (rows_behind Number after rows)
    → p2 ≡ p1 ++ take (max - length p1) (rows_behind Channel after rows)
    → p3 ≡ p2 ++ take (max - length p2) (rows_behind Source after rows)
    → p4 ≡ p3 ++ take (max - length p3) (rows_behind Sub after rows)
    → p5 ≡ p4 ++ take (max - length p4) (rows_behind Kind after rows)
    → p5 ≡ take max (rows_after after rows)
page_is after max rows p0 p1 p2 p3 p4 p5 empty number channel source sub kind =
    let first = page_goes_on max [] (rows_behind Number after rows) p0 p1 (empty ∙ sym (none_taken max [] refl)) number in
    let second = page_goes_on max _ (rows_behind Channel after rows) p1 p2 first channel in
    let third = page_goes_on max _ (rows_behind Source after rows) p2 p3 second source in
    let fourth = page_goes_on max _ (rows_behind Sub after rows) p3 p4 third sub in
    let fifth = page_goes_on max _ (rows_behind Kind after rows) p4 p5 fourth kind in
    fifth ∙ ap (take max) (sym (rows_after_are after rows))
