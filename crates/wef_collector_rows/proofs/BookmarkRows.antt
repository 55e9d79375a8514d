-- The rows of a kind's section are of their form where they are rows of this kind of their form.
use Rattle.std.proofs.Common.{◌≡◌, ℕ, true, false, ◌&&◌, nat_eq, List, [], ◌∷◌, refl, sym, ap, ◌∙◌}
use Rattle.std.proofs.lemmas.Bool.{and_parts, eqb-true}
use Rattle.std.proofs.lemmas.List.Elements.{All-head, All-tail, filter_passes}
use Rattle.std.specs.Cmp.Lexicographic.{pointwise}
use Rattle.std.specs.List.{All, list_all}
use Rattle.std.specs.Prelude.{Option, Some, None, IfSome, OnOk, Result, Ok, Err}
use Rattle.wef_keeper.specs.Rows.{Rows, rows_after}
use Rattle.wef_keeper.specs.Sections.{is_under, rows_under}
use Rattle.wef_keeper.specs.declared.access.StoreFault.{StoreFault}
use Rattle.wef_keeper.specs.declared.keys.Depth.TheVariants.{Source}
use Rattle.wef_keeper.specs.declared.keys.Key.{Key}
use Rattle.wef_keeper.specs.declared.keys.Row.{Row}
use Rattle.wef_keeper.proofs.Forming.{no_section}
use Rattle.wef_collector_rows.specs.Bookmarks.{bookmark_rows}
use Rattle.wef_collector_rows.specs.Forms.{AreFormed, is_bookmark_row, is_formed}
use Rattle.wef_collector_rows.specs.Judged.{AreAllFormed}
use Rattle.wef_collector_rows.specs.Keys.{bookmark_key}
use Rattle.wef_collector_rows.proofs.RowForms.{bookmark_formed}

under_kind : (u s : List ℕ) (k : Key) → is_under Source (bookmark_key u s []) k ≡ true → k.kind ≡ 2
under_kind u s k e =
    let outer = and_parts (nat_eq 2 k.kind && pointwise nat_eq u k.sub) (pointwise nat_eq s k.source) e in
    sym (eqb-true 2 k.kind (and_parts (nat_eq 2 k.kind) (pointwise nat_eq u k.sub) outer.0).0)

all_formed : (u s : List ℕ) (rows : List Row) → All (λ (row : Row). is_under Source (bookmark_key u s []) row.key ≡ true) rows → list_all is_bookmark_row rows ≡ list_all is_formed rows
all_formed u s [] all = refl
all_formed u s (row ∷ rows) all =
    let P = λ (r : Row). is_under Source (bookmark_key u s []) r.key ≡ true in
    λ i. bookmark_formed row (under_kind u s row.key (All-head P row rows all)) i && all_formed u s rows (All-tail P row rows all) i

-- the bookmark rows of a subscription and a source
pub bookmarks_formed : (rows : Rows) (u s : List ℕ) → list_all is_bookmark_row (bookmark_rows rows u s) ≡ list_all is_formed (bookmark_rows rows u s)
bookmarks_formed rows u s =
    all_formed u s (bookmark_rows rows u s) (filter_passes (λ (row : Row). is_under Source (bookmark_key u s []) row.key) (rows_after (bookmark_key u s []) rows))

pub bookmarks_judged : {A : Type 0} (result : Result A StoreFault) (told : Option Rows) (u s : List ℕ) (start : Key) (found : List Row) → start ≡ bookmark_key u s [] → OnOk result (list_all is_bookmark_row found ≡ true)
    → IfSome told (λ rows. found ≡ rows_under Source start rows) → IfSome told (λ rows. OnOk result (AreAllFormed (bookmark_rows rows u s)))
bookmarks_judged result None u s start found begins well is = tt
bookmarks_judged (Ok answer) (Some rows) u s start found begins well is =
    let held : found ≡ bookmark_rows rows u s = is ∙ ap (λ (k : Key). rows_under Source k rows) begins in
    sym (bookmarks_formed rows u s) ∙ sym (ap (list_all is_bookmark_row) held) ∙ well
bookmarks_judged (Err fault) (Some rows) u s start found begins well is = tt

-- where one of them isn't of its form, not all rows are
pub no_bookmarks : (told : Option Rows) (u s : List ℕ) (start : Key) (found : List Row) → start ≡ bookmark_key u s [] → list_all is_bookmark_row found ≡ false → IfSome told (λ rows. found ≡ rows_under Source start rows)
    → IfSome told (λ rows. AreFormed rows → ⊥)
no_bookmarks None u s start found begins ill is = tt
no_bookmarks (Some rows) u s start found begins ill is =
    let held : found ≡ bookmark_rows rows u s = is ∙ ap (λ (k : Key). rows_under Source k rows) begins in
    no_section is_formed (Some rows) Source (bookmark_key u s []) found (ap (list_all is_formed) held ∙ sym (bookmarks_formed rows u s) ∙ sym (ap (list_all is_bookmark_row) held) ∙ ill) held
