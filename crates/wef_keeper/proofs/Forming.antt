-- Rows that pass a test of their form: each that is read does.
use Rattle.std.proofs.Common.{◌≡◌, ℕ, Bool, true, false, ◌&&◌, List, [], ◌∷◌, take, refl, ap, ◌∙◌, subst}
use Rattle.std.proofs.lemmas.List.Elements.{All-head, All-tail, All-take, All-weaker}
use Rattle.std.specs.FinMap as finite
use Rattle.std.specs.List.{All, list_all}
use Rattle.std.specs.Option.{option_map}
use Rattle.std.specs.Prelude.{Option, Some, None, IfSome}
use Rattle.wef_keeper.specs.Forms.{ArePassed}
use Rattle.wef_keeper.specs.Keeping.{row_at}
use Rattle.wef_keeper.specs.Rows.{Rows, row_of}
use Rattle.wef_keeper.specs.Sections.{rows_under}
use Rattle.wef_keeper.specs.declared.keys.Cell.{Cell}
use Rattle.wef_keeper.specs.declared.keys.Depth.{Depth}
use Rattle.wef_keeper.specs.declared.keys.Key.{Key}
use Rattle.wef_keeper.specs.declared.keys.Row.{Row}
use Rattle.wef_keeper.proofs.Stands.{Stands, rows_stand}

Passes : (Row → Bool) → Row → Type 0
Passes is_formed row = is_formed row ≡ true

-- a row that stands is of its form
pub formed_where : (is_formed : Row → Bool) (rows : Rows) (row : Row) → ArePassed is_formed rows → Stands rows row → is_formed row ≡ true
formed_where is_formed rows row formed stands =
    let holds = formed row.key in
    subst (λ (found : Option Cell). IfSome found (λ cell. is_formed (row_of (row.key, cell)) ≡ true)) stands holds

-- the row of a key
pub formed_at : (is_formed : Row → Bool) (rows : Rows) (key : Key) (row : Row) → ArePassed is_formed rows → Some row ≡ row_at key rows → is_formed row ≡ true
formed_at is_formed rows key row formed is = by (finite.get rows key) is (formed key)
  where
    by : (found : Option Cell) → Some row ≡ option_map (λ cell. row_of (key, cell)) found → IfSome found (λ cell. is_formed (row_of (key, cell)) ≡ true) → is_formed row ≡ true
    by None is holds = cc
    by (Some cell) is holds =
        let same : row ≡ row_of (key, cell) = cc in
        ap is_formed same ∙ holds

all_pass : (is_formed : Row → Bool) (rows : List Row) → All (Passes is_formed) rows → list_all is_formed rows ≡ true
unfolding Passes
all_pass is_formed [] all = refl
all_pass is_formed (row ∷ rows) all = λ i. All-head (Passes is_formed) row rows all i && all_pass is_formed rows (All-tail (Passes is_formed) row rows all) i

section_formed : (is_formed : Row → Bool) (depth : Depth) (after : Key) (rows : Rows) → ArePassed is_formed rows → All (Passes is_formed) (rows_under depth after rows)
unfolding Passes
section_formed is_formed depth after rows formed =
    All-weaker (Stands rows) (Passes is_formed) (λ row stands. formed_where is_formed rows row formed stands) (rows_under depth after rows) (rows_stand depth after rows)

-- all rows of a section
pub formed_under : (is_formed : Row → Bool) (depth : Depth) (after : Key) (rows : Rows) (section : List Row) → ArePassed is_formed rows → section ≡ rows_under depth after rows → list_all is_formed section ≡ true
formed_under is_formed depth after rows section formed is = ap (list_all is_formed) is ∙ all_pass is_formed (rows_under depth after rows) (section_formed is_formed depth after rows formed)

-- and of a page of it
pub formed_front : (is_formed : Row → Bool) (n : ℕ) (depth : Depth) (after : Key) (rows : Rows) (page : List Row) → ArePassed is_formed rows → page ≡ take n (rows_under depth after rows) → list_all is_formed page ≡ true
formed_front is_formed n depth after rows page formed is =
    ap (list_all is_formed) is ∙ all_pass is_formed (take n (rows_under depth after rows)) (All-take (Passes is_formed) n (rows_under depth after rows) (section_formed is_formed depth after rows formed))

-- so rows of which an ill-formed one was read aren't all of their form
pub no_row : (is_formed : Row → Bool) (told : Option Rows) (key : Key) (row : Row) → is_formed row ≡ false → IfSome told (λ rows. Some row ≡ row_at key rows) → IfSome told (λ rows. ArePassed is_formed rows → ⊥)
no_row is_formed None key row ill is = tt
no_row is_formed (Some rows) key row ill is = λ formed. let well = formed_at is_formed rows key row formed is in cc

pub no_section : (is_formed : Row → Bool) (told : Option Rows) (depth : Depth) (after : Key) (section : List Row) → list_all is_formed section ≡ false → IfSome told (λ rows. section ≡ rows_under depth after rows) → IfSome told (λ rows. ArePassed is_formed rows → ⊥)
no_section is_formed None depth after section ill is = tt
no_section is_formed (Some rows) depth after section ill is = λ formed. let well = formed_under is_formed depth after rows section formed is in cc

pub no_page : (is_formed : Row → Bool) (told : Option Rows) (n : ℕ) (depth : Depth) (after : Key) (page : List Row) → list_all is_formed page ≡ false → IfSome told (λ rows. page ≡ take n (rows_under depth after rows)) → IfSome told (λ rows. ArePassed is_formed rows → ⊥)
no_page is_formed None n depth after page ill is = tt
no_page is_formed (Some rows) n depth after page ill is = λ formed. let well = formed_front is_formed n depth after rows page formed is in cc
