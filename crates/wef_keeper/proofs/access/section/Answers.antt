use Rattle.std.proofs.Common.{rules, ◌≡◌, ◌<◌, ◌++◌, ◌∙◌, sym, ap, subst, Option, Some, None, List, IfSome, length, take, arith, append_assoc}
use Rattle.wef_keeper.specs.Keeping.{Stays}
use Rattle.wef_keeper.specs.Rows.{Rows}
use Rattle.wef_keeper.specs.Sections.{last_key, rows_under}
use Rattle.wef_keeper.specs.declared.keys.Depth.{Depth}
use Rattle.wef_keeper.specs.declared.keys.Key.{Key}
use Rattle.wef_keeper.specs.declared.keys.Row.{Row}
use Rattle.wef_keeper.proofs.ByPages.{last_page}
use Rattle.wef_keeper.proofs.Told.{told_still}
use Rattle.wef_keeper.proofs.access.section.Goals as goal

-- the rows so far, and what lies behind the last key, are the section
abbrev IsRead : Depth → Key → List Row → Key → Rows → Type 0
IsRead depth after section last rows = section ++ rows_under depth last rows ≡ rows_under depth after rows

-- with a page more what is left is the section behind the page's last row
goes_on : (before now : Option Rows) (depth : Depth) (after last : Key) (section page : List Row) → Stays before now → IfSome now (λ rows. rows_under depth last rows ≡ page ++ rows_under depth (last_key last page) rows) → IfSome before (IsRead depth after section last)
    → IfSome now (IsRead depth after (section ++ page) (last_key last page))
goes_on before None depth after last section page stays rest read = tt
goes_on before (Some rows) depth after last section page stays rest read =
    append_assoc section page _ ∙ ap (λ (xs : List Row). section ++ xs) (sym rest) ∙ told_still before (Some rows) (IsRead depth after section last) stays read

-- with the last page nothing is left
ends : (before now : Option Rows) (depth : Depth) (after last : Key) (section page : List Row) → length page < 256 → Stays before now → IfSome now (λ rows. page ≡ take 256 (rows_under depth last rows))
    → IfSome now (λ rows. rows_under depth last rows ≡ page ++ rows_under depth (last_key last page) rows) → IfSome before (IsRead depth after section last) → IfSome now (λ rows. section ++ page ≡ rows_under depth after rows)
ends before None depth after last section page short stays is rest read = tt
ends before (Some rows) depth after last section page short stays is rest read =
    ap (λ (xs : List Row). section ++ xs) (sym (last_page 256 _ page _ is rest short)) ∙ told_still before (Some rows) (IsRead depth after section last) stays read

pub returns-then-is_last-clause-section : goal.returns-then-is_last-clause-section
returns-then-is_last-clause-section g c =
    let now = (g.K.Keeper.store c.section_page.new.keeper).rows in
    let page = c.in_ok-page in
    let size = c.len.ensures in
    let test = c.if-is_last.true in
    let short : length page.page < 256 = omega arith in
    subst (λ (xs : List Row). IfSome now (λ rows. xs ≡ rows_under c.args.depth c.args.after.now rows)) (sym c.in_ok-push_all.ensures)
    (ends (g.K.Keeper.store c.loop-last.keeper).rows now c.args.depth c.args.after.now c.loop-last.last c.loop-last.section page.page short page.ensures.reads.0.1 page.ensures.page page.ensures.rest c.loop-last.invariant.read)

pub loop-last-preserved : goal.loop-last-preserved
loop-last-preserved g c =
    let before = (g.K.Keeper.store c.loop-last.keeper).rows in
    let now = (g.K.Keeper.store c.section_page.new.keeper).rows in
    let last = c.loop-last.last in
    let page = c.in_ok-page in
    let next : c.in_ok-last-2.last ≡ last_key last page.page = c.in_ok-last-2.ensures ∙ ap (last_key last) c.as_slice.ensures in
    record {
      reads = search rules;
      read = subst (λ (x : List Row × Key). IfSome now (IsRead c.args.depth c.args.after.now x.0 x.1)) (λ i. (sym c.in_ok-push_all.ensures i, sym next i))
          (goes_on before now c.args.depth c.args.after.now last c.loop-last.section page.page page.ensures.reads.0.1 page.ensures.rest c.loop-last.invariant.read);
    }
