use Rattle.std.proofs.Common.{◌++◌, sym, ap, ◌∙◌, take}
use Rattle.wef_keeper.specs.Sections.{rows_under, last_key}
use Rattle.wef_keeper.proofs.Pages.{section_is, rest_is}
use Rattle.wef_keeper.proofs.table.Rows.section_page.Goals as goal

pub returns-clause-page : goal.returns-clause-page
returns-clause-page c =
    c.from.ensures ∙ c.in_ok-rows.ensures
    ∙ ap (take c.args.max) (section_is c.args.depth c.args.after.now c.self.inside.cells.entries c.self.invariant.ordered ∙ ap (rows_under c.args.depth c.args.after.now) c.self.view_is)

pub returns-clause-rest : goal.returns-clause-rest
returns-clause-rest c =
    let depth = c.args.depth in
    let after = c.args.after.now in
    rest_is depth after c.args.max c.args.self.now ∙ ap (λ page. page ++ rows_under depth (last_key after page) c.args.self.now) (sym (returns-clause-page c))
