use Rattle.std.proofs.Common.{ap, ◌∙◌, take}
use Rattle.wef_keeper.specs.Rows.{rows_after}
use Rattle.wef_keeper.proofs.Pages.{page_is}
use Rattle.wef_keeper.proofs.table.Rows.page.Goals as goal

pub returns : goal.returns
returns c =
    c.from.ensures ∙ c.in_ok-rows.ensures
    ∙ ap (take c.args.max) (page_is c.args.after.now c.self.inside.cells.entries c.self.invariant.ordered ∙ ap (rows_after c.args.after.now) c.self.view_is)
