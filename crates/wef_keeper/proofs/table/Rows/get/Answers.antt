use Rattle.std.proofs.Common.{sym, ap, ◌∙◌}
use Rattle.std.specs.FinMap as finite
use Rattle.wef_keeper.proofs.Live.{get-live}
use Rattle.wef_keeper.proofs.table.Rows.get.Goals as goal

pub returns : goal.returns
returns c = c.cell_at.ensures ∙ sym (get-live c.self.inside.cells.entries c.args.key.now) ∙ ap (λ rows. finite.get rows c.args.key.now) c.self.view_is
