use Rattle.std.proofs.Common.{ap, ◌∙◌}
use Rattle.wef_world.proofs.Delivered.{delivered_told}
use Rattle.wef_world.proofs.ends.Ends.deliver.Goals as goal
use Rattle.wef_world.specs.Delivered.{delivered_line}

pub returns-clause-printed : goal.returns-clause-printed
returns-clause-printed g c = c.in_ok-delivered_line.ensures ∙ ap (delivered_line c.args.number) c.in_ok-delivered.ensures.delivered ∙ delivered_told c.args.self.now c.args.number
