use Rattle.std.proofs.Common.{ap, ◌∙◌}
use Rattle.wef_world.proofs.Used.{asked_told}
use Rattle.wef_world.proofs.ends.Ends.ask.Goals as goal
use Rattle.wef_world.specs.Asked.{asked_line}

pub returns-clause-printed : goal.returns-clause-printed
returns-clause-printed c = c.in_ok-asked_line.ensures ∙ ap (asked_line c.args.source.now) c.in_ok-asked.ensures.asked ∙ asked_told c.args.self.now c.args.source.now
