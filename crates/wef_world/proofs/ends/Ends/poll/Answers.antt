use Rattle.std.proofs.Common.{ap, ◌∙◌}
use Rattle.wef_world.proofs.Used.{polled_told}
use Rattle.wef_world.proofs.ends.Ends.poll.Goals as goal
use Rattle.wef_world.specs.Asked.{polled_line}

pub returns-clause-printed : goal.returns-clause-printed
returns-clause-printed c =
    c.in_ok-polled_line.ensures ∙ ap (polled_line c.args.source.now c.args.sub.now) c.in_ok-polled.ensures.polled ∙ polled_told c.args.self.now c.args.source.now c.args.sub.now
