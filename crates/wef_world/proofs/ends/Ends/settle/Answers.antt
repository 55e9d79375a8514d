use Rattle.std.proofs.Common.{ap, ◌∙◌}
use Rattle.wef_places.specs.Settling.{Going, going}
use Rattle.wef_world.proofs.Counting.{settled_state}
use Rattle.wef_world.proofs.ends.Ends.settle.Goals as goal

pub returns-clause-state : goal.returns-clause-state
returns-clause-state g c = ap (λ (x : Going). x.state) c.in_ok-let_settle.ensures.goes ∙ settled_state (going c.args.self.now (g.A.Answers.calls c.args.answers.now))

pub returns-clause-calls : goal.returns-clause-calls
returns-clause-calls g c = ap (λ (x : Going). x.calls) c.in_ok-let_settle.ensures.goes
