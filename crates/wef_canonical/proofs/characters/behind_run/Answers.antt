use Rattle.std.proofs.Common.{rules}
use Rattle.wef_canonical.specs.Passing.{IsRunOf}
use Rattle.wef_canonical.proofs.Runs.{leads_further, leads_here, none_of, of_joined}
use Rattle.wef_canonical.proofs.characters.behind_run.Goals as goal

pub loop-turn-preserved : goal.loop-turn-preserved
loop-turn-preserved c = (search rules, leads_further (IsRunOf c.args.run) (of_joined c.args.run) _ _ _ c.loop-turn.invariant.1 c.in-Some.ensures)

pub returns-in-None : goal.returns-in-None
returns-in-None c = leads_here (IsRunOf c.args.run) (none_of c.args.run) _ _ c.loop-turn.invariant.1

pub returns : goal.returns
returns c = leads_here (IsRunOf c.args.run) (none_of c.args.run) _ _ c.loop-turn.invariant.1
