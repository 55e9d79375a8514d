use Rattle.std.proofs.Common.{rules}
use Rattle.wef_machine.specs.Turns.{lose_step}
use Rattle.wef_safety.proofs.Losing.{lost_held}
use Rattle.wef_world.proofs.Settled.{held_where}
use Rattle.wef_world.proofs.ends.Ends.lose_all.Goals as goal

pub returns-clause-held : goal.returns-clause-held
returns-clause-held c = held_where c.lose_each.result c.lose_each.new.self (lose_step c.args.self.now) (lost_held c.args.self.now c.requires.held) (search rules)
