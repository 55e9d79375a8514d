use Rattle.wef_machine.specs.Deliveries.{deliver_step}
use Rattle.wef_safety.proofs.LowerFacts.{lower}
use Rattle.wef_safety.proofs.Settling.{delivered_held}
use Rattle.wef_world.proofs.Settled.{held_where}
use Rattle.wef_world.proofs.ends.Ends.bring_sent.Goals as goal

pub returns-in-Some-clause-held : goal.returns-in-Some-clause-held
returns-in-Some-clause-held g c =
    held_where c.bring.result c.bring.new.self (deliver_step c.args.self.now c.in-Some.number) (delivered_held lower c.args.self.now c.in-Some.number c.requires.held) c.bring.ensures.state
