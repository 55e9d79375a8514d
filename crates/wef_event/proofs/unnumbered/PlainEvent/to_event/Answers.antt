use Rattle.wef_event.proofs.NewEvents.{made_so}
use Rattle.wef_event.proofs.unnumbered.PlainEvent.to_event.Goals as goal

pub returns-clause-value : goal.returns-clause-value
returns-clause-value c = made_so c.args.self.now c.numbered.result c.numbered.ensures
