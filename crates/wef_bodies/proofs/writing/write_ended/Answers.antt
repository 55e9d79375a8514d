use Rattle.wef_bodies.proofs.GoodBodies.{ended_good, only_good}
use Rattle.wef_bodies.specs.Written.{ended_element}
use Rattle.wef_bodies.proofs.writing.write_ended.Goals as goal

pub returns-clause-good : goal.returns-clause-good
returns-clause-good c = λ allowed. only_good c.only.result c.in_ok-ended_element.field-0 (ended_element c.args.identifier.now c.args.status) c.only.ensures c.in_ok-ended_element.ensures (ended_good c.args.identifier.now c.args.status 58 allowed)
