use Rattle.wef_bodies.proofs.GoodBodies.{lease_good, only_good}
use Rattle.wef_bodies.specs.Written.{lease_element}
use Rattle.wef_bodies.proofs.writing.write_lease.Goals as goal

pub returns-clause-good : goal.returns-clause-good
returns-clause-good c = λ named. only_good c.only.result c.in_ok-lease_element.field-0 (lease_element c.args.name.now c.args.expires) c.only.ensures c.in_ok-lease_element.ensures (lease_good c.args.name.now c.args.expires 60 named)
