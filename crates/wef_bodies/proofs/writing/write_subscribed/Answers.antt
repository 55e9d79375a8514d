use Rattle.wef_bodies.proofs.GoodBodies.{only_good, subscribed_good}
use Rattle.wef_bodies.specs.Written.{subscribed_element}
use Rattle.wef_bodies.proofs.writing.write_subscribed.Goals as goal

pub returns-clause-good : goal.returns-clause-good
returns-clause-good c = λ allowed. only_good c.only.result c.in_ok-subscribed_element.field-0 (subscribed_element c.args.identifier.now c.args.expires) c.only.ensures c.in_ok-subscribed_element.ensures (subscribed_good c.args.identifier.now c.args.expires 58 allowed)
