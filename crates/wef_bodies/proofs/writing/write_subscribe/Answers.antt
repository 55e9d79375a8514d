use Rattle.wef_bodies.proofs.GoodBodies.{only_good}
use Rattle.wef_subscribes.specs.Written.{subscribe_element}
use Rattle.wef_subscribes.proofs.GoodSubscribes.{subscribe_good}
use Rattle.wef_bodies.proofs.writing.write_subscribe.Goals as goal

pub returns-clause-good : goal.returns-clause-good
returns-clause-good c =
    let wish = c.args.wish.now in
    λ texts. only_good c.only.result c.in_ok-subscribe_element.field-0 (subscribe_element wish) c.only.ensures c.in_ok-subscribe_element.ensures (subscribe_good wish 57 texts c.names_are_kept.ensures)
