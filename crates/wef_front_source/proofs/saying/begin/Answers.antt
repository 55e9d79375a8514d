use Rattle.wef_eventing.specs.Addresses.{subscription_in}
use Rattle.wef_front_source.proofs.Texts.{accepted_good}
use Rattle.wef_front_source.proofs.saying.begin.Goals as goal

pub begun-requires : goal.begun-requires
begun-requires g c =
    accepted_good c.args.source.now.memory _ c.args.wish.now c.args.now c.in-Ok.accepted (subscription_in c.args.wish.now.notify_to) c.in-Ok.ensures.ok.1
