use Rattle.std.proofs.Common.{subst}
use Rattle.wef_envelope.specs.Envelopes.{Says, said}
use Rattle.wef_replies.proofs.ReadIsGood.{body_is_good}
use Rattle.wef_front_collector.proofs.listening.told_by.Goals as goal

pub told_in-requires : goal.told_in-requires
told_in-requires c =
    let root = c.args.root.now in
    body_is_good root c.in-Ok.envelope c.requires (subst (λ given. Says given (said root)) c.in-Ok.is c.from_node.ensures)
