use Rattle.std.proofs.Common.{subst}
use Rattle.wef_envelope.specs.Envelopes.{Says, said}
use Rattle.wef_replies.proofs.ReadIsGood.{body_is_good}
use Rattle.wef_front_source.proofs.listening.hear_tree.Goals as goal

pub hear_envelope-requires : goal.hear_envelope-requires
hear_envelope-requires g c =
    let root = c.args.root.now in
    body_is_good root c.in-Ok.envelope c.requires (subst (λ given. Says given (said root)) c.in-Ok.is c.from_node.ensures)
