use Rattle.std.proofs.Common.{subst}
use Rattle.wef_envelope.specs.Envelopes.{Says, said}
use Rattle.wef_replies.proofs.ReadIsGood.{body_is_good, body_is_told}
use Rattle.wef_front_collector.proofs.hearing.asked_in.Goals as goal

pub asked_by-requires : goal.asked_by-requires
asked_by-requires c =
    let root = c.args.root.now in
    let is = subst (λ given. Says given (said root)) c.in-Ok.is c.from_node.ensures in
    record {
      good = body_is_good root c.in-Ok.envelope c.requires.good is;
      told = body_is_told c.args.told root c.in-Ok.envelope c.requires.told is;
    }
