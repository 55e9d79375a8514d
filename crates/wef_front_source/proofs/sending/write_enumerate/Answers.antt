use Rattle.std.proofs.Common.{sym, subst}
use Rattle.wef_bodies.proofs.GoodBodies.{enumerate_good as enumerate_good_element}
use Rattle.wef_envelope.specs.Written.{written}
use Rattle.wef_envelope.specs.declared.envelopes.Envelope.{Envelope}
use Rattle.wef_xml.specs.Good.{IsGoodTree}
use Rattle.wef_front_source.proofs.EnumeratesAreGood.{enumerate_good}
use Rattle.wef_front_source.proofs.sending.write_enumerate.Goals as goal

pub write_envelope-requires : goal.write_envelope-requires
write_envelope-requires c =
    let name = c.in_ok-envelope.ensures.name in
    subst (λ (e : Envelope). IsGoodTree (written e)) (sym c.in_ok-envelope.ensures.value)
    (enumerate_good c.args.host.now c.args.source.now c.args.id.now c.requires.host name.0 name.1 c.requires.id (enumerate_good_element 60, tt))
