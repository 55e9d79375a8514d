use Rattle.std.proofs.Common.{sym, subst}
use Rattle.wef_envelope.specs.Written.{written}
use Rattle.wef_envelope.specs.declared.envelopes.Envelope.{Envelope}
use Rattle.wef_xml.specs.Good.{IsGoodTree}
use Rattle.wef_requests.proofs.RequestsAreGood.{request_good}
use Rattle.wef_requests.proofs.requests.write_request.Goals as goal

pub write_envelope-requires : goal.write_envelope-requires
write_envelope-requires c =
    subst (λ (e : Envelope). IsGoodTree (written e)) (sym c.in_ok-envelope.ensures)
    (request_good c.args.request.now c.in_ok-body.body c.requires (c.in_ok-body.ensures.good c.requires.body))
