use Rattle.std.proofs.Common.{subst}
use Rattle.wef_bodies.specs.Reading.{body_in}
use Rattle.wef_subscribes.specs.Steps.{Reads}
use Rattle.wef_front_collector.proofs.ResponsesCanBeTaken.{responses_can_be_taken}
use Rattle.wef_front_collector.proofs.listening.response_read.Goals as goal

pub response_of-requires : goal.response_of-requires
response_of-requires c =
    let envelope = c.args.envelope.now in
    responses_can_be_taken c.args.now envelope c.in-Ok.body c.requires (subst (λ given. Reads given (body_in c.args.now envelope)) c.in-Ok.is c.read_body.ensures)
