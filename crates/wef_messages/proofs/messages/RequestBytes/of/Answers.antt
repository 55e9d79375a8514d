use Rattle.wef_messages.proofs.Said.{request_says}
use Rattle.wef_requests.proofs.RequestsAreHeard.{can_be_sent}
use Rattle.wef_requests.specs.Requests.{requested_of}
use Rattle.wef_messages.proofs.messages.RequestBytes.of.Goals as goal

pub returns : goal.returns
returns c =
    let request = c.args.request.now in
    request_says (requested_of request) c.in_ok-write_request.field-0 (can_be_sent request c.requires.written c.requires.plain c.requires.asks) c.in_ok-write_request.ensures
