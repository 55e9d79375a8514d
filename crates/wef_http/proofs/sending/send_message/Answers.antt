use Rattle.std.proofs.Common.{string_bytes}
use Rattle.wef_http.proofs.Sent.{part_of_body}
use Rattle.wef_http.proofs.sending.send_message.Goals as goal

pub returns-clause-part : goal.returns-clause-part
returns-clause-part g c =
    let sent = rw (c.as_slice-2.ensures.value, c.into_bytes-first.ensures.value) at c.in_ok-send.ensures.sent in
    part_of_body _ _ _ (string_bytes c.args.head) c.args.body.now c.send-3.ensures.part.0 sent c.send-3.ensures.part.1
