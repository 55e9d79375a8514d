-- What a collector asks for, a source hears as it was meant.
use Rattle.std.proofs.Common.{ℕ, List}
use Rattle.std.specs.Prelude.{Option, Some, None, IfSome}
use Rattle.wef_collector.specs.Asking.{CanBeRequested}
use Rattle.wef_collector.specs.declared.asking.Request.{Request}
use Rattle.wef_envelope.specs.Laws.{IsTrimmed}
use Rattle.wef_front_source.specs.Sending.{IsPlainText}
use Rattle.wef_xml.specs.Good.{IsXmlText}
use Rattle.wef_requests.proofs.RequestsAreGood.{address_plain}
use Rattle.wef_requests.proofs.RequestsAreRead.{requests_are_read}
use Rattle.wef_requests.specs.Requests.{IsAsking, IsPlainRequest, RequestCanBeSent, RequestsAreHeard, requested_of}

text_plain : (identifier : Option (List ℕ)) → IfSome identifier IsXmlText → IfSome identifier IsTrimmed → IfSome identifier IsPlainText
text_plain None text trimmed = tt
text_plain (Some identifier) text trimmed = (trimmed, text)

pub can_be_sent : (r : Request) → CanBeRequested r → IsPlainRequest r → IsAsking r.body → RequestCanBeSent (requested_of r)
can_be_sent r can plain asks = record {
  to = address_plain r.source.address can.address;
  spelt = plain.id;
  id = can.id;
  identifier = text_plain r.identifier can.identifier plain.identifier;
  body = can.body;
  plain = plain.body;
  kept = plain.kept;
  asks = asks;
}

pub requests_are_heard : RequestsAreHeard
requests_are_heard now r can plain asks = requests_are_read.heard now (requested_of r) (can_be_sent r can plain asks)
