use Rattle.wef_eventing.proofs.Segments.{encoded_is}
use Rattle.wef_eventing.proofs.addresses.push_segment.Goals as goal

pub returns-clause-value : goal.returns-clause-value
returns-clause-value c =
    rw (c.as_str-2.ensures.value, c.in_ok-append_to.ensures.ok, c.new-segment.ensures.bytes, c.utf8_percent_encode.ensures.text, c.as_str.ensures, encoded_is) at c.push_str.ensures.ok
