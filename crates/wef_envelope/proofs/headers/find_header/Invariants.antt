use Rattle.std.proofs.Common.{◌≡◌, drop}
use Rattle.std.specs.List.{find}
use Rattle.wef_envelope.specs.Headers.{is_of}
use Rattle.wef_envelope.proofs.headers.find_header.Given as goal

abbrev pub invariant-loop-header : goal.invariant-loop-header
invariant-loop-header l = find (is_of l.element) (drop l.header-index l.headers) ≡ find (is_of l.element) l.headers
