use Rattle.std.proofs.Common.{◌≡◌, ◌≤◌, ◌+◌, ◌*◌, length}
use Rattle.wef_xml.specs.Decoding.{bytes_of_first, place}
use Rattle.wef_xml.proofs.places.place.Given as goal

abbrev pub invariant-loop-rest : goal.invariant-loop-rest
invariant-loop-rest l = record {
  found : l.total + bytes_of_first l.charset l.left l.after_return l.rest ≡ place l.charset l.bytes l.characters l.first;
  small : l.total + 4 * length l.rest ≤ 3 + 4 * length l.characters;
}

abbrev pub decreases-loop-rest : goal.decreases-loop-rest
decreases-loop-rest l = length l.rest
