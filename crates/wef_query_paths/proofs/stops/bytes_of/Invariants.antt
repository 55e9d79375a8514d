use Rattle.std.proofs.Common.{◌≡◌, ◌≤◌, ◌+◌, ◌*◌, drop, length}
use Rattle.std.specs.Prelude.{encode_utf8_all}
use Rattle.wef_query_paths.proofs.stops.bytes_of.Given as goal

abbrev pub invariant-loop-character : goal.invariant-loop-character
invariant-loop-character l = record {
  found : l.bytes + length (encode_utf8_all (drop l.character-index l.characters)) ≡ length (encode_utf8_all l.characters);
  small : l.bytes ≤ 4 * l.character-index;
}
