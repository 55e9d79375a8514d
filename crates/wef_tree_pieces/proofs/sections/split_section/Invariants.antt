use Rattle.std.proofs.Common.{◌≡◌, ◌+◌, length, take, drop, encode_utf8_all}
use Rattle.std.specs.Option.{option_map}
use Rattle.wef_tree_pieces.specs.Names.{with_front}
use Rattle.wef_tree_pieces.specs.Pieces.{section_tail}
use Rattle.wef_tree_pieces.proofs.sections.split_section.Given as goal

abbrev pub invariant-loop-character : goal.invariant-loop-character
invariant-loop-character l = record {
  within : l.length + length l.rest ≡ length l.text;
  behind : drop l.length l.text ≡ l.rest;
  read : option_map (with_front (encode_utf8_all (take l.length l.text))) (section_tail l.rest) ≡ section_tail l.text;
}

abbrev pub decreases-loop-character : goal.decreases-loop-character
decreases-loop-character l = length l.rest
