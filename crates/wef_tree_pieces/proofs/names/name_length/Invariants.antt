use Rattle.std.proofs.Common.{◌≡◌, ◌+◌, length}
use Rattle.std.specs.List.{prefix_len}
use Rattle.wef_xml.specs.Letters.{is_name_char}
use Rattle.wef_tree_pieces.proofs.names.name_length.Given as goal

abbrev pub invariant-loop-rest : goal.invariant-loop-rest
invariant-loop-rest l = record {
  within : l.length + length l.rest ≡ length l.text;
  counted : l.length + prefix_len is_name_char l.rest ≡ prefix_len is_name_char l.text;
}

abbrev pub decreases-loop-rest : goal.decreases-loop-rest
decreases-loop-rest l = length l.rest
