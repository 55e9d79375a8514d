use Rattle.std.proofs.Common.{◌≡◌, ◌+◌, length}
use Rattle.std.specs.List.{prefix_len}
use Rattle.wef_tree_pieces.specs.Runs.{is_plain}
use Rattle.wef_tree_pieces.proofs.values.plain_length.Given as goal

abbrev pub invariant-loop-rest : goal.invariant-loop-rest
invariant-loop-rest l = record {
  counted : l.length + prefix_len (is_plain l.quote) l.rest ≡ prefix_len (is_plain l.quote) l.text;
  within : l.length + length l.rest ≡ length l.text;
}

abbrev pub decreases-loop-rest : goal.decreases-loop-rest
decreases-loop-rest l = length l.rest
