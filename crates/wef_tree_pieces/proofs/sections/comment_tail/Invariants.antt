use Rattle.std.proofs.Common.{◌≡◌, false, length}
use Rattle.wef_tree_pieces.specs.Pieces.{comment_tail}
use Rattle.wef_tree_pieces.proofs.sections.comment_tail.Given as goal

abbrev pub invariant-loop-rest : goal.invariant-loop-rest
invariant-loop-rest l = comment_tail l.dashed l.rest ≡ comment_tail false l.text

abbrev pub decreases-loop-rest : goal.decreases-loop-rest
decreases-loop-rest l = length l.rest
