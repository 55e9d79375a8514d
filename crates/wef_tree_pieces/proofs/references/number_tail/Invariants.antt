use Rattle.std.proofs.Common.{◌≡◌, length}
use Rattle.wef_tree_pieces.specs.References.{number_tail}
use Rattle.wef_tree_pieces.proofs.references.number_tail.Given as goal

abbrev pub invariant-loop-rest : goal.invariant-loop-rest
invariant-loop-rest l = number_tail l.hex l.number l.rest ≡ number_tail l.hex l.begun l.text

abbrev pub decreases-loop-rest : goal.decreases-loop-rest
decreases-loop-rest l = length l.rest
