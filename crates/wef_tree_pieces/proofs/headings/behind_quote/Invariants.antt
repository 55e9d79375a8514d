use Rattle.std.proofs.Common.{◌≡◌, length}
use Rattle.wef_tree_pieces.specs.Pieces.{behind_quote}
use Rattle.wef_tree_pieces.proofs.headings.behind_quote.Given as goal

abbrev pub invariant-loop-rest : goal.invariant-loop-rest
invariant-loop-rest l = behind_quote l.quote l.rest ≡ behind_quote l.quote l.text

abbrev pub decreases-loop-rest : goal.decreases-loop-rest
decreases-loop-rest l = length l.rest
