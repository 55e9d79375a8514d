use Rattle.std.proofs.Common.{◌≡◌, length}
use Rattle.wef_base.specs.Names.{without_start}
use Rattle.wef_query_tokens.proofs.tokens.behind_spaces.Given as goal

abbrev pub invariant-loop-rest : goal.invariant-loop-rest
invariant-loop-rest l = without_start l.rest ≡ without_start l.text

abbrev pub decreases-loop-rest : goal.decreases-loop-rest
decreases-loop-rest l = length l.rest
