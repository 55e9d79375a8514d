use Rattle.std.proofs.Common.{◌≡◌, length}
use Rattle.wef_query_tokens.specs.Tokens.{decimal_tail}
use Rattle.wef_query_tokens.proofs.tokens.decimal_tail.Given as goal

abbrev pub invariant-loop-rest : goal.invariant-loop-rest
invariant-loop-rest l = decimal_tail l.number l.rest ≡ decimal_tail l.fn.begun l.text

abbrev pub decreases-loop-rest : goal.decreases-loop-rest
decreases-loop-rest l = length l.rest
