use Rattle.std.proofs.Common.{◌≡◌, length}
use Rattle.wef_query_tokens.specs.Tokens.{hexadecimal_tail}
use Rattle.wef_query_tokens.proofs.tokens.hexadecimal_tail.Given as goal

abbrev pub invariant-loop-rest : goal.invariant-loop-rest
invariant-loop-rest l = hexadecimal_tail l.number l.rest ≡ hexadecimal_tail l.fn.begun l.text

abbrev pub decreases-loop-rest : goal.decreases-loop-rest
decreases-loop-rest l = length l.rest
