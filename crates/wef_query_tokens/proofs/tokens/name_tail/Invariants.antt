use Rattle.std.proofs.Common.{◌≡◌, length}
use Rattle.wef_query_tokens.specs.Tokens.{name_tail, with_front}
use Rattle.wef_query_tokens.proofs.tokens.name_tail.Given as goal

abbrev pub invariant-loop-rest : goal.invariant-loop-rest
invariant-loop-rest l = with_front l.name (name_tail l.rest) ≡ with_front l.fn.begun (name_tail l.text)

abbrev pub decreases-loop-rest : goal.decreases-loop-rest
decreases-loop-rest l = length l.rest
