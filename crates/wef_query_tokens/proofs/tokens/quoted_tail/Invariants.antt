use Rattle.std.proofs.Common.{◌≡◌, length}
use Rattle.std.specs.Option.{option_map}
use Rattle.wef_query_tokens.specs.Tokens.{quoted_tail, with_front}
use Rattle.wef_query_tokens.proofs.tokens.quoted_tail.Given as goal

abbrev pub invariant-loop-rest : goal.invariant-loop-rest
invariant-loop-rest l = option_map (with_front l.quoted) (quoted_tail l.quote l.rest) ≡ option_map (with_front l.fn.begun) (quoted_tail l.quote l.text)

abbrev pub decreases-loop-rest : goal.decreases-loop-rest
decreases-loop-rest l = length l.rest
