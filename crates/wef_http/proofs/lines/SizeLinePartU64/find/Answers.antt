use Rattle.std.proofs.Common.{inr, arith}
use Rattle.wef_http.proofs.LongLines.{long_line, no_line, size_found}
use Rattle.wef_http.proofs.lines.SizeLinePartU64.find.Goals as goal

pub returns-then-len-gt-HEAD_LIMIT-clause-refused :
    goal.returns-then-len-gt-HEAD_LIMIT-clause-refused
returns-then-len-gt-HEAD_LIMIT-clause-refused c =
    let found = rw c.in-Ok-Complete.field-0-is at c.in-Ok-Complete.ensures.complete in
    λ _ more. inr (long_line c.args.bytes.now c.in-Ok-Complete.len c.in-Ok-Complete.size found.0 found.1 (omega (arith, c.if-len-gt-HEAD_LIMIT.true)) more)

pub returns-then-bytes-ge-HEAD_LIMIT-clause-refused :
    goal.returns-then-bytes-ge-HEAD_LIMIT-clause-refused
returns-then-bytes-ge-HEAD_LIMIT-clause-refused c =
    let none = rw c.in-Ok-Partial.field-0-is at c.in-Ok-Partial.ensures.partial in
    λ _ more. inr (no_line c.args.bytes.now none (omega (arith, c.if-bytes-ge-HEAD_LIMIT.true)) more)

pub returns-else-len-gt-HEAD_LIMIT-clause-found : goal.returns-else-len-gt-HEAD_LIMIT-clause-found
returns-else-len-gt-HEAD_LIMIT-clause-found c =
    let found = rw c.in-Ok-Complete.field-0-is at c.in-Ok-Complete.ensures.complete in
    size_found c.args.bytes.now c.in-Ok-Complete.len c.in-Ok-Complete.size found.0 found.1 (omega (arith, c.if-len-gt-HEAD_LIMIT.false))
