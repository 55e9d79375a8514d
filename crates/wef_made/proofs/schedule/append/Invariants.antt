use Rattle.std.proofs.Common.{◌≡◌, ◌++◌}
use Rattle.wef_made.proofs.schedule.append.Given as goal

abbrev pub invariant-loop-line : goal.invariant-loop-line
invariant-loop-line l = l.lines ++ l.line-iterator.rest.items ≡ l.fn.lines ++ l.fn.more
