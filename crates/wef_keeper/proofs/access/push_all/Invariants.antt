use Rattle.std.proofs.Common.{◌≡◌, ◌++◌}
use Rattle.wef_keeper.proofs.access.push_all.Given as goal

abbrev pub invariant-loop-row : goal.invariant-loop-row
invariant-loop-row l = l.section ++ l.row-iterator.rest.items ≡ l.fn.section ++ l.fn.page
