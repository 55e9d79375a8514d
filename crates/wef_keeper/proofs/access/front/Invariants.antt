use Rattle.std.proofs.Common.{◌≡◌, ◌++◌}
use Rattle.wef_keeper.specs.Access as access
use Rattle.wef_keeper.proofs.access.front.Given as goal

-- the rows so far, and the front of those that are left, are the front of all
abbrev pub invariant-loop-row : goal.invariant-loop-row
invariant-loop-row l = l.kept ++ access.front_rows l.depth l.after l.row-iterator.rest.items ≡ access.front_rows l.depth l.after l.fn.rows
