use Rattle.std.proofs.Common.{◌≡◌, ◌++◌, drop}
use Rattle.wef_collector_leases.specs.Changes.{deletes}
use Rattle.wef_collector_leases.proofs.changes.deletes.Given as goal

abbrev pub invariant-loop-row : goal.invariant-loop-row
invariant-loop-row l = l.changes ++ deletes (drop l.row-index l.rows) ≡ deletes l.rows
