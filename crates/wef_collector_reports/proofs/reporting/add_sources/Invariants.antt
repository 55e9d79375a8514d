use Rattle.std.proofs.Common.{◌≡◌, drop, map}
use Rattle.wef_keeper.specs.declared.keys.Row.{Row}
use Rattle.wef_query.specs.Order.{with_names}
use Rattle.wef_collector_reports.proofs.reporting.add_sources.Given as goal

abbrev pub invariant-loop-row : goal.invariant-loop-row
invariant-loop-row l =
    with_names l.sources.keys (map (λ (row : Row). row.key.source) (drop l.row-index l.rows)) ≡ with_names l.fn.sources.keys (map (λ (row : Row). row.key.source) l.rows)
