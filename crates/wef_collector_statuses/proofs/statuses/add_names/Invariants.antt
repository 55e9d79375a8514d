use Rattle.std.proofs.Common.{◌≡◌, drop, map}
use Rattle.wef_eventing.specs.declared.subscriptions.SourceAt.{SourceAt}
use Rattle.wef_query.specs.Order.{with_names}
use Rattle.wef_collector_statuses.proofs.statuses.add_names.Given as goal

abbrev pub invariant-loop-source : goal.invariant-loop-source
invariant-loop-source l =
    with_names l.names.keys (map (λ (at : SourceAt). at.name) (drop l.source-index l.sources)) ≡ with_names l.fn.names.keys (map (λ (at : SourceAt). at.name) l.sources)
