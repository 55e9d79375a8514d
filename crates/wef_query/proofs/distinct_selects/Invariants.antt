use Rattle.std.proofs.Common.{◌≡◌, drop}
use Rattle.wef_query.specs.Order.{with_names}
use Rattle.wef_query.specs.Selected.{channels_of, selects}
use Rattle.wef_query.proofs.distinct_selects.Given as goal

abbrev pub invariant-loop-item : goal.invariant-loop-item
invariant-loop-item l = with_names l.names.keys (selects (drop l.item-index l.list.items)) ≡ channels_of l.list.items
