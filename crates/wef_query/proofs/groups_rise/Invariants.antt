use Rattle.std.proofs.Common.{◌≡◌, drop}
use Rattle.wef_query.specs.Laws.{groups_rise}
use Rattle.wef_query.proofs.groups_rise.Given as goal

abbrev pub invariant-loop-item : goal.invariant-loop-item
invariant-loop-item l = groups_rise l.last (drop l.item-index l.items) ≡ groups_rise l.fn.group l.items
