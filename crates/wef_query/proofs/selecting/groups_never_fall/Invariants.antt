use Rattle.std.proofs.Common.{◌≡◌, drop}
use Rattle.wef_query.specs.Runs.{never_fall}
use Rattle.wef_query.proofs.selecting.groups_never_fall.Given as goal

abbrev pub invariant-loop-item : goal.invariant-loop-item
invariant-loop-item l = never_fall l.last (drop l.item-index l.items) ≡ never_fall 0 l.items
