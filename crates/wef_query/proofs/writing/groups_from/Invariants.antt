use Rattle.std.proofs.Common.{◌≡◌, [], ◌∷◌, ◌++◌, drop}
use Rattle.wef_query.specs.Writing.{groups_from, item_element}
use Rattle.wef_query.proofs.writing.groups_from.Given as goal

abbrev pub invariant-loop-item : goal.invariant-loop-item
invariant-loop-item l =
    l.groups ++ groups_from l.group l.open (drop l.item-index l.more) ≡ groups_from l.first.group (item_element l.first ∷ []) l.more
