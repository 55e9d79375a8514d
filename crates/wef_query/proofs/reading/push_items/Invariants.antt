use Rattle.std.proofs.Common.{◌≡◌, drop}
use Rattle.std.specs.Prelude.{option_copied}
use Rattle.wef_elements.specs.Children.{elements_in}
use Rattle.wef_query.specs.Reading.{items_from}
use Rattle.wef_query.proofs.reading.push_items.Given as goal

abbrev pub invariant-loop-node : goal.invariant-loop-node
invariant-loop-node l =
    items_from l.group (option_copied l.around) l.items (elements_in (drop l.node-index l.nodes)) ≡ items_from l.group (option_copied l.around) l.fn.items (elements_in l.nodes)
