use Rattle.std.proofs.Common.{◌≡◌, ◌++◌, drop, map}
use Rattle.wef_batch.specs.Elements.{item_element}
use Rattle.wef_batch.specs.Numbers.{AreNumbered}
use Rattle.wef_batch.proofs.writing.items_of.Given as goal

abbrev pub invariant-loop-item : goal.invariant-loop-item
invariant-loop-item l = record {
  value : l.elements ++ map (λ item. item_element item) (drop l.item-index l.items) ≡ map (λ item. item_element item) l.items;
  numbered : AreNumbered (drop l.item-index l.items);
}
