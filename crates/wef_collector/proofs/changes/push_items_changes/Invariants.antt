use Rattle.std.proofs.Common.{◌≡◌, ◌++◌, drop}
use Rattle.std.specs.List.{AllByRecursion, flat_map}
use Rattle.wef_collector.specs.Keepable.{IsKeepable}
use Rattle.wef_collector.specs.Taken.{item_changes}
use Rattle.wef_collector.proofs.changes.push_items_changes.Given as goal

abbrev pub invariant-loop-item : goal.invariant-loop-item
invariant-loop-item l =
    let changes_of = item_changes l.of.sub.now l.of.source.now l.of.channel.now l.bookmark in
    record {
      changes : l.changes ++ flat_map changes_of (drop l.item-index l.items) ≡ l.fn.changes ++ flat_map changes_of l.items;
      keepable : AllByRecursion (IsKeepable l.of.channel.now) (drop l.item-index l.items);
    }
