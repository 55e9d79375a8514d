use Rattle.std.proofs.Common.{◌≡◌}
use Rattle.std.specs.List.{filter_map}
use Rattle.wef_building.specs.Building.{item_of}
use Rattle.wef_building.specs.Drafting.{IsNumberedDraft, with_items}
use Rattle.wef_building.proofs.drafting.Draft.take_events.Given as goal

abbrev pub invariant-loop-event : goal.invariant-loop-event
invariant-loop-event l =
    IsNumberedDraft l.self
    × (with_items l.self (filter_map (item_of l.query l.room) l.event-iterator.rest.items) ≡ with_items l.fn.self (filter_map (item_of l.query l.room) l.fn.events))
