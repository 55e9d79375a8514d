-- How a batch is drawn up: candidates are offered one after the other, and taken while they fit.
use Rattle.std.specs.Prelude.{ℕ, ◌-◌, List, [], ◌∷◌, ◌++◌, Option, Some, None, IfSome, if◌then◌else◌}
use Rattle.wef_batch.specs.Cost.{cost}
use Rattle.wef_batch.specs.Numbers.{AreNumbered, IsNumbered}
use Rattle.wef_batch.specs.declared.items.Item.{Item}
use Rattle.wef_batch.specs.declared.items.Item.TheVariants as item
use Rattle.wef_building.specs.Building.{first_number, has_room, is_of}
use Rattle.wef_building.specs.declared.drafting.Draft.{Draft}

-- a draft with room for so many items and so many bytes of them
abbrev pub empty_draft : ℕ → ℕ → Draft
empty_draft items bytes = record { items = []; items_left = items; bytes_left = bytes; left = None }

-- what is taken and what is left has numbers such as records have
abbrev pub IsNumberedDraft : Draft → Type 0
IsNumberedDraft d = AreNumbered d.items × IfSome d.left IsNumbered

-- a draft to which an item is offered: nothing is taken any more once an item didn't fit
abbrev pub offered : Option Item → Draft → Item → Draft
offered (Some first) d i = d
offered None d i =
    if has_room d.items_left d.bytes_left i
    then record d { items = d.items ++ i ∷ []; items_left = d.items_left - 1; bytes_left = d.bytes_left - cost i }
    else record d { left = Some i }

abbrev pub with_item : Draft → Item → Draft
with_item d i = offered d.left d i

-- a draft to which items are offered, one after the other
abbrev pub with_items : Draft → List Item → Draft
with_items d [] = d
with_items d (i ∷ is) = with_items (with_item d i) is

-- how far a channel is read where an item is left: up to that item, where it is of the channel
abbrev pub stop_at : List ℕ → Option Item → Option ℕ
stop_at c None = None
stop_at c (Some i) = if is_of c i then Some (first_number i - 1) else None

-- what says that an event's record is gone
abbrev pub dropped : Item → Item
dropped (item.Event event) = item.Dropped event.channel event.number event.number
dropped i = i
