-- The elements that items are written as, those of an event's text and of what is gone.
use Rattle.std.specs.Prelude.{ℕ, ◌+◌, ◌-◌, List, [], ◌∷◌, codes, map}
use Rattle.std.specs.Fmt.{decimal}
use Rattle.wef_base.specs.declared.tree.Attribute.{Attribute}
use Rattle.wef_base.specs.declared.tree.Element.{Element}
use Rattle.wef_elements.specs.Children.{with_attributes, with_elements}
use Rattle.wef_elements.specs.Spaces.{management, profile}
use Rattle.wef_batch.specs.declared.items.Item.{Item}
use Rattle.wef_batch.specs.declared.items.Item.TheVariants.{Event, Dropped, Loose}
use Rattle.wef_batch.specs.declared.writing.TheConstants.{EVENT_ACTION}

-- what the attribute of an event's element says
unfoldable pub event_action : List ℕ
event_action = EVENT_ACTION.now

abbrev pub action_attribute : Attribute
action_attribute = record { space = []; name = codes "Action"; value = event_action }

-- an event, as the characters of its text
abbrev pub event_element : List ℕ → Element
event_element text = with_attributes management (codes "Event") (action_attribute ∷ []) text

-- an attribute of this project's namespace
abbrev pub profiled : List ℕ → List ℕ → Attribute
profiled name value = record { space = profile; name = name; value = value }

-- so many records that are gone
abbrev pub gone_element : List Attribute → ℕ → Element
gone_element attributes count = with_attributes management (codes "DroppedEvents") attributes (decimal count)

-- where they were
abbrev pub range_attributes : List ℕ → ℕ → ℕ → List Attribute
range_attributes c first last = profiled (codes "Channel") c ∷ profiled (codes "First") (decimal first) ∷ profiled (codes "Last") (decimal last) ∷ []

abbrev pub range_element : List ℕ → ℕ → ℕ → Element
range_element c first last = gone_element (range_attributes c first last) (last - first + 1)

unfoldable pub item_element : Item → Element
item_element (Event event) = event_element event.text
item_element (Dropped channel first last) = range_element channel first last
item_element (Loose count) = gone_element [] count

-- the element that holds the items of a batch
abbrev pub batch_element : List Item → Element
batch_element items = with_elements management (codes "Events") (map (λ item. item_element item) items)
