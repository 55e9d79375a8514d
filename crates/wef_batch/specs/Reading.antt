-- What the elements of a message say of a batch (WS-Management, 10.2.9, and this project's way with what is gone). Batches have
-- one element Events, whose children are the items; spaces between them don't matter.
use Rattle.std.specs.Prelude.{◌≡◌, ℕ, ◌+◌, ◌-◌, ◌==◌, nat_le, Bool, true, false, ◌&&◌, ◌||◌, is_some, List, [], ◌∷◌, ◌++◌, length, codes, Option, Some, None, Result, IfOk, IsErr, if◌then◌else◌}
use Rattle.std.specs.FinMap as map
use Rattle.std.specs.List.{AllByRecursion, list_any}
use Rattle.std.specs.Option.{option_and_then, option_map}
use Rattle.std.specs.declared.result.Result.TheVariants.{Ok, Err}
use Rattle.wef_base.specs.Names.{channel_name}
use Rattle.wef_base.specs.declared.tree.Element.{Element}
use Rattle.wef_base.specs.declared.tree.Node.{Node}
use Rattle.wef_elements.specs.Children.{element_of, elements_in, has_words, is_called, is_words}
use Rattle.wef_elements.specs.Spaces.{management, profile}
use Rattle.wef_elements.specs.Texts.{text_inside}
use Rattle.wef_elements.specs.Values.{number_said, value_of}
use Rattle.wef_bookmark.specs.Nodes.{bookmark_in}
use Rattle.wef_bookmark.specs.Order.{Marks}
use Rattle.wef_event.specs.Events as events
use Rattle.wef_event.specs.Events.{event_in, event_of, event_or_none}
use Rattle.wef_event.specs.declared.records.EventFault.{EventFault}
use Rattle.wef_event.specs.declared.records.EventFault.TheVariants as fault
use Rattle.wef_xml.specs.Good.{IsGoodTree}
use Rattle.wef_xml.specs.Told.{AreNodesIn, IsElementIn, IsFound, IsNodeIn}
use Rattle.wef_batch.specs.declared.items.Batch.{Batch}
use Rattle.wef_batch.specs.declared.items.Item.{Item}
use Rattle.wef_batch.specs.declared.items.Item.TheVariants.{Event, Dropped, Loose}
use Rattle.wef_batch.specs.declared.reading.BatchFault.{BatchFault}
use Rattle.wef_batch.specs.declared.reading.BatchFault.TheVariants.{NoMemory, BadBatch, BadHead}

-- ---- an event

-- the event of an element with these elements: its text says it, or its one element is it, with no text beside that
abbrev pub event_by : List Element → Element → Option events.Event
event_by [] e = event_in (text_inside e)
event_by (root ∷ []) e = if has_words e.children then None else event_or_none (event_of true root)
event_by (root ∷ other ∷ more) e = None

unfoldable pub event_at : Element → Option events.Event
event_at e = event_by (elements_in e.children) e

-- ---- what is gone

-- numbers from 1 on in order, with the count of all of them
abbrev pub is_range : ℕ → ℕ → ℕ → Bool
is_range first last count = nat_le 1 first && nat_le first last && count == last - first + 1

-- the range of a channel
abbrev pub range_in : Option (List ℕ) → ℕ → ℕ → ℕ → Option Item
range_in channel first last count = if is_range first last count then option_map (λ c. Dropped c first last) channel else None

abbrev pub range_by : Option (List ℕ) → Option ℕ → Option ℕ → ℕ → Option Item
range_by channel None last count = None
range_by channel (Some first) None count = None
range_by channel (Some first) (Some last) count = range_in channel first last count

-- the range that all three attributes say
abbrev pub range_said : List ℕ → Option (List ℕ) → Option (List ℕ) → ℕ → Option Item
range_said channel None last count = None
range_said channel (Some first) None count = None
range_said channel (Some first) (Some last) count = range_by (channel_name channel) (number_said first) (number_said last) count

-- what attributes say: a range, or a count alone where there is none of them
abbrev pub gone_by : Option (List ℕ) → Option (List ℕ) → Option (List ℕ) → ℕ → Option Item
gone_by (Some channel) first last count = range_said channel first last count
gone_by None first last count = if is_some first || is_some last then None else Some (Loose count)

-- an attribute of this project's
abbrev pub mark : List ℕ → Element → Option (List ℕ)
mark name e = value_of profile name e.attributes

abbrev pub gone_in : Element → ℕ → Option Item
gone_in e count = gone_by (mark (codes "Channel") e) (mark (codes "First") e) (mark (codes "Last") e) count

unfoldable pub gone_at : Element → Option Item
gone_at e = option_and_then (gone_in e) (number_said (text_inside e))

-- ---- items

-- the item that an element says
unfoldable pub item_of : Element → Option Item
item_of e =
    if is_called management (codes "Event") e then option_map (λ event. Event event) (event_at e)
    else (if is_called management (codes "DroppedEvents") e then gone_at e else None)

-- items with one more, if it is one; the first that is none is told by how many stand before it
abbrev pub with_item : List Item → Option Item → Result (List Item) BatchFault
with_item items (Some item) = Ok (items ++ item ∷ [])
with_item items None = Err (BadBatch (length items))

-- items with what a node says, which may be spaces
abbrev pub with_node : List Item → Option Element → Bool → Result (List Item) BatchFault
with_node items (Some e) words = with_item items (item_of e)
with_node items None true = Err (BadBatch (length items))
with_node items None false = Ok items

-- what is read goes on where there was no fault
abbrev pub then_items : Result (List Item) BatchFault → (List Item → Result (List Item) BatchFault) → Result (List Item) BatchFault
then_items (Ok items) more = more items
then_items (Err fault) more = Err fault

-- items with those of some nodes
abbrev pub items_from : List Item → List Node → Result (List Item) BatchFault
items_from items [] = Ok items
items_from items (n ∷ ns) = then_items (with_node items (element_of n) (is_words n)) (λ more. items_from more ns)

-- ---- batches

-- whether an element is the one that holds items
abbrev pub is_events : Element → Bool
is_events e = is_called management (codes "Events") e

-- that one, where it is the only one
abbrev pub only_events : List Element → Option Element
only_events [] = None
only_events (e ∷ es) = if is_events e then (if list_any is_events es then None else Some e) else only_events es

-- how far a batch reads, by its header; nothing where it has none
abbrev pub read_to : Option Element → Option Marks
read_to None = Some map.empty
read_to (Some header) = bookmark_in header

abbrev pub made : Marks → Bool → Result (List Item) BatchFault → Result Batch BatchFault
made to ack (Ok items) = Ok (record { items = items; to = to; ack_wanted = ack })
made to ack (Err fault) = Err fault

abbrev pub by_head : Bool → Option Element → Option Marks → Result Batch BatchFault
by_head ack None to = Err BadHead
by_head ack (Some events) None = Err BadHead
by_head ack (Some events) (Some to) = made to ack (items_from [] events.children)

-- The batch of a message with this header Bookmark, this wish to be told, and this body; or BadHead, or the first item that
-- isn't good.
abbrev pub batch_of : Option Element → Bool → List Element → Result Batch BatchFault
batch_of header ack body = by_head ack (only_events body) (read_to header)

-- A reader answers what the definition gives, but for want of memory.
abbrev pub Reads : {A : Type 0} → Result A BatchFault → Result A BatchFault → Type 0
Reads (Ok a) given = given ≡ Ok a
Reads (Err NoMemory) given = Unit {0}
Reads (Err BadHead) given = given ≡ Err BadHead
Reads (Err (BadBatch item)) given = given ≡ Err (BadBatch item)

-- The same of a call that changes items in place: what they are now, where it was done.
abbrev pub Takes : Result (Unit {0}) BatchFault → Result (List Item) BatchFault → List Item → Type 0
Takes (Ok done) given now = given ≡ Ok now
Takes (Err NoMemory) given now = Unit {0}
Takes (Err BadHead) given now = given ≡ Err BadHead
Takes (Err (BadBatch item)) given now = given ≡ Err (BadBatch item)

-- A reader of the header gives how far it reads, and BadHead where it isn't good.
abbrev pub ReadsTo : Result Marks BatchFault → Option Marks → Type 0
ReadsTo (Ok to) given = given ≡ Some to
ReadsTo (Err NoMemory) given = Unit {0}
ReadsTo (Err BadHead) given = given ≡ None
ReadsTo (Err (BadBatch item)) given = ⊥

-- What is left of an answer once refusals are none: the event, and want of memory alone is a fault.
abbrev pub Opens : {F : Type 0} → Result events.Event EventFault → Result (Option events.Event) F → Type 0
Opens (Ok event) found = IfOk found (λ o. o ≡ Some event)
Opens (Err fault.NoMemory) found = IsErr found
Opens (Err (fault.BadEvent at)) found = IfOk found (λ o. o ≡ None)
Opens (Err fault.NoChannel) found = IfOk found (λ o. o ≡ None)
Opens (Err fault.NoRecordId) found = IfOk found (λ o. o ≡ None)
Opens (Err fault.TooLong) found = IfOk found (λ o. o ≡ None)

-- each of the elements is a good tree
abbrev pub AreGoodTrees : List Element → Type 0
AreGoodTrees es = AllByRecursion IsGoodTree es

-- where the elements are told, no two long namespaces in them have one digest
abbrev pub AreToldTrees : Bool → List Element → Type 0
AreToldTrees told es = told ≡ true → (find : List ℕ → Option (List ℕ)) × AllByRecursion (λ e. IsElementIn (IsFound find) e) es

-- the same of nodes, and of one
abbrev pub AreToldNodes : Bool → List Node → Type 0
AreToldNodes told ns = told ≡ true → (find : List ℕ → Option (List ℕ)) × AreNodesIn (IsFound find) ns

abbrev pub IsToldNode : Bool → Node → Type 0
IsToldNode told n = told ≡ true → (find : List ℕ → Option (List ℕ)) × IsNodeIn (IsFound find) n
