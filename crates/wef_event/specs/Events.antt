-- Events: records of a channel, each its text in XML. The text says the channel and the number.
use Rattle.std.specs.Prelude.{◌≡◌, ℕ, ◌==◌, nat_lt, Bool, true, false, ◌&&◌, List, length, Option, Some, None, Result, codes, if◌then◌else◌}
use Rattle.std.specs.Option.{option_and_then}
use Rattle.std.specs.declared.result.Result.TheVariants.{Ok, Err}
use Rattle.wef_base.specs.Names.{same}
use Rattle.wef_base.specs.declared.tree.Charset.TheVariants.{Utf8}
use Rattle.wef_base.specs.declared.tree.Element.{Element}
use Rattle.wef_xml.specs.Canonical.{canonical, encoded}
use Rattle.wef_tree_reading.specs.Documents.{tree_of}
use Rattle.wef_xml.specs.Good.{IsGoodTree}
use Rattle.wef_event.specs.Paths.{channel_in, number_in}
use Rattle.wef_event.specs.declared.records.EventFault.{EventFault}
use Rattle.wef_event.specs.declared.records.EventFault.TheVariants.{NoMemory, BadEvent, NoChannel, NoRecordId, TooLong}

-- An event: its channel, its number there, or 0 where it has none yet, and its text, which is that of one tree alone.
pub record Event : Type 0 where
  pub channel : List ℕ
  pub number : ℕ
  pub text : List ℕ

-- the most bytes that the text of an event has: 1 MiB
abbrev pub event_limit : ℕ
event_limit = 1048576

-- the one text of a tree, in UTF-8
abbrev pub text_of_tree : Element → List ℕ
text_of_tree root = encoded Utf8 (canonical root)

-- a root that is an event's, in whatever namespace
abbrev pub is_event_root : Element → Bool
is_event_root root = same root.name (codes "Event")

-- the number that was found; where none was, it is needed, or 0 stands for none
abbrev pub number_or : Bool → Option ℕ → Result ℕ EventFault
number_or needed (Some n) = Ok n
number_or true None = Err NoRecordId
number_or false None = Ok 0

-- the event of a channel, a number and a tree, where its text isn't too long
abbrev pub unless_long : List ℕ → ℕ → List ℕ → Result Event EventFault
unless_long c n text = if nat_lt event_limit (length text) then Err TooLong else Ok (record { channel = c; number = n; text = text })

-- the event of a root whose channel was found, once it was looked for its number
abbrev pub with_number_found : Element → List ℕ → Result ℕ EventFault → Result Event EventFault
with_number_found root c (Ok n) = unless_long c n (text_of_tree root)
with_number_found root c (Err fault) = Err fault

-- the event of a root, once it was looked for its channel
abbrev pub with_channel_found : Bool → Element → Option (List ℕ) → Result Event EventFault
with_channel_found needed root (Some c) = with_number_found root c (number_or needed (number_in root))
with_channel_found needed root None = Err NoChannel

-- The event of a root, or why it has none, the first of these that holds: the root isn't an event's, which is a fault at
-- byte 0; the channel isn't there, or its text is no channel's name; the number is needed and isn't there, or its text is
-- no number of a record; the tree's text is too long.
unfoldable pub event_of : Bool → Element → Result Event EventFault
event_of needed root = if is_event_root root then with_channel_found needed root (channel_in root) else Err (BadEvent 0)

-- An event is that of its tree. It may have no number yet.
pub record IsEventOf (event : Event) (node : Element) : Type 0 where
  pub good : IsGoodTree node
  pub event_is : event_of false node ≡ Ok event

-- An event stands for some tree.
abbrev pub HasTree : Event → Type 0
HasTree event = (node : Element) × IsEventOf event node

-- A maker of events gives what the definition gives, or wants memory.
abbrev pub Gives : Result Event EventFault → Result Event EventFault → Type 0
Gives (Ok event) given = given ≡ Ok event
Gives (Err NoMemory) given = Unit {0}
Gives (Err (BadEvent at)) given = given ≡ Err (BadEvent at)
Gives (Err NoChannel) given = given ≡ Err NoChannel
Gives (Err NoRecordId) given = given ≡ Err NoRecordId
Gives (Err TooLong) given = given ≡ Err TooLong

-- the event, where there is one
abbrev pub event_or_none : Result Event EventFault → Option Event
event_or_none (Ok event) = Some event
event_or_none (Err fault) = None

-- the event that a text says, its number among it
unfoldable pub event_in : List ℕ → Option Event
event_in text = option_and_then (λ root. event_or_none (event_of true root)) (tree_of Utf8 text)

-- A reader gives the event that there is, and a fault where there is none, but for want of memory.
abbrev pub Finds : Result Event EventFault → Option Event → Type 0
Finds (Ok event) given = given ≡ Some event
Finds (Err NoMemory) given = Unit {0}
Finds (Err (BadEvent at)) given = given ≡ None
Finds (Err NoChannel) given = given ≡ None
Finds (Err NoRecordId) given = given ≡ None
Finds (Err TooLong) given = given ≡ None

-- whether an event is the one that was found
abbrev pub is_found : Event → Option Event → Bool
is_found event None = false
is_found event (Some found) = same event.channel found.channel && event.number == found.number && same event.text found.text

-- whether an event is the one that its text says: the text is the one text of a tree, which says its channel and its number
unfoldable pub is_event : Event → Bool
is_event event = is_found event (event_in event.text)
