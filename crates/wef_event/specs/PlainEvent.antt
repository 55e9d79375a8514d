-- The event that a source makes of plain words.
use Rattle.std.specs.Prelude.{◌≡◌, ℕ, ◌≤◌, nat_lt, true, List, [], ◌∷◌, ◌++◌, length, codes, Option, Some, None, Result, if◌then◌else◌}
use Rattle.std.specs.Str.{is_utf8}
use Rattle.std.specs.declared.result.Result.TheVariants.{Ok, Err}
use Rattle.std.specs.Fmt.{decimal}
use Rattle.wef_base.specs.Characters.{is_xml_text}
use Rattle.wef_base.specs.Names.{channel_name}
use Rattle.wef_base.specs.declared.numbers.TheConstants.{MAX}
use Rattle.wef_base.specs.declared.tree.Element.{Element}
use Rattle.wef_base.specs.declared.tree.Node.{Node}
use Rattle.wef_base.specs.declared.tree.Node.TheVariants.{Element as Child}
use Rattle.wef_elements.specs.Texts.{only_text}
pub use Rattle.wef_event.specs.Characters.{escape, escaped}
use Rattle.wef_event.specs.Events.{Event, IsEventOf, event_limit, is_event}
use Rattle.wef_event.specs.declared.records.EventFault.{EventFault}
use Rattle.wef_event.specs.declared.records.EventFault.TheVariants.{NoMemory, BadEvent, NoChannel, NoRecordId, TooLong}

-- its text
unfoldable pub plain_text : List ℕ → ℕ → ℕ → ℕ → List ℕ → List ℕ
plain_text channel number id level word =
    codes "<Event xmlns=\"http://schemas.microsoft.com/win/2004/08/events/event\"><System><EventID>" ++ decimal id
    ++ codes "</EventID><Level>" ++ decimal level
    ++ codes "</Level><EventRecordID>" ++ decimal number
    ++ codes "</EventRecordID><Channel>" ++ escaped channel
    ++ codes "</Channel></System><EventData><Data>" ++ escaped word
    ++ codes "</Data></EventData></Event>"

-- the event, where its text isn't too long
abbrev pub plain_event : List ℕ → ℕ → ℕ → ℕ → List ℕ → Option Event
plain_event channel number id level word =
    if nat_lt event_limit (length (plain_text channel number id level word)) then None
    else Some (record { channel = channel; number = number; text = plain_text channel number id level word })

-- A maker of events gives the event that the definition gives, and TooLong exactly where that gives none.
abbrev pub MakesEvent : Result Event EventFault → Option Event → Type 0
MakesEvent (Ok event) given = given ≡ Some event
MakesEvent (Err TooLong) given = given ≡ None
MakesEvent (Err NoMemory) given = Unit {0}
MakesEvent (Err (BadEvent at)) given = ⊥
MakesEvent (Err NoChannel) given = ⊥
MakesEvent (Err NoRecordId) given = ⊥

-- ---- its tree

-- the namespace of all its elements
unfoldable pub event_space : List ℕ
event_space = codes "http://schemas.microsoft.com/win/2004/08/events/event"

-- an element of the namespace of events
abbrev pub element : List ℕ → List Node → Node
element name children = Child (record { space = event_space; name = name; attributes = []; children = children })

-- the part with the fields that each event has
abbrev pub plain_system : List ℕ → ℕ → ℕ → ℕ → Node
plain_system channel number id level =
    element (codes "System")
    (element (codes "EventID") (only_text (decimal id)) ∷ element (codes "Level") (only_text (decimal level))
    ∷ element (codes "EventRecordID") (only_text (decimal number)) ∷ element (codes "Channel") (only_text channel) ∷ [])

-- the part with the data
abbrev pub plain_data : List ℕ → Node
plain_data word = element (codes "EventData") (element (codes "Data") (only_text word) ∷ [])

-- the root with the two
abbrev pub plain_tree : List ℕ → ℕ → ℕ → ℕ → List ℕ → Element
plain_tree channel number id level word = record {
  space = event_space;
  name = codes "Event";
  attributes = [];
  children = plain_system channel number id level ∷ plain_data word ∷ [];
}

-- The plain event of a channel and a word of characters that XML allows is the event of its tree.
abbrev pub PlainEventsAreOfTrees : Type 0
PlainEventsAreOfTrees = (channel word : List ℕ) (number id level : ℕ) (event : Event) →
    channel_name channel ≡ Some channel → is_utf8 channel ≡ true → is_utf8 word ≡ true → is_xml_text word ≡ true → number ≤ MAX →
    plain_event channel number id level word ≡ Some event → IsEventOf event (plain_tree channel number id level word)

-- And where it has a number, it is the event that its text says.
abbrev pub PlainEventsAreRead : Type 0
PlainEventsAreRead = (channel word : List ℕ) (number id level : ℕ) (event : Event) →
    channel_name channel ≡ Some channel → is_utf8 channel ≡ true → is_utf8 word ≡ true → is_xml_text word ≡ true → 1 ≤ number → number ≤ MAX →
    plain_event channel number id level word ≡ Some event → is_event event ≡ true
