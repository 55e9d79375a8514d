-- What reading an event's text answers.
use Rattle.std.specs.Prelude.{◌≡◌, ℕ, nat_lt, Bool, List, length, Option, Some, None, Result, ◌⊎◌, if◌then◌else◌}
use Rattle.std.specs.declared.result.Result.TheVariants.{Ok, Err}
use Rattle.wef_base.specs.declared.tree.Charset.TheVariants.{Utf8}
use Rattle.wef_base.specs.declared.tree.Element.{Element}
use Rattle.wef_tree_reading.specs.Spelling.{Spells, StopsAt}
use Rattle.wef_tree_reading.specs.declared.faults.FaultKind.{FaultKind}
use Rattle.wef_event.specs.Events.{Event, event_limit, event_of}
use Rattle.wef_event.specs.declared.records.EventFault.{EventFault}
use Rattle.wef_event.specs.declared.records.EventFault.TheVariants.{NoMemory, BadEvent, NoChannel, NoRecordId, TooLong}

-- The text is no document, with its fault at this byte.
abbrev pub IsFaulty : List ℕ → ℕ → Type 0
IsFaulty text at = (kind : FaultKind) × StopsAt Utf8 text kind at

-- The text is a document, of whose root the definition says so.
abbrev pub Says : Bool → List ℕ → Result Event EventFault → Type 0
Says needed text answer = (root : Element) × Spells Utf8 text root × (event_of needed root ≡ answer)

-- The event that the text says, or the first fault that it has: that of the document, or that of its root.
abbrev pub ReadsEvent : Bool → List ℕ → Result Event EventFault → Type 0
ReadsEvent needed text (Ok event) = Says needed text (Ok event)
ReadsEvent needed text (Err NoMemory) = Unit {0}
ReadsEvent needed text (Err (BadEvent at)) = IsFaulty text at ⊎ Says needed text (Err (BadEvent at))
ReadsEvent needed text (Err NoChannel) = Says needed text (Err NoChannel)
ReadsEvent needed text (Err NoRecordId) = Says needed text (Err NoRecordId)
ReadsEvent needed text (Err TooLong) = Says needed text (Err TooLong)

-- A reader that needs no number never asks for one.
abbrev pub AsksForNoNumber : EventFault → Type 0
AsksForNoNumber NoRecordId = ⊥
AsksForNoNumber NoMemory = Unit {0}
AsksForNoNumber (BadEvent at) = Unit {0}
AsksForNoNumber NoChannel = Unit {0}
AsksForNoNumber TooLong = Unit {0}

-- a text, where it isn't too long for an event
abbrev pub short_text : List ℕ → Option (List ℕ)
short_text text = if nat_lt event_limit (length text) then None else Some text
