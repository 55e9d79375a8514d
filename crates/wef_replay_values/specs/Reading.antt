-- What a reader of words answers, beside the value that a definition gives.
use Rattle.std.specs.Prelude.{◌≡◌, List, ◌∷◌, ◌++◌, Option, Some, None, Result}
use Rattle.std.specs.declared.result.Result.TheVariants.{Ok, Err}
use Rattle.wef_base.specs.declared.names.ValueFault as value
use Rattle.wef_base.specs.declared.names.ValueFault.TheVariants as values
use Rattle.wef_event.specs.declared.records.EventFault as event
use Rattle.wef_event.specs.declared.records.EventFault.TheVariants as events
use Rattle.wef_replay_values.specs.declared.values.LineFault.{LineFault}
use Rattle.wef_replay_values.specs.declared.values.LineFault.TheVariants.{NoMemory, NotUnderstood}

-- a fault of reading a value, as a fault of the line
abbrev pub line_fault : value.ValueFault → LineFault
line_fault values.NoMemory = NoMemory
line_fault values.NotANumber = NotUnderstood
line_fault values.TooLarge = NotUnderstood
line_fault values.NotADuration = NotUnderstood
line_fault values.NotAMoment = NotUnderstood
line_fault values.BadName = NotUnderstood

-- a fault of making an event, as a fault of the line
abbrev pub event_line_fault : event.EventFault → LineFault
event_line_fault events.NoMemory = NoMemory
event_line_fault (events.BadEvent at) = NotUnderstood
event_line_fault events.NoChannel = NotUnderstood
event_line_fault events.NoRecordId = NotUnderstood
event_line_fault events.TooLong = NotUnderstood

-- a refusal comes exactly where the definition gives nothing, or for want of memory
abbrev pub Refuses : {X : Type 0} → LineFault → Option X → Type 0
Refuses NoMemory given = Unit {0}
Refuses NotUnderstood given = given ≡ None

-- the reader gives what the definition gives
abbrev pub Gives : {X : Type 0} → Result X LineFault → Option X → Type 0
Gives (Ok x) given = given ≡ Some x
Gives (Err fault) given = Refuses fault given

-- a value in front of a list of them, where both are given
abbrev pub with_first : {X : Type 0} → Option X → Option (List X) → Option (List X)
with_first None given = None
with_first (Some x) None = None
with_first (Some x) (Some xs) = Some (x ∷ xs)

-- values in front of a list of them, where that is given
abbrev pub with_front : {X : Type 0} → List X → Option (List X) → Option (List X)
with_front front None = None
with_front front (Some rest) = Some (front ++ rest)
