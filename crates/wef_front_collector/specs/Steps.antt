-- What the collector does with what was heard, and what it says to that.
use Rattle.std.specs.Prelude.{◌≡◌, ℕ, Bool, true, false, List, [], Result, Ok, Err, IfErr, if◌then◌else◌}
use Rattle.wef_envelope.specs.Faults.{is_known}
use Rattle.wef_ids.specs.declared.FaultName.{FaultName}
use Rattle.wef_ids.specs.declared.FaultName.TheVariants as the
use Rattle.wef_keeper.specs.Calls.{IsCall}
use Rattle.wef_keeper.specs.Keeping.{Store}
use Rattle.wef_keeper.specs.Rows.{Rows}
use Rattle.wef_collector_rows.specs.Answers.{IsOfStore}
use Rattle.wef_collector_rows.specs.Faults.{collector_store}
use Rattle.wef_collector_rows.specs.Forms.{AreFormed}
use Rattle.wef_collector_rows.specs.declared.faults.CollectorFault.{CollectorFault}
use Rattle.wef_collector_rows.specs.declared.faults.CollectorFault.TheVariants.{NoMemory, NoSubscription, Exists, Ended, NotWellFormed, NotAsked, TooMany, Failed, Full}
use Rattle.wef_collector.specs.Calls.{Effect, hear_effect, no_effect, source_ended_effect, take_effect, unread_effect, unread_end_effect}
use Rattle.wef_collector.specs.Offers.{CanAllBeOffered, offers}
use Rattle.wef_eventing.specs.declared.offers.Offer.{Offer}
use Rattle.wef_front_collector.specs.declared.hearing.Asked.{Asked}
use Rattle.wef_front_collector.specs.declared.hearing.Asked.TheVariants as asked
use Rattle.wef_front_collector.specs.declared.hearing.Asked.TheVariants.{Refused, Enumerate, Unread, Take, Heartbeat, UnreadEnd}
use Rattle.wef_front_collector.specs.declared.saying.Said.{Said}
use Rattle.wef_front_collector.specs.declared.saying.Said.TheVariants.{Ack, Quiet, Offers, Fault}

-- ---- what is said

-- The fault that a refusal of the collector is answered with: the subscription isn't there, or no longer; the batch or the end
-- isn't well-formed; all else is the collector's own trouble.
abbrev pub fault_for : CollectorFault → FaultName
fault_for NoSubscription = the.DestinationUnreachable
fault_for Ended = the.DestinationUnreachable
fault_for NotWellFormed = the.InvalidMessage
fault_for NoMemory = the.InternalError
fault_for Failed = the.InternalError
fault_for Exists = the.InternalError
fault_for TooMany = the.InternalError
fault_for NotAsked = the.InternalError
fault_for Full = the.InternalError

-- a batch that was taken is acknowledged where its source wants that, and a heartbeat that was heard
abbrev pub done_said : Bool → Said
done_said ack = if ack then Ack else Quiet

-- what is said of how a call went, by what it gives, or why it was refused
abbrev pub said_with : {T : Type 0} → (T → Said) → Result T CollectorFault → Said
said_with tell (Ok given) = tell given
said_with tell (Err fault) = Fault (fault_for fault)

-- the same where what it does and what it gives are known
abbrev pub said_where : {T : Type 0} → (T → Said) → T → Effect → Said
said_where tell given (Ok changes) = tell given
said_where tell given (Err fault) = Fault (fault_for fault)

-- of a batch that was taken or a heartbeat; an end that was heard is none that is acknowledged
abbrev pub batch_said : Bool → Unit {0} → Said
batch_said ack done = done_said ack

abbrev pub said_of : Bool → Result (Unit {0}) CollectorFault → Said
said_of ack done = said_with (batch_said ack) done

-- what the collector does with what was heard, by the rows that it finds; it doesn't look at them where they decide nothing
abbrev pub effect_in : Asked → ℕ → Rows → Effect
effect_in (Refused name) moment rows = Ok []
effect_in (Enumerate s) moment rows = no_effect rows
effect_in (Unread u) moment rows = unread_effect rows u
effect_in (Take u s batch) moment rows = take_effect rows u s batch moment
effect_in (Heartbeat u s ack) moment rows = hear_effect rows u s moment
effect_in (UnreadEnd u) moment rows = unread_end_effect rows u
effect_in (asked.Ended u s identifier) moment rows = source_ended_effect rows u s identifier

-- what it says where it does this with the rows that it found, and its store doesn't fail; batches come to the host
abbrev pub said_by : List ℕ → Asked → Rows → Effect → Said
said_by host (Refused name) found effect = Fault name
said_by host (Enumerate s) found effect = said_where Offers (offers found s host) effect
said_by host (Unread u) found effect = said_where (batch_said false) tt effect
said_by host (Take u s batch) found effect = said_where (batch_said batch.ack_wanted) tt effect
said_by host (Heartbeat u s ack) found effect = said_where (batch_said ack) tt effect
said_by host (UnreadEnd u) found effect = said_where (batch_said false) tt effect
said_by host (asked.Ended u s identifier) found effect = said_where (batch_said false) tt effect

-- ---- what is done

-- a call of the collector, and what it gives
abbrev pub CallsFor : {T : Type 0} → (Rows → T) → (Rows → Effect) → Result T CollectorFault → Store → Store → Type 0
CallsFor gives effect done before now = IsCall collector_store AreFormed effect gives done before now

-- one that takes a batch or hears of an end gives nothing
abbrev pub Calls : (Rows → Effect) → Result (Unit {0}) CollectorFault → Store → Store → Type 0
Calls effect done before now = CallsFor (λ _. tt) effect done before now

-- the refusals that are answered: those of a batch, of which those of an end are some, but for want of memory
abbrev pub IsAnswered : CollectorFault → Type 0
IsAnswered NoSubscription = Unit {0}
IsAnswered Ended = Unit {0}
IsAnswered NotWellFormed = Unit {0}
IsAnswered Failed = Unit {0}
IsAnswered _ = ⊥

-- that of offers: the store failed
abbrev pub IsFailure : CollectorFault → Type 0
IsFailure Failed = Unit {0}
IsFailure _ = ⊥

-- a call of the collector whose refusals are such, and what is said of how it went
abbrev pub SaysFor : {T : Type 0} → (CollectorFault → Type 0) → (T → Said) → (Rows → T) → (Rows → Effect) → Said → Store → Store → Type 0
SaysFor {T = T} Refuses tell gives effect said before now =
    (done : Result T CollectorFault) × CallsFor gives effect done before now × IfErr done Refuses × (said ≡ said_with tell done)

-- of a batch, or of an end
abbrev pub Says : Bool → (Rows → Effect) → Said → Store → Store → Type 0
Says ack effect said before now = SaysFor IsAnswered (batch_said ack) (λ _. tt) effect said before now

-- of the offers to a source
abbrev pub SaysOffers : List ℕ → List ℕ → Said → Store → Store → Type 0
SaysOffers host s said before now = SaysFor IsFailure Offers (λ rows. offers rows s host) no_effect said before now

-- a fault is said
abbrev pub IsFault : Said → Type 0
IsFault (Fault name) = Unit {0}
IsFault _ = ⊥

-- What the collector does with what was heard at a moment, and what it says: where nothing that is kept decides that, nothing.
abbrev pub Steps : List ℕ → Asked → ℕ → Said → Store → Store → Type 0
Steps host (Refused name) moment said before now = (said ≡ Fault name) × (now ≡ before)
Steps host (Enumerate s) moment said before now = SaysOffers host s said before now
Steps host (Unread u) moment said before now = Says false (effect_in (Unread u) moment) said before now × IsFault said
Steps host (Take u s batch) moment said before now = Says batch.ack_wanted (effect_in (Take u s batch) moment) said before now
Steps host (Heartbeat u s ack) moment said before now = Says ack (effect_in (Heartbeat u s ack) moment) said before now
Steps host (UnreadEnd u) moment said before now = Says false (effect_in (UnreadEnd u) moment) said before now × IsFault said
Steps host (asked.Ended u s identifier) moment said before now = Says false (effect_in (asked.Ended u s identifier) moment) said before now

-- What it has done where there was no memory for the answer: its step whole, or nothing.
abbrev pub HasStepped : List ℕ → Asked → ℕ → Store → Store → Type 0
HasStepped host (Refused name) moment before now = now ≡ before
HasStepped host (Enumerate s) moment before now =
    (done : Result (List Offer) CollectorFault) × CallsFor (λ rows. offers rows s host) no_effect done before now × IfErr done IsOfStore
HasStepped host (Unread u) moment before now = (done : Result (Unit {0}) CollectorFault) × Calls (effect_in (Unread u) moment) done before now
HasStepped host (Take u s batch) moment before now = (done : Result (Unit {0}) CollectorFault) × Calls (effect_in (Take u s batch) moment) done before now
HasStepped host (Heartbeat u s ack) moment before now = (done : Result (Unit {0}) CollectorFault) × Calls (effect_in (Heartbeat u s ack) moment) done before now
HasStepped host (UnreadEnd u) moment before now = (done : Result (Unit {0}) CollectorFault) × Calls (effect_in (UnreadEnd u) moment) done before now
HasStepped host (asked.Ended u s identifier) moment before now = (done : Result (Unit {0}) CollectorFault) × Calls (effect_in (asked.Ended u s identifier) moment) done before now

-- a fault that is said has a name of the table, and the texts of offers can stand in a message
abbrev pub IsKnownSaid : Said → Type 0
IsKnownSaid Ack = Unit {0}
IsKnownSaid Quiet = Unit {0}
IsKnownSaid (Offers list) = CanAllBeOffered list
IsKnownSaid (Fault name) = is_known name ≡ true
