-- What becomes of what an ask or a poll found.
use Rattle.std.specs.Prelude.{ℕ, List, Option, Some, None}
use Rattle.wef_front.specs.Sent.{CanBeAsked}
use Rattle.wef_front_source.specs.Sending.{BeatCanBeSent, CanBeSent}
use Rattle.wef_ids.specs.declared.MessageId.{MessageId}
use Rattle.wef_machine.specs.States.{State, with_message}
use Rattle.wef_machine.specs.declared.messages.Message.TheVariants as sent
use Rattle.wef_places.specs.declared.places.Used.{Used}
use Rattle.wef_places.specs.declared.places.Used.TheVariants.{Closed, Answered}
use Rattle.wef_places.specs.declared.slots.Polled.{Polled}
use Rattle.wef_places.specs.declared.slots.Polled.TheVariants.{Sent, Beat}

-- a world after an ask: it is sent, where an id was left
abbrev pub with_asked : State → List ℕ → Used (Option MessageId) → State
with_asked state s (Closed how) = state
with_asked state s (Answered None) = state
with_asked state s (Answered (Some id)) = with_message state (sent.Ask s id)

-- a world after a poll: a delivery is sent, or a heartbeat
abbrev pub with_polled : State → List ℕ → Used Polled → State
with_polled state s (Answered (Sent delivery)) = with_message state (sent.Events s delivery)
with_polled state s (Answered (Beat beat)) = with_message state (sent.Beat s beat)
with_polled state s _ = state

-- an ask that a source sends can be written
abbrev pub CanBeAskedAs : List ℕ → Used (Option MessageId) → Type 0
CanBeAskedAs s (Answered (Some id)) = CanBeAsked (record { source = s; id = id })
CanBeAskedAs s _ = Unit {0}

-- a delivery or a heartbeat that a session has to send can be written
abbrev pub CanBeSentAs : Used Polled → Type 0
CanBeSentAs (Answered (Sent delivery)) = CanBeSent delivery
CanBeSentAs (Answered (Beat beat)) = BeatCanBeSent beat
CanBeSentAs _ = Unit {0}
