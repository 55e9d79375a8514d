-- What a delivery moves, by its message.
use Rattle.std.proofs.Common.{◌≡◌, ℕ, Bool, false, refl}
use Rattle.std.specs.Option.{option_map}
use Rattle.std.specs.Prelude.{Option, Some, None}
use Rattle.wef_machine.specs.Deliveries.{message_at}
use Rattle.wef_machine.specs.States.{State, next_number, slot_of}
use Rattle.wef_machine.specs.Turns.{leases_in, waits_by}
use Rattle.wef_machine.specs.declared.messages.Message.{Message}
use Rattle.wef_machine.specs.declared.messages.Message.TheVariants as sent
use Rattle.wef_world.specs.Delivered.{deliver_comes, delivered_by, moved_by, taken_of}
use Rattle.wef_world.specs.Exchanged.{moves_in}

-- whether a session goes on by a message, or a lease stands
abbrev pub moves_by : State → Option Message → Bool
moves_by state None = false
moves_by state (Some (sent.Ack s id relates)) = waits_by (slot_of state s) relates
moves_by state (Some (sent.Response s id relates answer)) = leases_in state relates answer
moves_by state (Some _) = false

pub moves_is : (state : State) (k : ℕ) → moves_in (deliver_comes state k) ≡ moves_by state (message_at state k)
moves_is state k = by (message_at state k)
  where
    by_message : (m : Message) → moved_by state m ≡ moves_by state (Some m)
    by_message (sent.Ask s id) = refl
    by_message (sent.Offers s id relates given) = refl
    by_message (sent.Events s delivery) = refl
    by_message (sent.Beat s beat) = refl
    by_message (sent.Ack s id relates) = refl
    by_message (sent.Fault s id relates fault) = refl
    by_message (sent.Request s id identifier body) = refl
    by_message (sent.Response s id relates answer) = refl
    by_message (sent.Ended s note) = refl

    by : (o : Option Message) → moves_in (option_map (λ (message : Message). delivered_by (next_number state) (moved_by state message) (taken_of state message)) o) ≡ moves_by state o
    by None = refl
    by (Some m) = by_message m
