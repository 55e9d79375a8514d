-- Which messages reach an end that runs, or can be opened, and the count of the calls by which they do.
use Rattle.std.specs.Prelude.{ℕ, zero, suc, Bool, false, is_some, Option, Some, None, if◌then◌else◌}
use Rattle.wef_keeper.specs.Keeping.{raised}
use Rattle.wef_machine.specs.Collecting.{collector_opened}
use Rattle.wef_machine.specs.Places.{Place}
use Rattle.wef_machine.specs.Sources.{slot_opened}
use Rattle.wef_machine.specs.States.{Slot, State, slot_of}
use Rattle.wef_machine.specs.declared.messages.Message.{Message}
use Rattle.wef_machine.specs.declared.messages.Message.TheVariants as sent

-- the count of such calls after so many more
abbrev pub counted : ℕ → ℕ → ℕ
counted zero count = count
counted (suc more) count = raised (counted more count)

-- one call where an end is open, or none
abbrev pub once : Bool → ℕ
once calls = if calls then 1 else 0

-- whether an end runs
abbrev pub is_open : {M : Type 0} → Place M → Bool
is_open place = is_some place.memory

-- whether a source is there that runs once it is opened
abbrev pub is_open_at : Option Slot → Bool
is_open_at None = false
is_open_at (Some slot) = is_open (slot_opened slot).place

-- whether a message is there whose end is open, or can be opened
abbrev pub is_heard : State → Option Message → Bool
is_heard state None = false
is_heard state (Some (sent.Ask s id)) = is_open (collector_opened state.collector)
is_heard state (Some (sent.Offers s id relates given)) = is_open_at (slot_of state s)
is_heard state (Some (sent.Events s delivery)) = is_open (collector_opened state.collector)
is_heard state (Some (sent.Beat s beat)) = is_open (collector_opened state.collector)
is_heard state (Some (sent.Ack s id relates)) = is_open_at (slot_of state s)
is_heard state (Some (sent.Fault s id relates fault)) = is_open_at (slot_of state s)
is_heard state (Some (sent.Request s id identifier body)) = is_open_at (slot_of state s)
is_heard state (Some (sent.Response s id relates answer)) = is_open (collector_opened state.collector)
is_heard state (Some (sent.Ended s note)) = is_open (collector_opened state.collector)
