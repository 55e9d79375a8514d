-- What a call of the log is about to commit, and how its event is numbered.
use Rattle.std.specs.Prelude.{◌≡◌, ℕ, Option, None, Result, Ok, Err}
use Rattle.wef_event.specs.Events.{Event}
use Rattle.wef_keeper.specs.Calls.{Effect, TellsFault}
use Rattle.wef_source_log.specs.Faults.{log_store}
use Rattle.wef_source_log.specs.declared.changing.Prepared.{Prepared}
use Rattle.wef_source_log.specs.declared.faults.LogFault.{LogFault}
use Rattle.wef_source_log.specs.declared.faults.LogFault.TheVariants.{NoMemory, TooLong}

-- What is prepared is what the call does, and its number is this one; it is refused where the call is.
abbrev pub Prepares : Effect LogFault → ℕ → Result Prepared LogFault → Type 0
Prepares effect number (Ok prepared) = (effect ≡ Ok prepared.changes) × (prepared.number ≡ number)
Prepares effect number (Err fault) = TellsFault (log_store fault) fault effect

-- an event isn't numbered: memory was wanting, or there is no event with the number
abbrev pub RefusesNumber : Option Event → LogFault → Type 0
RefusesNumber numbered NoMemory = Unit {0}
RefusesNumber numbered TooLong = numbered ≡ None
RefusesNumber numbered _ = ⊥
