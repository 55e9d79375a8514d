-- What `write` does to the histories of a source: each event is the next record of its channel.
use Rattle.std.specs.Prelude.{◌≡◌, ℕ, ◌+◌, ◌≤◌, ◌⊎◌, List, [], ◌∷◌, ◌++◌, length, take, Some}
use Rattle.std.specs.Io.KnownBytes.{Appends}
use Rattle.wef_commands.specs.Endings.{IsUnwritten, Told}
use Rattle.wef_commands.specs.Laws.{OverLast}
use Rattle.wef_commands.specs.Writing.{HasEvents, WriteEnds, written_text}
use Rattle.wef_commands.specs.declared.ending.Ending.{Ending}
use Rattle.wef_commands.specs.declared.ending.Ending.TheVariants as ends
use Rattle.wef_commands.specs.declared.writing.TheConstants.{LOG_CAPACITY}
use Rattle.wef_event.specs.Events.{Event}
use Rattle.wef_event.specs.Numbering.{numbered_text}
use Rattle.wef_keeper.specs.Keeping.{Store}
use Rattle.wef_keeper.specs.Rows.{Rows}
use Rattle.wef_source_log.specs.Histories.{Histories, extended, history, text_at}
use Rattle.wef_source_log.specs.LogWindow.{IsWindow}

-- ---- histories

-- the number of the next record of an event's channel
abbrev pub next_in : Histories → Event → ℕ
next_in all event = length (history all event.channel) + 1

-- the text that an event has as that record
abbrev pub text_in : Histories → Event → List ℕ
text_in all event = numbered_text event (next_in all event)

-- the histories with an event as the next record of its channel
abbrev pub with_record : Histories → Event → Histories
with_record all event = extended all event.channel (text_in all event)

-- and with these, one after the other
abbrev pub with_records : Histories → List Event → Histories
with_records all [] = all
with_records all (event ∷ events) = with_records (with_record all event) events

-- their numbers then
abbrev pub numbers_in : Histories → List Event → List ℕ
numbers_in all [] = []
numbers_in all (event ∷ events) = next_in all event ∷ numbers_in (with_record all event) events

-- each number names the record of its channel that has the event's text
abbrev pub AreRecords : Histories → List Event → List ℕ → Type 0
AreRecords all [] [] = Unit {0}
AreRecords all (event ∷ events) (n ∷ numbers) = (text_at (history all event.channel) n ≡ Some (numbered_text event n)) × AreRecords all events numbers
AreRecords all events numbers = ⊥

-- ---- a run

-- The log was started, and of the events of the input the first were written, and these alone are in the histories then. All of
-- them are told, each by the number of its record, but for one at most, whose line isn't printed, or not whole.
pub record HasRecorded (ending : Ending) (input out : Told) (all : Histories) (boot : ℕ) (last : Rows) : Type 0 where
  pub told : List Event
  pub untold : List Event
  pub rest : List Event
  pub events : HasEvents (told ++ (untold ++ rest)) input
  pub few : length untold ≤ 1
  pub window : IsWindow last (with_records all (told ++ untold)) LOG_CAPACITY (boot + 1)
  pub printed : (m : ℕ) × Appends out.before out.after (written_text told (numbers_in all told) ++ take m (written_text untold (numbers_in (with_records all told) untold)))
  pub named : AreRecords (with_records all (told ++ untold)) told (numbers_in all told)
  -- where the run is done, there is no other event
  pub whole : ending ≡ ends.Done → (untold ≡ []) × (rest ≡ [])

-- Nothing was written: it ended before the log was started, or its start was refused, which raises the boot number at most.
pub record HasNotBegun (out : Told) (all : Histories) (boot : ℕ) (last : Rows) : Type 0 where
  pub unwritten : IsUnwritten out
  pub window : IsWindow last all LOG_CAPACITY boot ⊎ IsWindow last all LOG_CAPACITY (boot + 1)

-- What a run did to the histories whose window the rows before it are.
abbrev pub Records : Ending → Told → Told → Histories → ℕ → Rows → Type 0
Records ending input out all boot last = HasNotBegun out all boot last ⊎ HasRecorded ending input out all boot last

-- Whatever its ending, and whatever rows an opening may find behind it.
abbrev pub WritesTellHistory : Type 0
WritesTellHistory =
    (ending : Ending) (input out : Told) (before now : Store) → WriteEnds ending input out before now
    → OverLast (λ found last. (all : Histories) (boot : ℕ) → IsWindow found all LOG_CAPACITY boot → Records ending input out all boot last) before now
