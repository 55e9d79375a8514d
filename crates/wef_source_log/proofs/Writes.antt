-- That a write extends the histories.
use Rattle.std.proofs.Common.{◌≡◌, ℕ, Bool, true, false, if◌then◌else◌}
use Rattle.std.specs.Prelude.{Result, Ok, Err, IfOk, is_none}
use Rattle.wef_event.specs.Events.{Event}
use Rattle.wef_event.specs.Numbering.{numbered}
use Rattle.wef_keeper.specs.Calls.{Answers, Makes}
use Rattle.wef_keeper.specs.Rows.{Rows}
use Rattle.wef_source_log.specs.Answers.{ExtendsHistory, is_full, next_number, next_text, write_effect}
use Rattle.wef_source_log.specs.Faults.{log_store}
use Rattle.wef_source_log.specs.LogWindow.{capacity_of, write_changes, written}
use Rattle.wef_source_log.specs.declared.faults.LogFault.{LogFault}
use Rattle.wef_source_log.specs.declared.faults.LogFault.TheVariants.{Full, TooLong}
use Rattle.wef_source_log.proofs.Cells.{extends}

-- a write that is done puts the next record
makes_written : (rows after : Rows) (event : Event) → Makes (write_effect rows event) rows after → after ≡ written rows event.channel (next_text rows event)
makes_written rows after event makes =
    by (is_full rows event.channel) (is_none (numbered event (next_number rows event))) makes
  where
    by : (full none : Bool)
        → Makes {F = LogFault} (if full then Err Full else (if none then Err TooLong else Ok (write_changes (capacity_of rows) event.channel (next_number rows event) (next_text rows event)))) rows after
        → after ≡ written rows event.channel (next_text rows event)
    by true none h = absurd h
    by false true h = absurd h
    by false false h = h

-- so the history of its channel is longer
pub extends_window : (result : Result ℕ LogFault) (event : Event) (found after : Rows)
    → Answers log_store result (next_number found event) (write_effect found event) found after → IfOk result (ExtendsHistory found after event)
extends_window (Ok n) event found after answers = extends found after event n answers.1 (makes_written found after event answers.0)
extends_window (Err fault) event found after answers = tt
