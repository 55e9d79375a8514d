-- That nothing is missing: each record that a subscription selects of what a source wrote is held, or is marked as dropped.
use Rattle.std.specs.Prelude.{◌≡◌, ℕ, true, List, Some, Contains, ◌⊎◌}
use Rattle.wef_batch.specs.WellFormed.{is_in}
use Rattle.wef_building.specs.Wanted.{in_ranges, selected_at}
use Rattle.wef_collector_reports.specs.Report.{report}
use Rattle.wef_collector_rows.specs.Answers.{channels_read}
use Rattle.wef_collector_rows.specs.Held.{held_after}
use Rattle.wef_collector_rows.specs.Standing.{standing}
use Rattle.wef_collector_rows.specs.declared.standings.Standing.TheVariants.{Live}
use Rattle.wef_eventing.specs.declared.subscriptions.Subscription.{Subscription}
use Rattle.wef_keeper.specs.Rows.{Rows}
use Rattle.wef_machine.specs.States.{Slot, State, slot_of}
use Rattle.wef_machine.specs.Steps.{told_by}
use Rattle.wef_pairs.specs.Pairs.{event_with, marks_of}
use Rattle.wef_replay.specs.declared.lines.Line.TheVariants.{Show}
use Rattle.wef_settling.specs.Settled.{is_for}
use Rattle.wef_source_log.specs.Histories.{history}

-- a record is held as an event, or lies under a mark
abbrev pub IsAccountedFor : Rows → List ℕ → List ℕ → List ℕ → ℕ → List ℕ → Type 0
IsAccountedFor rows u s c n text = Contains (held_after rows u s c 0) (event_with c n text) ⊎ (in_ranges (marks_of rows u s c) n ≡ true)

-- so is each record that a subscription selects of a source
abbrev pub IsPairComplete : Rows → List ℕ → List ℕ → Subscription → Slot → Type 0
IsPairComplete rows u s about slot = (c : List ℕ) (n : ℕ) (text : List ℕ) → is_in (channels_read about) c ≡ true →
    selected_at about.query c (history slot.histories c) n ≡ Some text → IsAccountedFor rows u s c n text

-- of each live subscription and each declared source by which it is to be served
abbrev pub IsComplete : State → Type 0
IsComplete state = (u s : List ℕ) (about : Subscription) (slot : Slot) → standing state.collector.rows u ≡ Live about → slot_of state s ≡ Some slot →
    is_for about s ≡ true → IsPairComplete state.collector.rows u s about slot

-- The line `show` prints the report of rows in which nothing is missing.
pub record ShowsAll (state : State) : Type 0 where
  pub shown : State
  pub prints : told_by Show state ≡ report shown.collector.rows
  pub complete : IsComplete shown
