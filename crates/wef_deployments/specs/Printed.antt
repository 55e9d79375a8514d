-- What the commands print in a deployment, in the words of histories.
use Rattle.std.specs.Prelude.{◌≡◌, ℕ, true, List, Some}
use Rattle.std.specs.Io.KnownBytes.{Appends}
use Rattle.wef_batch.specs.WellFormed.{is_in}
use Rattle.wef_building.specs.Wanted.{IsLost, in_ranges}
use Rattle.wef_collector_rows.specs.Answers.{channels_read}
use Rattle.wef_collector_rows.specs.Bookmarks.{bookmark_at}
use Rattle.wef_commands.specs.Endings.{Told}
use Rattle.wef_commands.specs.Laws.{Stand}
use Rattle.wef_commands.specs.Showing.{EventsEnds}
use Rattle.wef_commands.specs.Writing.{WriteEnds}
use Rattle.wef_commands.specs.declared.ending.Ending.{Ending}
use Rattle.wef_commands.specs.declared.ending.Ending.TheVariants as ends
use Rattle.wef_eventing.specs.declared.subscriptions.Subscription.{Subscription}
use Rattle.wef_keeper.specs.Keeping.{IsLawful, MayFind, Store}
use Rattle.wef_keeper.specs.Rows.{Rows}
use Rattle.wef_lines.specs.Printed.{events_text}
use Rattle.wef_machine.specs.States.{Slot, slot_of}
use Rattle.wef_pairs.specs.Pairs.{marks_of, subscription_at, wanted_events}
use Rattle.wef_source_log.specs.Histories.{history}
use Rattle.wef_source_log.specs.LogWindow.{boot_of}
use Rattle.wef_runs.specs.Recorded.{Records}
use Rattle.wef_deployments.specs.Worlds.{AreSources, Reaches, World, new_world}

-- The text of all events of a source's channel that a subscription selects, from the first record up to the bookmark, each once and
-- in order, but for those under marks, which were overwritten or are too large.
pub record PrintsHistory (about : Subscription) (slot : Slot) (u s c : List ℕ) (out : Told) (rows : Rows) : Type 0 where
  pub printed : Appends out.before out.after (events_text (wanted_events about.query c (history slot.histories c) 0 (bookmark_at rows u s c) (marks_of rows u s c)))
  pub lost : (n : ℕ) → in_ranges (marks_of rows u s c) n ≡ true → IsLost about.query about.max_bytes c (history slot.histories c) slot.capacity n

-- So it is with what `events NAME SOURCE CHANNEL` prints where it is done, of a source of the deployment and a channel that the
-- subscription reads.
abbrev pub EventsPrintHistory : Type 0
EventsPrintHistory =
    (names : List (List ℕ)) (w : World) → AreSources names → Reaches (new_world names) w
    → (u s c : List ℕ) (about : Subscription) (slot : Slot) → subscription_at w.state.collector.rows u ≡ Some about → slot_of w.state s ≡ Some slot → is_in (channels_read about) c ≡ true
    → (out : Told) (before now : Store) (after : Rows) → EventsEnds u s c ends.Done out before now → Stand before w.state.collector.rows → now.rows ≡ Some after
    → PrintsHistory about slot u s c out after

-- A line `CHANNEL NUMBER` of `write` names the record of that number in the channel's history, which the run has made one longer.
abbrev pub LinesNameRecords : Type 0
LinesNameRecords =
    (names : List (List ℕ)) (w : World) → AreSources names → Reaches (new_world names) w
    → (s : List ℕ) (slot : Slot) → slot_of w.state s ≡ Some slot
    → (ending : Ending) (input out : Told) (before now : Store) (last : Rows) → WriteEnds ending input out before now → IsLawful now → Stand before slot.place.rows → MayFind now last
    → Records ending input out slot.histories (boot_of slot.place.rows) last
