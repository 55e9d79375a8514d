-- Facts of the crates below that the law stands on.
use Rattle.std.proofs.Common.{◌≡◌, ℕ, ◌+◌, ◌≤◌, ◌<◌, true, false, List, [], length, nat_lt, Some}
use Rattle.std.specs.FinMap as map
use Rattle.wef_base.specs.Names.{channel_name}
use Rattle.wef_batch.specs.WellFormed.{is_well_formed}
use Rattle.wef_batch.specs.declared.items.Batch.{Batch}
use Rattle.wef_bookmark.specs.Order.{IsAtMost, Marks}
use Rattle.wef_collector_rows.specs.Answers.{added_rows, channels_read, ended_rows}
use Rattle.wef_collector.specs.Boots.{boot_of}
use Rattle.wef_collector_rows.specs.Forms as collector
use Rattle.wef_collector.specs.FormsStay.{IsSoundBatch}
use Rattle.wef_collector_rows.specs.Keys.{boot_key}
use Rattle.wef_collector_rows.specs.Standing.{standing}
use Rattle.wef_collector.specs.Taken.{taken}
use Rattle.wef_collector_rows.specs.declared.standings.Standing.TheVariants.{Live}
use Rattle.wef_event.specs.Events.{Event, is_event}
use Rattle.wef_event.specs.Numbering.{NumberedEventsAreRead}
use Rattle.wef_documents.specs.Kept.{read_kept}
use Rattle.wef_documents.specs.Written.{document_text}
use Rattle.wef_eventing.specs.declared.subscriptions.Subscription.{Subscription}
use Rattle.wef_keeper.specs.Rows.{Rows}
use Rattle.wef_replay.specs.Good.{is_source, is_subscription}
use Rattle.wef_building.specs.Building.{built}
use Rattle.wef_building.specs.Fits.{Fits}
use Rattle.wef_building.specs.Laws.{AreWithin}
use Rattle.wef_building.specs.declared.sessions.Session.{Session}
use Rattle.wef_source_log.specs.Answers.{is_boot_full, is_full, next_text}
use Rattle.wef_source_log.specs.Forms as log
use Rattle.wef_source_log.specs.Histories.{Histories, extended, history}
use Rattle.wef_source_log.specs.Laws.{WindowsRead}
use Rattle.wef_source_log.specs.LogWindow as windows
use Rattle.wef_source_log.specs.LogWindow.{IsWindow, started, last_of, written}

pub record Lower : Type 0 where
  -- the collector's rows keep their form
  pub formed_empty : collector.AreFormed map.empty
  pub formed_booted : (rows : Rows) → nat_lt (boot_of rows) 9223372036854775807 ≡ true → collector.AreFormed rows →
      collector.AreFormed (map.insert rows boot_key (record { value = boot_of rows + 1; body = [] }))
  pub formed_added : (rows : Rows) (about : Subscription) → is_subscription about.name ≡ true → read_kept about.name (document_text about) ≡ Some about → collector.AreFormed rows → collector.AreFormed (added_rows rows about)
  pub formed_ended : (rows : Rows) (u : List ℕ) (about : Subscription) → standing rows u ≡ Live about → collector.AreFormed rows → collector.AreFormed (ended_rows rows u)
  pub formed_taken : (rows : Rows) (u s : List ℕ) (about : Subscription) (batch : Batch) (now : ℕ) → standing rows u ≡ Live about → is_source s ≡ true →
      is_well_formed (channels_read about) batch ≡ true → IsSoundBatch batch → now ≤ 253402300799999 → collector.AreFormed rows →
      collector.AreFormed (taken rows u s (channels_read about) batch now)
  -- a log's rows keep their form and their window
  pub log_empty : (capacity : ℕ) → IsWindow map.empty map.empty capacity 0
  pub log_starts : (rows : Rows) (all : Histories) (capacity boot : ℕ) → IsWindow rows all capacity boot → IsWindow (started rows capacity) all capacity (boot + 1)
  pub log_extends : (rows : Rows) (event : Event) (all : Histories) (capacity boot : ℕ) → 0 < capacity → 0 < boot → IsWindow rows all capacity boot →
      IsWindow (written rows event.channel (next_text rows event)) (extended all event.channel (next_text rows event)) capacity boot
  pub log_boot_is : (rows : Rows) (all : Histories) (capacity boot : ℕ) → IsWindow rows all capacity boot → windows.boot_of rows ≡ boot
  pub log_formed_empty : log.AreFormed map.empty
  pub log_formed_started : (rows : Rows) (capacity : ℕ) → 0 < capacity → capacity ≤ 1000000 → is_boot_full rows ≡ false → log.AreFormed rows →
      log.AreFormed (started rows capacity)
  pub log_formed_written : (rows : Rows) (event : Event) → is_full rows event.channel ≡ false → channel_name event.channel ≡ Some event.channel →
      is_event (record { channel = event.channel; number = last_of rows event.channel + 1; text = next_text rows event }) ≡ true → log.AreFormed rows → log.AreFormed (written rows event.channel (next_text rows event))
  -- a channel's history is no longer than numbers go
  pub log_lengths : (rows : Rows) (all : Histories) (capacity boot : ℕ) (c : List ℕ) → IsWindow rows all capacity boot → log.AreFormed rows →
      length (history all c) ≤ 9223372036854775807
  -- what a window's rows give is what its histories say
  pub log_reads : WindowsRead
  -- an event with a number is the one that its text says
  pub numbered_events : NumberedEventsAreRead
  -- what is built fits
  pub built_fits : (rows : Rows) (all : Histories) (capacity boot : ℕ) (session : Session) (b : Marks) → 0 < capacity → 0 < boot → IsWindow rows all capacity boot →
      AreWithin session.positions all → IsAtMost session.positions b → Fits session.query session.max_bytes all capacity b (built rows session)
