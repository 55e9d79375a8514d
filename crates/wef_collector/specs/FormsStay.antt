-- Rows of their form stay so, whatever the collector does.
use Rattle.std.specs.Prelude.{◌≡◌, ℕ, ◌+◌, ◌≤◌, nat_lt, true, List, [], Some}
use Rattle.std.specs.FinMap as map
use Rattle.std.specs.List.{AllByRecursion}
use Rattle.wef_base.specs.declared.moments.TheConstants.{LAST_MOMENT}
use Rattle.wef_base.specs.declared.numbers.TheConstants.{MAX}
use Rattle.wef_batch.specs.WellFormed.{is_well_formed}
use Rattle.wef_batch.specs.declared.items.Batch.{Batch}
use Rattle.wef_batch.specs.declared.items.Item.{Item}
use Rattle.wef_batch.specs.declared.items.Item.TheVariants.{Event, Dropped, Loose}
use Rattle.wef_event.specs.Events.{is_event}
use Rattle.wef_documents.specs.Kept.{read_kept}
use Rattle.wef_documents.specs.Written.{document_text}
use Rattle.wef_eventing.specs.declared.subscriptions.Subscription.{Subscription}
use Rattle.wef_keeper.specs.Rows.{Rows, applied}
use Rattle.wef_collector_rows.specs.Answers.{added_rows, channels_read, ended_rows}
use Rattle.wef_collector.specs.Boots.{boot_of}
use Rattle.wef_collector_rows.specs.Forms.{AreFormed, is_source_name, is_subscription_name}
use Rattle.wef_collector_rows.specs.Keys.{boot_key}
use Rattle.wef_collector_rows.specs.Standing.{standing}
use Rattle.wef_collector.specs.Taken.{heard_changes, taken}
use Rattle.wef_collector_rows.specs.declared.standings.Standing.TheVariants.{Live}

-- an item's event is the one that its text says, and its numbers are such as records have
abbrev pub IsSoundItem : Item → Type 0
IsSoundItem (Event event) = (event.number ≤ MAX) × (is_event event ≡ true)
IsSoundItem (Dropped channel first last) = last ≤ MAX
IsSoundItem (Loose count) = Unit {0}

-- The events of a batch are those that their texts say, and its numbers are such as records have.
pub record IsSoundBatch (batch : Batch) : Type 0 where
  pub items : AllByRecursion IsSoundItem batch.items
  pub to : (c : List ℕ) (n : ℕ) → map.get batch.to c ≡ Some n → n ≤ MAX

-- Rows of their form stay so, whatever the collector does: it begins without a row, and is started, a subscription is
-- added and ends, a batch is taken, and a source is heard.
pub record FormsStay : Type 0 where
  pub nothing : AreFormed map.empty
  pub start : (rows : Rows) → nat_lt (boot_of rows) MAX ≡ true → AreFormed rows
      → AreFormed (map.insert rows boot_key (record { value = boot_of rows + 1; body = [] }))
  pub add : (rows : Rows) (s : Subscription) → is_subscription_name s.name ≡ true → read_kept s.name (document_text s) ≡ Some s → AreFormed rows
      → AreFormed (added_rows rows s)
  pub end : (rows : Rows) (u : List ℕ) (about : Subscription) → standing rows u ≡ Live about → AreFormed rows → AreFormed (ended_rows rows u)
  pub take : (rows : Rows) (u s : List ℕ) (about : Subscription) (batch : Batch) (now : ℕ) → standing rows u ≡ Live about → is_source_name s ≡ true
      → is_well_formed (channels_read about) batch ≡ true → IsSoundBatch batch → now ≤ LAST_MOMENT → AreFormed rows
      → AreFormed (taken rows u s (channels_read about) batch now)
  pub hear : (rows : Rows) (u s : List ℕ) (about : Subscription) (now : ℕ) → standing rows u ≡ Live about → is_source_name s ≡ true → now ≤ LAST_MOMENT → AreFormed rows
      → AreFormed (applied (heard_changes rows u s now) rows)
