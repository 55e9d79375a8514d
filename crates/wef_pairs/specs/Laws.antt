-- What taking a batch that fits leaves of what is kept.
use Rattle.std.specs.Prelude.{◌≡◌, ◌≤◌, List, ℕ, true}
use Rattle.wef_batch.specs.declared.items.Batch.{Batch}
use Rattle.wef_batch.specs.Reach.{reach}
use Rattle.wef_batch.specs.WellFormed.{is_in}
use Rattle.wef_bookmark.specs.Order.{Marks, number_at}
use Rattle.wef_collector_rows.specs.Answers.{channels_read}
use Rattle.wef_collector_rows.specs.Bookmarks.{bookmark_at}
use Rattle.wef_collector.specs.Laws.{moved}
use Rattle.wef_collector.specs.Taken.{taken}
use Rattle.wef_eventing.specs.declared.subscriptions.Subscription.{Subscription}
use Rattle.wef_keeper.specs.Rows.{Rows}
use Rattle.wef_building.specs.Fits.{Fits}
use Rattle.wef_source_log.specs.Histories.{Histories, history}
use Rattle.wef_pairs.specs.Pairs.{IsPairSafe, settings_of}

-- What is kept of a pair stays safe when a batch is taken that fits the source's histories above some bookmark, though
-- the kept one may be further by now. The kept bookmark is then the greater of the old one and the batch's reach.
abbrev pub FittingBatchesAreSafe : Type 0
FittingBatchesAreSafe = (rows : Rows) (u s c : List ℕ) (start : ℕ) (about : Subscription) (all : Histories) (capacity : ℕ) (b : Marks) (batch : Batch) (now : ℕ) →
    is_in (channels_read about) c ≡ true →
    IsPairSafe rows u s c start (settings_of about) (history all c) capacity →
    Fits about.query about.max_bytes all capacity b batch → number_at b c ≤ bookmark_at rows u s c →
    IsPairSafe (taken rows u s (channels_read about) batch now) u s c start (settings_of about) (history all c) capacity
    × (bookmark_at (taken rows u s (channels_read about) batch now) u s c ≡ moved (bookmark_at rows u s c) (reach c batch))
