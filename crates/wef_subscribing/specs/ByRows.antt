-- `request` and `serve` over the rows that stood before them, where these and what an opening may find behind them are told.
use Rattle.std.specs.Prelude.{◌≡◌, ◌⊎◌, ℕ, true, false, List, Option, Result, Err}
use Rattle.wef_collector.specs.Boots.{memory_begun}
use Rattle.wef_collector.specs.Calls.{OfStart, boot_effect}
use Rattle.wef_collector.specs.declared.memories.Memory.{Memory}
use Rattle.wef_collector_rows.specs.Faults.{collector_store}
use Rattle.wef_collector_rows.specs.declared.faults.CollectorFault.{CollectorFault}
use Rattle.wef_commands.specs.Endings.{IsUnwritten, Told}
use Rattle.wef_commands.specs.Laws.{Stand, can_start, started}
use Rattle.wef_commands.specs.Refusals.{store_ending}
use Rattle.wef_commands.specs.declared.ending.Ending.{Ending}
use Rattle.wef_commands.specs.declared.ending.Ending.TheVariants as ends
use Rattle.wef_commands.specs.declared.writing.TheConstants.{LOG_CAPACITY}
use Rattle.wef_keeper.specs.Calls.{GoesOver}
use Rattle.wef_keeper.specs.Keeping.{IsLawful, MayFind, Store}
use Rattle.wef_keeper.specs.Rows.{Rows}
use Rattle.wef_ports.specs.Telling as ports
use Rattle.wef_requesting.specs.ByRows.{Kept, RequestsOver}
use Rattle.wef_requesting.specs.declared.requesting.RequestFault.{RequestFault}
use Rattle.wef_requesting.specs.declared.requesting.Sent.{Sent}
use Rattle.wef_running.specs.ByRows.{IsNotBegun, IsSentOver}
use Rattle.wef_serving.specs.Serving.{IsMoment}
use Rattle.wef_source.specs.Machine.{End, start_of}
use Rattle.wef_source_log.specs.Answers.{is_boot_full, next_boot}
use Rattle.wef_source_log.specs.LogWindow as log
use Rattle.wef_subscribing.specs.Requesting.{RequestEnds, RequestsAllBy}
use Rattle.wef_subscribing.specs.Serving.{ListeningEndsBy, ServeEnds}

-- ---- `request`

-- The next request that is due is sent over rows, at a moment of the clock.
pub record IsRequestedOver (clock : Option ℕ) (host : List ℕ) (result : Result (Option Sent) RequestFault) (before now : Kept) : Type 0 where
  pub moment : ℕ
  pub is_moment : IsMoment clock moment
  pub requests : RequestsOver host moment before now result

-- The collector couldn't be started over rows.
abbrev pub IsNotStarted : Ending → Told → ports.Told → ports.Told → Rows → Rows → Type 0
IsNotStarted ending out link link' found last =
    (fault : CollectorFault) × (ending ≡ store_ending fault) × OfStart fault × IsUnwritten out × (link' ≡ link) × GoesOver collector_store boot_effect memory_begun (Err fault) found last

-- The collector could be started, and was, and requests were sent over the rows then, one after the other, each over those that the
-- answer to the one before it left; all that ends it is said as without rows.
pub record IsAsking (host : List ℕ) (count : ℕ) (ending : Ending) (out : Told) (clock : Option ℕ) (link link' : ports.Told) (found last : Rows) : Type 0 where
  pub memory : Memory
  pub starts : can_start found ≡ true
  pub asks : RequestsAllBy (IsRequestedOver clock host) count ending out (record { rows = started found; memory = memory_begun found; link = link }) (record { rows = last; memory = memory; link = link' })

-- What `request` does to rows: an opening finds the last ones behind it.
abbrev pub RequestSays : List ℕ → ℕ → Ending → Told → Option ℕ → ports.Told → ports.Told → Rows → Rows → Type 0
RequestSays host count ending out clock link link' found last = IsNotStarted ending out link link' found last ⊎ IsAsking host count ending out clock link link' found last

abbrev pub RequestsByRows : Type 0
RequestsByRows =
    (host : List ℕ) (count : ℕ) (ending : Ending) (out : Told) (clock : Option ℕ) (link link' : ports.Told) (before now : Store) →
    RequestEnds host count ending out clock link link' before now → IsLawful now →
    (found last : Rows) → Stand before found → MayFind now last → RequestSays host count ending out clock link link' found last

-- ---- `serve`

-- nothing was done, for want of memory
abbrev pub IsNothingDone : Ending → Told → ports.Told → ports.Told → ports.Told → ports.Told → Rows → Rows → Type 0
IsNothingDone ending out front front' link link' found last = (ending ≡ ends.NoMemory) × IsUnwritten out × (front' ≡ front) × (link' ≡ link) × (last ≡ found)

-- The source could be started over rows, and was, under the boot number that stands in them then, and nothing else changes them: no
-- answer of a connection rests on them, each batch that was sent is the one that they and the session give, and each heartbeat was sent
-- where they give no item.
pub record IsServing (address : List ℕ) (count : ℕ) (ending : Ending) (out : Told) (clock : Option ℕ) (front front' link link' : ports.Told) (now : Store) (found last : Rows) : Type 0 where
  pub starts : is_boot_full found ≡ false
  pub rows : last ≡ log.started found LOG_CAPACITY
  pub started : Store
  pub end : End
  pub serves : ListeningEndsBy (IsSentOver last clock) clock address count ending out (record { front = front; source = record { memory = start_of (next_boot found); store = started; link = link } })
      (record { front = front'; source = record { memory = end; store = now; link = link' } })

-- What `serve` does to rows: an opening finds the last ones behind it.
abbrev pub ServeSays : List ℕ → ℕ → Ending → Told → Option ℕ → ports.Told → ports.Told → ports.Told → ports.Told → Store → Rows → Rows → Type 0
ServeSays address count ending out clock front front' link link' now found last =
    IsNothingDone ending out front front' link link' found last
    ⊎ ((IsNotBegun ending out link link' found last × (front' ≡ front)) ⊎ IsServing address count ending out clock front front' link link' now found last)

abbrev pub ServesByRows : Type 0
ServesByRows =
    (address : List ℕ) (count : ℕ) (ending : Ending) (out : Told) (clock : Option ℕ) (front front' link link' : ports.Told) (before now : Store) →
    ServeEnds address count ending out clock front front' link link' before now →
    (found last : Rows) → Stand before found → MayFind now last → ServeSays address count ending out clock front front' link link' now found last
