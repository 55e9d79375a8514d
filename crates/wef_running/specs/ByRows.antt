-- `collect` and `forward` over the rows that stood before them, where these and what an opening may find behind them are told.
-- The first part is of `collect`.
use Rattle.std.specs.Prelude.{◌≡◌, ◌⊎◌, ℕ, ◌+◌, ◌<◌, ◌≤◌, true, false, List, [], ◌∷◌, Option, Some, Err}
use Rattle.wef_base.specs.Counts.{Rose}
use Rattle.wef_collector.specs.Boots.{memory_begun}
use Rattle.wef_collector.specs.Calls.{OfStart, boot_effect}
use Rattle.wef_collector.specs.declared.memories.Memory.{Memory}
use Rattle.wef_collector_rows.specs.Faults.{collector_store}
use Rattle.wef_collector_rows.specs.Forms.{AreFormed}
use Rattle.wef_collector_rows.specs.declared.faults.CollectorFault.{CollectorFault}
use Rattle.wef_collector_serving.specs.ByRows.{AnswersBy, Kept, LeavesBy}
use Rattle.wef_commands.specs.Endings.{IsUnwritten, Told}
use Rattle.wef_commands.specs.Laws.{Stand, can_start, started}
use Rattle.wef_commands.specs.Refusals.{source_ending, store_ending}
use Rattle.wef_commands.specs.declared.ending.Ending.{Ending}
use Rattle.wef_commands.specs.declared.ending.Ending.TheVariants as ends
use Rattle.wef_commands.specs.declared.writing.TheConstants.{LOG_CAPACITY}
use Rattle.wef_connections.specs.Opening.{next_connection}
use Rattle.wef_http_heads.specs.declared.targets.Side.TheVariants.{Collector}
use Rattle.wef_keeper.specs.Calls.{GoesOver}
use Rattle.wef_keeper.specs.Keeping.{MayFind, Store}
use Rattle.wef_keeper.specs.Rows.{Rows}
use Rattle.wef_ports.specs.Telling as ports
use Rattle.wef_running.specs.Collecting.{CollectEnds, ListeningEndsBy}
use Rattle.wef_running.specs.Forwarding.{AsksAndSendsBy, ForwardEnds, IsSent, Sending}
use Rattle.wef_serving.specs.Serving.{AnswersAt, LeavesAt, RespondsInTurn}
use Rattle.wef_serving.specs.Turns.{Ends}
use Rattle.wef_serving.specs.declared.ends.ConnectionEnd.{ConnectionEnd}
use Rattle.wef_source.specs.Answers.{RefusesStart}
use Rattle.wef_source.specs.Calls.{start_effect}
use Rattle.wef_building.specs.Faults.{source_store}
use Rattle.wef_source.specs.Machine.{End, start_of}
use Rattle.wef_building.specs.declared.faults.SourceFault.{SourceFault}
use Rattle.wef_source_log.specs.Answers.{is_boot_full, next_boot}
use Rattle.wef_source_log.specs.LogWindow as log

-- The next connection of a front was served over rows, in a run that leaves the final rows, and ended so.
pub record IsServedBy (final : Rows) (clock : Option ℕ) (f : ports.Told) (k : Kept) (g : ports.Told) (l : Kept) (e : ConnectionEnd) : Type 0 where
  -- where its bytes are told, what was sent in it are the answers to its requests
  pub ends : Ends Collector (AnswersAt clock (AnswersBy final)) (LeavesAt clock LeavesBy) (next_connection f).coming (next_connection f) k g l e
  -- whatever came, its requests were answered one after the other
  pub answered : RespondsInTurn (AnswersAt clock (AnswersBy final)) (LeavesAt clock LeavesBy) k l
  pub around : g.around ≡ (next_connection f).around

-- Connections were served over rows, one after the other, each from what the one before it left, and ended so.
pub data AreServedBy (final : Rows) (clock : Option ℕ) : ports.Told → Kept → List ConnectionEnd → ports.Told → Kept → Type 0 where
  none_by : (f : ports.Told) (k : Kept) → AreServedBy final clock f k [] f k
  one_by : (f g h : ports.Told) (k l m : Kept) (e : ConnectionEnd) (es : List ConnectionEnd)
      → IsServedBy final clock f k g l e → AreServedBy final clock g l es h m → AreServedBy final clock f k (e ∷ es) h m

-- The collector wasn't started: there was no memory to tell where it listens, or the start was refused.
abbrev pub IsNotStarted : Ending → Told → ports.Told → ports.Told → Rows → Rows → Type 0
IsNotStarted ending out f g found last =
    IsUnwritten out × (g ≡ f)
    × (((ending ≡ ends.NoMemory) × (last ≡ found))
    ⊎ ((fault : CollectorFault) × (ending ≡ store_ending fault) × OfStart fault × GoesOver collector_store boot_effect memory_begun (Err fault) found last))

-- what is kept of a collector that was just started over rows
abbrev pub begun : Rows → Kept
begun found = record { rows = started found; memory = memory_begun found; errors = 0 }

-- The collector could be started, and was, and connections were served over the rows then; all that ends it is said as without rows.
-- Over rows of their form its answers say that the store failed no more often than its faults were counted, as far as these can be.
pub record IsStarted (address : List ℕ) (count : ℕ) (ending : Ending) (out : Told) (clock : Option ℕ) (f g : ports.Told) (before now : Store) (found last : Rows) : Type 0 where
  pub memory : Memory
  pub errors : ℕ
  pub starts : can_start found ≡ true
  pub listens : ListeningEndsBy (AreServedBy last clock) address count ending out f (begun found) g (record { rows = last; memory = memory; errors = errors })
  pub counted : AreFormed found → now.faults < 18446744073709551615 → before.faults + errors ≤ now.faults

-- What `collect` does to rows: an opening finds the last ones behind it.
abbrev pub CollectSays : List ℕ → ℕ → Ending → Told → Option ℕ → ports.Told → ports.Told → Store → Store → Rows → Rows → Type 0
CollectSays address count ending out clock f g before now found last =
    IsNotStarted ending out f g found last ⊎ IsStarted address count ending out clock f g before now found last

abbrev pub CollectsByRows : Type 0
CollectsByRows =
    (address : List ℕ) (count : ℕ) (ending : Ending) (out : Told) (clock : Option ℕ) (f g : ports.Told) (before now : Store) →
    CollectEnds address count ending out clock f g before now →
    (found last : Rows) → Stand before found → MayFind now last → CollectSays address count ending out clock f g before now found last

-- ---- `forward`

-- The next message of the session of a name is forwarded over rows: a batch is the one that these and the session give, and a heartbeat
-- is sent only where they give no item.
abbrev pub IsSentOver : Rows → Option ℕ → Sending
IsSentOver rows clock u result before now = IsSent clock u result before now × (now.store.rows ≡ Some rows)

-- The source couldn't be started over rows.
abbrev pub IsNotBegun : Ending → Told → ports.Told → ports.Told → Rows → Rows → Type 0
IsNotBegun ending out link link' found last =
    (fault : SourceFault) × RefusesStart fault × (ending ≡ source_ending fault) × IsUnwritten out × (link' ≡ link)
    × GoesOver source_store (λ rows. start_effect rows LOG_CAPACITY) next_boot (Err fault) found last

-- The source could be started over rows, and was, under the boot number that stands in them then, and nothing else changes them: each
-- batch that was sent is the one that they and the session give, and each heartbeat was sent where they give no item.
pub record IsBegun (address s : List ℕ) (deliveries : ℕ) (ending : Ending) (out : Told) (clock : Option ℕ) (link link' : ports.Told) (now : Store) (found last : Rows) : Type 0 where
  pub starts : is_boot_full found ≡ false
  pub rows : last ≡ log.started found LOG_CAPACITY
  pub started : Store
  pub end : End
  pub sends : AsksAndSendsBy (IsSentOver last clock) clock address s deliveries ending out (record { memory = start_of (next_boot found); store = started; link = link })
      (record { memory = end; store = now; link = link' })

abbrev pub ForwardSays : List ℕ → List ℕ → ℕ → Ending → Told → Option ℕ → ports.Told → ports.Told → Store → Rows → Rows → Type 0
ForwardSays address s deliveries ending out clock link link' now found last =
    IsNotBegun ending out link link' found last ⊎ IsBegun address s deliveries ending out clock link link' now found last

abbrev pub ForwardsByRows : Type 0
ForwardsByRows =
    (address s : List ℕ) (deliveries : ℕ) (ending : Ending) (out : Told) (clock : Option ℕ) (link link' : ports.Told) (before now : Store) →
    ForwardEnds address s deliveries ending out clock link link' before now →
    (found last : Rows) → Stand before found → MayFind now last → ForwardSays address s deliveries ending out clock link link' now found last

-- ---- a link that failed

-- `forward` says so only where the link's count of faults rose in this run
abbrev pub FailedLinksAreCounted : Type 0
FailedLinksAreCounted =
    (address s : List ℕ) (deliveries : ℕ) (out : Told) (clock : Option ℕ) (link link' : ports.Told) (before now : Store) →
    ForwardEnds address s deliveries ends.LinkFailed out clock link link' before now → Rose link.faults link'.faults
