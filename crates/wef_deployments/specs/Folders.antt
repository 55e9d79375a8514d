-- Runs of `write`, `forward` and `serve` over a source's folder, as deeds.
use Rattle.std.proofs.Common.{inl, inr}
use Rattle.std.specs.List.{AllByRecursion}
use Rattle.std.specs.Prelude.{◌≡◌, ◌⊎◌, ℕ, ◌+◌, List, [], ◌∷◌, ◌++◌, length, map, None}
use Rattle.wef_cli.specs.Runs.{Peers}
use Rattle.wef_command_line.specs.declared.command.Command.TheVariants as the
use Rattle.wef_commands.specs.Endings.{Told}
use Rattle.wef_commands.specs.Laws.{OverLast, StopsOver, WriteGoes, numbers_of, with_events}
use Rattle.wef_commands.specs.Writing.{WriteEnds, written_text}
use Rattle.wef_commands.specs.declared.ending.Ending.{Ending}
use Rattle.wef_commands.specs.declared.ending.Ending.TheVariants as ends
use Rattle.wef_commands.specs.declared.writing.TheConstants.{LOG_CAPACITY}
use Rattle.wef_event.specs.Events.{Event}
use Rattle.wef_keeper.specs.Keeping.{Store}
use Rattle.wef_keeper.specs.Rows.{Rows}
use Rattle.wef_machine.specs.States.{Slot}
use Rattle.wef_running.specs.ByRows.{ForwardSays}
use Rattle.wef_subscribing.specs.ByRows.{ServeSays}
use Rattle.wef_source_log.specs.LogWindow as log
use Rattle.wef_source_log.specs.LogWindow.{IsWindow, boot_of}
use Rattle.wef_runs.specs.Forwarded.{acts_begun}
use Rattle.wef_runs.specs.Runs.{Account}
use Rattle.wef_runs.specs.Served.{acts_served_by}
use Rattle.wef_deployments.specs.Sources.{IsReadAs, SourceDeed, Turns}
use Rattle.wef_deployments.specs.Sources.{StartsLog, StartsSource, Writes, Acts}

-- ---- `write`

-- The account of a run of `write`: how far it came over the rows that stood before it, for rows that may be found behind it.
pub record Writing (found last : Rows) : Type 0 where
  pub ending : Ending
  pub input : Told
  pub out : Told
  pub goes : WriteGoes ending input out found last

-- the last event, which is written and not told whole
abbrev pub deeds_stopping : (ending : Ending) (k : ℕ) (behind : List Event) (text : List ℕ) (out : Told) (rows last : Rows) → StopsOver ending k behind text out rows last → List SourceDeed
deeds_stopping ends.StoreFailed k (event ∷ events) text out rows last (printed, inr made) = Writes event ∷ []
deeds_stopping ends.NoMemory k (event ∷ events) text out rows last (printed, inr made) = Writes event ∷ []
deeds_stopping ends.OutputFailed k (event ∷ events) text out rows last stops = Writes event ∷ []
deeds_stopping ending k behind text out rows last stops = []

abbrev pub deeds_written_by : (ending : Ending) (input out : Told) (found last : Rows) → WriteGoes ending input out found last → List SourceDeed
deeds_written_by ending input out found last (inl judged) = []
deeds_written_by ending input out found last (inr (inl refused)) = StartsLog ∷ []
deeds_written_by ending input out found last (inr (inr has)) =
    StartsLog ∷ (map Writes has.front
    ++ deeds_stopping ending (length has.front + 1) has.behind (written_text has.front (numbers_of (log.started found LOG_CAPACITY) has.front)) out (with_events (log.started found LOG_CAPACITY) has.front) last has.stops)

abbrev pub deeds_written : {found last : Rows} → Writing found last → List SourceDeed
deeds_written {found} {last} run = deeds_written_by run.ending run.input run.out found last run.goes

-- ---- `forward`

module _ (ending : Ending) (out : Told) (peers : Peers) (now : Store) (found last : Rows) where
  abbrev pub deeds_forwarded_by : (address s : List ℕ) (count : ℕ)
      → (last ≡ found) ⊎ ForwardSays address s count ending out peers.moment peers.link_before peers.link_after now found last → List SourceDeed
  deeds_forwarded_by address s count (inl same) = []
  deeds_forwarded_by address s count (inr (inl refused)) = StartsLog ∷ []
  deeds_forwarded_by address s count (inr (inr is)) = StartsSource ∷ map Acts (acts_begun ending out peers now found last address s count (inr is))

abbrev pub deeds_forwarded : {address s : List ℕ} {count : ℕ} {found last : Rows} → Account (the.Forward address s count) found last → List SourceDeed
deeds_forwarded {address} {s} {count} {found} {last} account = deeds_forwarded_by account.ending account.out account.peers account.now found last address s count account.says

-- ---- `serve`

module _ (ending : Ending) (out : Told) (peers : Peers) (now : Store) (found last : Rows) where
  abbrev pub deeds_served_by : (address : List ℕ) (count : ℕ)
      → ServeSays address count ending out peers.moment peers.front_before peers.front_after peers.link_before peers.link_after now found last → List SourceDeed
  deeds_served_by address count (inl nothing) = []
  deeds_served_by address count (inr (inl refused)) = StartsLog ∷ []
  deeds_served_by address count (inr (inr is)) = StartsSource ∷ map Acts (acts_served_by ending out peers now found last address count (inr (inr is)))

abbrev pub deeds_served : {address s : List ℕ} {count : ℕ} {found last : Rows} → Account (the.Serve address s count) found last → List SourceDeed
deeds_served {address} {s} {count} {found} {last} account = deeds_served_by account.ending account.out account.peers account.now found last address count account.says

-- ---- the law

-- deeds, one after the other
abbrev pub AreTurned : List SourceDeed → Slot → Slot → Type 0
AreTurned [] slot last = last ≡ slot
AreTurned (deed ∷ deeds) slot last = (next : Slot) × Turns deed slot next × AreTurned deeds next last

-- A slot is that of a folder in which no run is on, and its rows are these.
pub record IsAtRest (slot : Slot) (found : Rows) : Type 0 where
  pub closed : slot.place.memory ≡ None
  pub rows : slot.place.rows ≡ found
  pub capacity : slot.capacity ≡ LOG_CAPACITY
  pub window : IsWindow slot.place.rows slot.histories slot.capacity (boot_of slot.place.rows)

-- Deeds were done over a slot, and leave these rows.
pub record AreDeeds (deeds : List SourceDeed) (slot : Slot) (last : Rows) : Type 0 where
  pub next : Slot
  pub turned : AreTurned deeds slot next
  pub rows : next.place.rows ≡ last

-- What deeds read is so as it is of whatever is read.
abbrev pub AreReadAs : List SourceDeed → Type 0
AreReadAs deeds = AllByRecursion IsReadAs deeds

-- Each run of `write` has an account; and the runs of all three commands did their deeds, one after the other, and what they read is so.
pub record FolderRunsAreDeeds : Type 0 where
  pub accounts : (ending : Ending) (input out : Told) (before now : Store) → WriteEnds ending input out before now → OverLast Writing before now
  pub writes : (found last : Rows) (run : Writing found last) (slot : Slot) → IsAtRest slot found → AreDeeds (deeds_written run) slot last
  pub forwards : (address s : List ℕ) (count : ℕ) (found last : Rows) (account : Account (the.Forward address s count) found last) (slot : Slot) → IsAtRest slot found → AreDeeds (deeds_forwarded account) slot last
  pub serves : (address s : List ℕ) (count : ℕ) (found last : Rows) (account : Account (the.Serve address s count) found last) (slot : Slot) → IsAtRest slot found → AreDeeds (deeds_served account) slot last
  pub reads_written : (found last : Rows) (run : Writing found last) → AreReadAs (deeds_written run)
  pub reads_forwarded : (address s : List ℕ) (count : ℕ) (found last : Rows) (account : Account (the.Forward address s count) found last) → AreReadAs (deeds_forwarded account)
  pub reads_served : (address s : List ℕ) (count : ℕ) (found last : Rows) (account : Account (the.Serve address s count) found last) → AreReadAs (deeds_served account)
