-- What settling rests on, of the machine: what its steps keep, and which sessions and leases it leaves.
use Rattle.std.proofs.Common.{◌≡◌, ℕ, ◌≤◌, ◌<◌, true, false, List, []}
use Rattle.std.specs.Prelude.{Option, Some, None, length}
use Rattle.wef_building.specs.declared.sessions.Session.{Session}
use Rattle.wef_collector.specs.Boots as collector
use Rattle.wef_collector_leases.specs.Due.{due_leased}
use Rattle.wef_collector_leases.specs.Leases.{lease_at}
use Rattle.wef_collector_leases.specs.declared.leases.Lease.{Lease}
use Rattle.wef_collector_reports.specs.Listing.{listed}
use Rattle.wef_collector_rows.specs.Bookmarks.{bookmark_at}
use Rattle.wef_collector_rows.specs.Standing.{standing}
use Rattle.wef_collector_rows.specs.declared.standings.Standing.TheVariants as stands
use Rattle.wef_eventing.specs.declared.subscriptions.SubKind.TheVariants.{BySource, ByCollector}
use Rattle.wef_eventing.specs.declared.subscriptions.Subscription.{Subscription}
use Rattle.wef_machine.specs.States.{Slot, State, declared_names, slot_of}
use Rattle.wef_safety.specs.Kept.{IsHeld}
use Rattle.wef_machine.specs.Measures.{waiting_in}
use Rattle.wef_settling.specs.Settled.{AreListedDeclared, IsPairSettled, IsRoomy, IsUnarmed, lists}
use Rattle.wef_settling.specs.Settles.{Facts}
use Rattle.wef_source.specs.Machine.{End}
use Rattle.wef_source.specs.Sessions.{has_expired, session_of}
use Rattle.wef_source_log.specs.LogWindow as log

-- ---- what each step keeps

pub record IsReady (state : State) : Type 0 where
  pub held : IsHeld state
  pub unarmed : IsUnarmed state
  pub listed : AreListedDeclared state

-- ---- the pairs that are to be served

-- a live subscription that the sources begin, and a declared source
pub record IsOwn (state : State) (s u : List ℕ) : Type 0 where
  pub about : Subscription
  pub live : standing state.collector.rows u ≡ stands.Live about
  pub kind : about.kind ≡ BySource
  pub slot : Slot
  pub declared : slot_of state s ≡ Some slot

-- a live subscription that the collector begins, and a source that it lists
pub record IsLent (state : State) (s u : List ℕ) : Type 0 where
  pub about : Subscription
  pub live : standing state.collector.rows u ≡ stands.Live about
  pub kind : about.kind ≡ ByCollector
  pub listed : lists s about.sources ≡ true

-- A source that runs has a session of a name, which waits for nothing and hasn't expired.
pub record HasSession (state : State) (s u : List ℕ) : Type 0 where
  pub slot : Slot
  pub declared : slot_of state s ≡ Some slot
  pub end : End
  pub runs : slot.place.memory ≡ Some end
  pub session : Session
  pub is : session_of end.sessions u ≡ Some session
  pub free : session.outstanding ≡ None
  pub lasts : has_expired state.moment session ≡ false

-- nothing is left of a pair
abbrev pub IsDone : State → List ℕ → List ℕ → Type 0
IsDone state s u = (about : Subscription) (slot : Slot) → standing state.collector.rows u ≡ stands.Live about → slot_of state s ≡ Some slot →
    IsPairSettled state.collector.rows u s about slot

-- ---- leases

-- no lease stands, and the collector waits for no answer
pub record IsBare (state : State) : Type 0 where
  pub leases : (u s : List ℕ) → 0 < length u → lease_at state.collector.rows u s ≡ None
  pub waiting : waiting_in state.collector.memory ≡ []

-- a lease isn't due, and its source has the session
pub record IsLeaseServed (state : State) (s u : List ℕ) (about : Subscription) (lease : Lease) : Type 0 where
  pub lasts : due_leased state.moment about.expires lease ≡ None
  pub session : HasSession state s u

-- So it is with each lease of a live subscription at a source that it lists; none stands of one that has ended; and the collector waits for
-- no answer.
pub record IsLeased (state : State) : Type 0 where
  pub waiting : waiting_in state.collector.memory ≡ []
  pub live : (u s : List ℕ) (about : Subscription) (lease : Lease) → standing state.collector.rows u ≡ stands.Live about →
      about.kind ≡ ByCollector → lists s about.sources ≡ true → lease_at state.collector.rows u s ≡ Some lease → IsLeaseServed state s u about lease
  pub ended : (u s : List ℕ) (about : Subscription) → standing state.collector.rows u ≡ stands.Ended about → lease_at state.collector.rows u s ≡ None

-- ---- how worlds go on

-- A source that runs goes on to run, and draws ids.
pub record IsLaterEnd (old new : End) : Type 0 where
  pub drawn : old.drawn ≤ new.drawn

abbrev pub RunsOn : Option End → Option End → Type 0
RunsOn None new = Unit {0}
RunsOn (Some old) None = ⊥
RunsOn (Some old) (Some new) = IsLaterEnd old new

-- It wrote what it wrote, and its boot number doesn't fall.
pub record IsLaterSlot (old new : Slot) : Type 0 where
  pub capacity : new.capacity ≡ old.capacity
  pub histories : new.histories ≡ old.histories
  pub boot : log.boot_of old.place.rows ≤ log.boot_of new.place.rows
  pub runs : RunsOn old.place.memory new.place.memory

abbrev pub AreLater : Option Slot → Option Slot → Type 0
AreLater None None = Unit {0}
AreLater None (Some new) = ⊥
AreLater (Some old) None = ⊥
AreLater (Some old) (Some new) = IsLaterSlot old new

-- The subscriptions, the sources and the moment are as they were, and neither a bookmark nor a boot number falls.
pub record IsLater (old new : State) : Type 0 where
  pub moment : new.moment ≡ old.moment
  pub bookmarks : (u s c : List ℕ) → bookmark_at old.collector.rows u s c ≤ bookmark_at new.collector.rows u s c
  pub standings : (u : List ℕ) → standing new.collector.rows u ≡ standing old.collector.rows u
  pub listed : listed new.collector.rows ≡ listed old.collector.rows
  pub boot : collector.boot_of old.collector.rows ≤ collector.boot_of new.collector.rows
  pub names : declared_names new ≡ declared_names old
  pub sources : (s : List ℕ) → AreLater (slot_of old s) (slot_of new s)

-- ---- all of it

abbrev pub the_facts : Facts State (List ℕ)
the_facts = record {
  Kept = IsReady;
  Roomy = IsRoomy;
  Bare = IsBare;
  Leased = IsLeased;
  Own = IsOwn;
  Lent = IsLent;
  Has = HasSession;
  Done = IsDone;
  Later = IsLater;
}
