-- Each step of settling leads to a later world; and what a later world tells of an earlier one, and that of it.
use Rattle.std.proofs.Common.{◌≡◌, ℕ, ◌+◌, ◌≤◌, cond, List, length, refl, ap, sym, ◌∙◌, subst, arith}
use Rattle.std.proofs.lemmas.Option.{none-some, same_Some}
use Rattle.std.specs.List.{list_any}
use Rattle.std.specs.Prelude.{Option, Some, None}
use Rattle.wef_collector_reports.specs.declared.listing.Listed.{Listed}
use Rattle.wef_eventing.specs.declared.subscriptions.Subscription.{Subscription}
use Rattle.wef_machine.specs.Deliveries.{taken_by}
use Rattle.wef_machine.specs.Sources.{ask_step, poll_step}
use Rattle.wef_machine.specs.States.{Slot, State, declared_names, slot_of}
use Rattle.wef_machine.specs.declared.messages.Message.{Message}
use Rattle.wef_safety.specs.Safe.{WasSent}
use Rattle.wef_source.specs.Machine.{End, most_drawn}
use Rattle.wef_source_log.specs.Histories.{Histories, History, history}
use Rattle.wef_settling.specs.Settled.{IsPassed, IsRoomy, IsSourceRoomy, ids_needed, is_lent}
use Rattle.wef_settling.specs.Settles.{IsAmong}
use Rattle.wef_machine.specs.Turns.{follow, lose_step, release_step, request_step}
use Rattle.wef_settling.proofs.Facts.{AreLater, IsDone, IsLater, IsLaterSlot, IsLent, IsOwn, IsReady, RunsOn}
use Rattle.wef_settling.proofs.Going.{asked_goes, lost_goes, polled_goes, released_goes, requested_goes, taken_goes}
use Rattle.wef_settling.proofs.KeptSteps.{followed_goes}
pub use Rattle.wef_settling.proofs.GoingOn.{later_refl, later_trans}

-- ---- the steps

pub released_later : (state : State) → IsReady state → IsLater state (release_step state)
released_later state is = (released_goes state).later

pub lost_later : (state : State) → IsReady state → IsLater state (lose_step state)
lost_later state is = (lost_goes state).later

pub asked_later : (s : List ℕ) (state : State) → IsReady state → IsLater state (ask_step state s)
asked_later s state is = (asked_goes s state is.held.kept).later

pub requested_later : (state : State) → IsReady state → IsLater state (request_step state)
requested_later state is = (requested_goes state).later

pub polled_later : (s u : List ℕ) (state : State) → IsReady state → IsLater state (poll_step state s u)
polled_later s u state is = (polled_goes s u state is.held.kept).later

pub taken_later : (state : State) (m : Message) → WasSent state.messages m → IsReady state → IsLater state (taken_by state m)
taken_later state m was is = (taken_goes state m was is.held.kept).later

pub followed_later : (before after : State) → IsReady after → IsLater after (follow before after)
followed_later before after is = (followed_goes before after is.held.kept).later

-- ---- sources of an earlier world

-- A source of a later world, as it was.
pub record WasThere (found : Option Slot) (new : Slot) : Type 0 where
  pub old : Slot
  pub there : found ≡ Some old
  pub later : IsLaterSlot old new

was_there : (old : Option Slot) (new : Slot) → AreLater old (Some new) → WasThere old new
was_there None new later = absurd later
was_there (Some old) new later = record { old = old; there = refl; later = later }

pub slot_before : (v w : State) (s : List ℕ) (new : Slot) → IsLater v w → slot_of w s ≡ Some new → WasThere (slot_of v s) new
slot_before v w s new later there = was_there (slot_of v s) new (subst (AreLater (slot_of v s)) there (later.sources s))

-- A source of an earlier world, as it is.
pub record IsThere (old : Slot) (found : Option Slot) : Type 0 where
  pub new : Slot
  pub there : found ≡ Some new
  pub later : IsLaterSlot old new

is_there : (old : Slot) (new : Option Slot) → AreLater (Some old) new → IsThere old new
is_there old None later = absurd later
is_there old (Some new) later = record { new = new; there = refl; later = later }

pub slot_after : (v w : State) (s : List ℕ) (old : Slot) → IsLater v w → slot_of v s ≡ Some old → IsThere old (slot_of w s)
slot_after v w s old later there = is_there old (slot_of w s) (subst (λ (o : Option Slot). AreLater o (slot_of w s)) there (later.sources s))

-- ---- what is told of a world

pub own_before : (v w : State) (s u : List ℕ) → IsLater v w → IsOwn w s u → IsOwn v s u
own_before v w s u later own =
    let was = slot_before v w s own.slot later own.declared in
    record { about = own.about; live = sym (later.standings u) ∙ own.live; kind = own.kind; slot = was.old; declared = was.there }

pub own_after : (v w : State) (s u : List ℕ) → IsLater v w → IsOwn v s u → IsOwn w s u
own_after v w s u later own =
    let is = slot_after v w s own.slot later own.declared in
    record { about = own.about; live = later.standings u ∙ own.live; kind = own.kind; slot = is.new; declared = is.there }

pub lent_before : (v w : State) (s u : List ℕ) → IsLater v w → IsLent w s u → IsLent v s u
lent_before v w s u later lent = record { about = lent.about; live = sym (later.standings u) ∙ lent.live; kind = lent.kind; listed = lent.listed }

pub lent_after : (v w : State) (s u : List ℕ) → IsLater v w → IsLent v s u → IsLent w s u
lent_after v w s u later lent = record { about = lent.about; live = later.standings u ∙ lent.live; kind = lent.kind; listed = lent.listed }

-- a record that is passed is so in the same histories
same_passed : (about : Subscription) (c : List ℕ) (old new : Slot) (n : ℕ) → IsLaterSlot old new → IsPassed about.query c (history old.histories c) old.capacity n →
    IsPassed about.query c (history new.histories c) new.capacity n
same_passed about c old new n later passed =
    subst (λ (x : History × ℕ). IsPassed about.query c x.0 x.1 n) (λ i. (history (sym later.histories i) c, sym later.capacity i)) passed

pub done_after : (v w : State) (s u : List ℕ) → IsLater v w → IsDone v s u → IsDone w s u
done_after v w s u later done about slot live there c n reads above within =
    let was = slot_before v w s slot later there in
    let lower = later.bookmarks u s c in
    let same_length : length (history slot.histories c) ≡ length (history was.old.histories c) = ap (λ (all : Histories). length (history all c)) was.later.histories in
    same_passed about c was.old slot n was.later (done about was.old (sym (later.standings u) ∙ live) was.there c n reads (omega arith) (omega (arith, same_length)))

pub named_before : (v w : State) (s : List ℕ) → IsLater v w → IsAmong s (declared_names w) → IsAmong s (declared_names v)
named_before v w s later among = subst (IsAmong s) later.names among

pub named_after : (v w : State) (s : List ℕ) → IsLater v w → IsAmong s (declared_names v) → IsAmong s (declared_names w)
named_after v w s later among = subst (IsAmong s) (sym later.names) among

-- ---- where ids and boot numbers are left

ended_before : (old new : Option End) (needed : ℕ) → RunsOn old new → ((end : End) → new ≡ Some end → end.drawn + needed ≤ most_drawn) → (end : End) → old ≡ Some end → end.drawn + needed ≤ most_drawn
ended_before None new needed later roomy end is = absurd (none-some end is)
ended_before (Some old) None needed later roomy end is = absurd later
ended_before (Some old) (Some new) needed later roomy end is =
    let more = later.drawn in
    let room = roomy new refl in
    subst (λ (x : End). x.drawn + needed ≤ most_drawn) (same_Some old end is) (omega arith)

source_roomy : (old new : Slot) (needed : ℕ) → IsLaterSlot old new → IsSourceRoomy needed new → IsSourceRoomy needed old
source_roomy old new needed later roomy =
    let more = later.boot in
    let room = roomy.boot in
    record { boot = omega arith; ids = ended_before old.place.memory new.place.memory needed later.runs roomy.ids }

pub roomy_before : (old new : State) → IsLater old new → IsRoomy new → IsRoomy old
roomy_before old new later roomy =
    let more = later.boot in
    let room = roomy.boot in
    let needed : ids_needed new.collector.rows ≡ ids_needed old.collector.rows = ap (λ (list : List Listed). cond (list_any is_lent list) 2 1) later.listed in
    record {
      boot = omega arith;
      sources = λ s slot there.
          let is = slot_after old new s slot later there in
          source_roomy slot is.new (ids_needed old.collector.rows) is.later (subst (λ (n : ℕ). IsSourceRoomy n is.new) needed (roomy.sources s is.new is.there));
    }
