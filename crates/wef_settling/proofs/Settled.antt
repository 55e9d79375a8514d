-- The machine's steps are as they have to be for settling: so it leaves nothing unsent.
use Rattle.std.proofs.Common.{◌≡◌, ℕ, true, List, [], ◌∷◌, inl, inr, refl}
use Rattle.std.specs.List.{AllByRecursion}
use Rattle.std.specs.Prelude.{Some}
use Rattle.wef_collector_rows.specs.Standing.{standing}
use Rattle.wef_collector_rows.specs.declared.standings.Standing.TheVariants.{Live}
use Rattle.wef_eventing.specs.declared.subscriptions.SubKind.{SubKind}
use Rattle.wef_eventing.specs.declared.subscriptions.SubKind.TheVariants.{BySource, ByCollector}
use Rattle.wef_eventing.specs.declared.subscriptions.Subscription.{Subscription}
use Rattle.wef_machine.specs.States.{Slot, State, declared_names, slot_of}
use Rattle.wef_machine.specs.Steps.{states}
use Rattle.wef_safety.proofs.Schedules.{schedules_are_kept}
use Rattle.wef_safety.specs.Kept.{IsHeld}
use Rattle.wef_settling.specs.Laws.{SchedulesSettle, SettlesIn, SettlingIsSettled}
use Rattle.wef_settling.specs.Settled.{AreListedDeclared, IsRoomy, is_for, is_of_kind}
use Rattle.wef_settling.specs.Settles.{AreFalling, AreSettling, IsAmong, IsOwed}
use Rattle.wef_machine.specs.Turns.{ask_turn, settle_step, the_steps}
use Rattle.wef_settling.proofs.Asks.{ask_gives, ask_goes, ask_leaves, asked_bare}
use Rattle.wef_settling.proofs.Bares.{bare_leased, lost_bare, released_bare}
use Rattle.wef_settling.proofs.Facts.{IsReady, the_facts}
use Rattle.wef_settling.proofs.HasListed.{has_listed}
use Rattle.wef_settling.proofs.LaterSteps.{done_after, later_refl, later_trans, lent_after, lent_before, lost_later, named_after, named_before, own_after, own_before, released_later, roomy_before}
use Rattle.wef_settling.proofs.ListedDeclared.{listed_are_declared}
use Rattle.wef_settling.proofs.Named.{lent_named, named_slot, own_named}
use Rattle.wef_settling.proofs.PollsFall.{polls_fall}
use Rattle.wef_settling.proofs.PollsGo.{poll_goes}
use Rattle.wef_settling.proofs.PollsSettle.{poll_leaves, poll_settles}
use Rattle.wef_settling.proofs.Requests.{request_gives, request_leaves, requested_leased}
use Rattle.wef_settling.proofs.RequestsFall.{requests_fall}
use Rattle.wef_settling.proofs.Settling.{settling_settles}
use Rattle.wef_settling.proofs.TurnsKept.{ask_later, poll_later, ready_keeping, request_later}

-- a turn that goes on leaves less to be done, also where nothing is armed
ready_falling : AreFalling State (List ℕ) IsReady the_steps
ready_falling = record {
  request_kept = ready_keeping.requests;
  poll_kept = ready_keeping.polls;
  requests_fall = λ state is. requests_fall state is.held;
  polls_fall = λ s u state is. polls_fall s u state is.held;
}

-- the ask of a source that is declared goes on
named_goes : (s : List ℕ) (state : State) → IsReady state → IsAmong s (declared_names state) → IsRoomy (ask_turn s state).0 → (ask_turn s state).1 ≡ true
named_goes s state is among roomy = let there = named_slot state s among in ask_goes s state is there.slot there.is roomy

pub are_settling : AreSettling State (List ℕ) the_steps the_facts
are_settling = record {
  keeping = ready_keeping;
  falling = ready_falling;
  refl_later = later_refl;
  trans_later = later_trans;
  released_later = released_later;
  lost_later = lost_later;
  asked_later = ask_later;
  requested_later = request_later;
  polled_later = poll_later;
  roomy_before = roomy_before;
  own_before = own_before;
  lent_before = lent_before;
  own_after = own_after;
  lent_after = lent_after;
  done_after = done_after;
  own_named = own_named;
  lent_named = lent_named;
  named_before = named_before;
  named_after = named_after;
  has_listed = has_listed;
  released_bare = released_bare;
  lost_bare = lost_bare;
  asked_bare = asked_bare;
  bare_leased = bare_leased;
  requested_leased = requested_leased;
  ask_goes = named_goes;
  ask_gives = ask_gives;
  ask_leaves = ask_leaves;
  request_leaves = request_leaves;
  request_gives = request_gives;
  poll_goes = poll_goes;
  poll_leaves = poll_leaves;
  poll_settles = poll_settles;
}

-- ---- pairs

-- a source by which a live subscription is to be served
owed_by : (state : State) (s u : List ℕ) (about : Subscription) (slot : Slot) → standing state.collector.rows u ≡ Live about → slot_of state s ≡ Some slot → is_for about s ≡ true →
    IsOwed the_facts state s u
owed_by state s u about slot live there serves = by_kind about.kind refl serves
  where
    by_kind : (kind : SubKind) → about.kind ≡ kind → is_of_kind kind s about.sources ≡ true → IsOwed the_facts state s u
    by_kind BySource kind is = inl (record { about = about; live = live; kind = kind; slot = slot; declared = there })
    by_kind ByCollector kind is = inr (record { about = about; live = live; kind = kind; listed = is })

pub settling_is_settled : SettlingIsSettled
settling_is_settled state held listed unarmed roomy u s about slot live there serves =
    settling_settles State (List ℕ) the_facts the_steps are_settling state (record { held = held; unarmed = unarmed; listed = listed }) roomy s u
    (owed_by (settle_step state) s u about slot live there serves) about slot live there

-- ---- schedules

both_settle : (all : List State) → AllByRecursion IsHeld all → AllByRecursion AreListedDeclared all → AllByRecursion SettlesIn all
both_settle [] held listed = tt
both_settle (state ∷ all) held listed = (settling_is_settled state held.0 listed.0, both_settle all held.1 listed.1)

pub schedules_settle : SchedulesSettle
schedules_settle lines admitted = both_settle (states lines) (schedules_are_kept lines admitted) (listed_are_declared lines admitted)
