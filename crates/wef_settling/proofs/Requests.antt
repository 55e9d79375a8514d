-- What the requests of the collector do: each that goes on begins a session and its lease, and leaves all others; and where none goes on,
-- each pair is served that the collector is to begin.
use Rattle.std.proofs.Common.{◌≡◌, ℕ, ◌&&◌, Bool, true, false, List, refl, ap, sym, ◌∙◌, subst}
use Rattle.std.proofs.lemmas.Bool.{and_parts}
use Rattle.std.proofs.lemmas.Option.{same_Some}
use Rattle.std.specs.FinMap as finite
use Rattle.std.specs.Prelude.{Some, None}
use Rattle.wef_base.specs.Names.{same}
use Rattle.wef_building.specs.declared.sessions.Session.{Session}
use Rattle.wef_collector.proofs.Hits.{one_name}
use Rattle.wef_collector.specs.declared.responses.Leasing.TheVariants.{Leases}
use Rattle.wef_collector_leases.specs.Due.{due_leased}
use Rattle.wef_collector_leases.specs.Leases.{lease_at}
use Rattle.wef_collector_leases.specs.declared.leases.Lease.{Lease}
use Rattle.wef_collector_rows.specs.Standing.{standing}
use Rattle.wef_collector_rows.specs.declared.standings.Standing.TheVariants as stands
use Rattle.wef_eventing.specs.declared.subscriptions.SubKind.TheVariants.{ByCollector}
use Rattle.wef_eventing.specs.declared.subscriptions.Subscription.{Subscription}
use Rattle.wef_keeper.specs.Rows.{Rows}
use Rattle.wef_machine.specs.Collecting.{with_opened}
use Rattle.wef_machine.specs.Places.{remembering}
use Rattle.wef_machine.specs.Sources as sources
use Rattle.wef_machine.specs.Sources.{slot_opened}
use Rattle.wef_machine.specs.States.{Slot, Slots, State, slot_with}
use Rattle.wef_pairs.specs.Pairs.{about_of}
use Rattle.wef_safety.proofs.Asking.{opened_held}
use Rattle.wef_safety.proofs.LowerFacts.{lower}
use Rattle.wef_safety.proofs.Moves.{slot_put}
use Rattle.wef_safety.proofs.Offerable.{known_said}
use Rattle.wef_settling.proofs.Asks.{put_apart}
use Rattle.wef_settling.proofs.DueWishes.{all_served}
use Rattle.wef_settling.proofs.Facts.{HasSession, IsLeaseServed, IsLeased, IsLent, IsReady}
use Rattle.wef_settling.proofs.GoingOn.{opened_goes}
use Rattle.wef_settling.proofs.LaterRows.{leasing_later}
use Rattle.wef_settling.proofs.LaterSteps.{roomy_before}
use Rattle.wef_settling.proofs.LeaseTurns.{HasBegun, lease_turn_any, leased_opened}
use Rattle.wef_settling.proofs.LeasesPut.{lease_put, lease_stays}
use Rattle.wef_settling.proofs.LessDue.{not_due}
use Rattle.wef_settling.proofs.Opened.{has_still, opened_leases}
use Rattle.wef_settling.proofs.PollTurns.{unopened}
use Rattle.wef_settling.proofs.SessionsPut.{IsFree, put_free, session_put}
use Rattle.wef_settling.proofs.TurnsKept.{request_later}
use Rattle.wef_settling.specs.Settled.{IsRoomy, lists}
use Rattle.wef_machine.specs.Turns.{request_turn}
use Rattle.wef_source.specs.Machine.{End}
use Rattle.wef_source.specs.Sessions as sessions
use Rattle.wef_source.specs.Sessions.{session_of, with_session}

-- ---- a turn that begins a session

module _ (state last : State) (begun : HasBegun state last) where
  -- the subscriptions stand as they stood
  still_stands : (u : List ℕ) → standing last.collector.rows u ≡ standing state.collector.rows u
  still_stands u =
      ap (λ (rows : Rows). standing rows u) begun.rows ∙ (leasing_later (with_opened state).collector.rows begun.about.name begun.source (Leases begun.lease)).standings u
      ∙ (opened_goes state).later.standings u

  -- the lease that was begun stands
  own_lease : lease_at last.collector.rows begun.about.name begun.source ≡ Some begun.lease
  own_lease =
      ap (λ (rows : Rows). lease_at rows begun.about.name begun.source) begun.rows ∙ lease_put (with_opened state).collector.rows begun.about.name begun.source begun.lease

  -- and isn't due
  own_lasts : due_leased state.moment begun.about.expires begun.lease ≡ None
  own_lasts =
      let some = (known_said state.collector.rows begun.about.name begun.about (ap about_of begun.live)).plain.expires.0 in
      not_due state.moment begun.about.expires begun.lease some begun.expiry

  -- so do the others
  other_lease : (u s : List ℕ) → (same begun.about.name u && same begun.source s) ≡ false → lease_at last.collector.rows u s ≡ lease_at state.collector.rows u s
  other_lease u s other =
      ap (λ (rows : Rows). lease_at rows u s) begun.rows ∙ lease_stays (with_opened state).collector.rows begun.about.name begun.source u s begun.lease other
      ∙ opened_leases state.collector u s

  -- the source then
  begun_slot : Slot
  begun_slot = slot_with (slot_opened begun.slot) (remembering (slot_opened begun.slot).place begun.after)

  -- it has the sessions that its end has
  begun_has : (u : List ℕ) → IsFree state.moment (session_of (with_session begun.end.sessions begun.session) u) → HasSession last begun.source u
  begun_has u free =
      let source = begun.source in
      record {
        slot = slot_with (slot_opened begun.slot) (remembering (slot_opened begun.slot).place begun.after);
        declared =
            ap (λ (slots : Slots). finite.get slots source) begun.sources
            ∙ slot_put (sources.with_opened state source begun.slot).sources source (slot_with (slot_opened begun.slot) (remembering (slot_opened begun.slot).place begun.after));
        end = begun.after;
        runs = refl;
        session = free.session;
        is = ap (λ (ss : List Session). session_of ss u) begun.sessions ∙ free.is;
        free = free.free;
        lasts = ap (λ (now : ℕ). sessions.has_expired now free.session) begun.moment ∙ free.lasts;
      }

  -- the session that was begun
  own_session : HasSession last begun.source begun.about.name
  own_session = begun_has begun.about.name (record {
    session = begun.session;
    is = ap (session_of (with_session begun.end.sessions begun.session)) (sym begun.name) ∙ session_put begun.end.sessions begun.session;
    free = begun.free;
    lasts = begun.lasts;
  })

  -- those that the source had
  own_stays : (u : List ℕ) → HasSession state begun.source u → HasSession last begun.source u
  own_stays u has =
      let slot : begun.slot ≡ has.slot = same_Some begun.slot has.slot (sym begun.there ∙ has.declared) in
      let runs : begun.slot.place.memory ≡ Some has.end = ap (λ (x : Slot). x.place.memory) slot ∙ has.runs in
      let end : begun.end ≡ has.end = same_Some begun.end has.end (sym begun.runs ∙ ap (λ (x : Slot). x.place.memory) (unopened begun.slot has.end runs) ∙ runs) in
      begun_has u (put_free state.moment begun.end.sessions begun.session u begun.free begun.lasts (record {
        session = has.session;
        is = ap (λ (e : End). session_of e.sessions u) end ∙ has.is;
        free = has.free;
        lasts = has.lasts;
      }))

  -- and those of others
  other_stays : (r u : List ℕ) → same r begun.source ≡ false → HasSession state r u → HasSession last r u
  other_stays r u other has =
      let source = begun.source in
      has_still state last r u has begun.moment
      (ap (λ (slots : Slots). finite.get slots r) begun.sources
      ∙ put_apart (sources.with_opened state source begun.slot).sources source (slot_with (slot_opened begun.slot) (remembering (slot_opened begun.slot).place begun.after)) r other
      ∙ put_apart state.sources source (slot_opened begun.slot) r other ∙ has.declared)

  pub all_stay : (r u : List ℕ) → HasSession state r u → HasSession last r u
  all_stay r u has = by_test (same r begun.source) refl
    where
      by_test : (t : Bool) → same r begun.source ≡ t → HasSession last r u
      by_test true is =
          let one : begun.source ≡ r = sym (one_name r begun.source is) in
          subst (λ (x : List ℕ). HasSession last x u) one (own_stays u (subst (λ (x : List ℕ). HasSession state x u) (sym one) has))
      by_test false other = other_stays r u other has

  -- a lease that stands of the pair is the one that was begun
  own_served : (about : Subscription) (lease : Lease) → standing last.collector.rows begun.about.name ≡ stands.Live about →
      lease_at last.collector.rows begun.about.name begun.source ≡ Some lease → IsLeaseServed last begun.source begun.about.name about lease
  own_served about lease live stood =
      let abouts : begun.about ≡ about = same_Some begun.about about (ap about_of (sym begun.live ∙ sym (still_stands begun.about.name) ∙ live)) in
      let leases : begun.lease ≡ lease = same_Some begun.lease lease (sym own_lease ∙ stood) in
      record { lasts = sym (λ i. due_leased (sym begun.moment i) (abouts i).expires (leases i)) ∙ own_lasts; session = own_session }

  other_served : (leased : IsLeased state) (u s : List ℕ) (about : Subscription) (lease : Lease) → (same begun.about.name u && same begun.source s) ≡ false → standing last.collector.rows u ≡ stands.Live about →
      about.kind ≡ ByCollector → lists s about.sources ≡ true → lease_at last.collector.rows u s ≡ Some lease → IsLeaseServed last s u about lease
  other_served leased u s about lease other live kind listed stood =
      let served = leased.live u s about lease (sym (still_stands u) ∙ live) kind listed (sym (other_lease u s other) ∙ stood) in
      record { lasts = ap (λ (now : ℕ). due_leased now about.expires lease) begun.moment ∙ served.lasts; session = all_stay s u served.session }

  live_ended : (old about : Subscription) → stands.Live old ≡ stands.Ended about → ⊥
  live_ended old about e = cc

  pub begun_leased : IsLeased state → IsLeased last
  begun_leased leased = record {
    waiting = begun.waiting;
    live = λ u s about lease live kind listed stood. by_pair u s about lease live kind listed stood (same begun.about.name u && same begun.source s) refl;
    ended = λ u s about ended. by_ended u s about ended (same begun.about.name u && same begun.source s) refl;
  }
    where
      by_pair : (u s : List ℕ) (about : Subscription) (lease : Lease) → standing last.collector.rows u ≡ stands.Live about → about.kind ≡ ByCollector → lists s about.sources ≡ true →
          lease_at last.collector.rows u s ≡ Some lease → (t : Bool) → (same begun.about.name u && same begun.source s) ≡ t → IsLeaseServed last s u about lease
      by_pair u s about lease live kind listed stood true is =
          let both = and_parts (same begun.about.name u) (same begun.source s) is in
          let name = one_name begun.about.name u both.0 in
          let source = one_name begun.source s both.1 in
          subst (λ (x : List ℕ × List ℕ). IsLeaseServed last x.1 x.0 about lease) (λ i. (name i, source i))
          (own_served about lease (ap (standing last.collector.rows) name ∙ live) (ap (λ (x : List ℕ × List ℕ). lease_at last.collector.rows x.0 x.1) (λ i. (name i, source i)) ∙ stood))
      by_pair u s about lease live kind listed stood false other = other_served leased u s about lease other live kind listed stood

      by_ended : (u s : List ℕ) (about : Subscription) → standing last.collector.rows u ≡ stands.Ended about → (t : Bool) → (same begun.about.name u && same begun.source s) ≡ t →
          lease_at last.collector.rows u s ≡ None
      by_ended u s about ended true is =
          let name = one_name begun.about.name u (and_parts (same begun.about.name u) (same begun.source s) is).0 in
          absurd (live_ended begun.about about (sym begun.live ∙ sym (still_stands begun.about.name) ∙ ap (standing last.collector.rows) name ∙ ended))
      by_ended u s about ended false other = other_lease u s other ∙ leased.ended u s about (sym (still_stands u) ∙ ended)

-- ---- the turn

-- ids and boot numbers were left before it
was_roomy : (state : State) → IsReady state → IsRoomy (request_turn state).0 → IsRoomy state
was_roomy state ready roomy = roomy_before state (request_turn state).0 (request_later state ready) roomy

pub requested_leased : (state : State) → IsReady state → IsLeased state → IsRoomy (request_turn state).0 → IsLeased (request_turn state).0
requested_leased state ready leased roomy = lease_turn_any state (λ (x : State × Bool). IsLeased x.0) ready leased (was_roomy state ready roomy) (record {
  idle = λ next. leased_opened state leased;
  begun = λ last begun. begun_leased state last begun leased;
})

pub request_leaves : (r u : List ℕ) (state : State) → IsReady state → IsLeased state → IsRoomy (request_turn state).0 → HasSession state r u → HasSession (request_turn state).0 r u
request_leaves r u state ready leased roomy has = lease_turn_any state (λ (x : State × Bool). HasSession x.0 r u) ready leased (was_roomy state ready roomy) (record {
  idle = λ next. has_still state (with_opened state) r u has refl has.declared;
  begun = λ last begun. all_stay state last begun r u has;
})

true_false : true ≡ false → ⊥
true_false e = cc

pub request_gives : (s u : List ℕ) (state : State) → IsReady state → IsLeased state → IsRoomy (request_turn state).0 → (request_turn state).1 ≡ false → IsLent (request_turn state).0 s u →
    HasSession (request_turn state).0 s u
request_gives s u state ready leased roomy = lease_turn_any state (λ (x : State × Bool). x.1 ≡ false → IsLent x.0 s u → HasSession x.0 s u) ready leased (was_roomy state ready roomy) (record {
  idle = λ next off lent. all_served (with_opened state) s u (opened_held lower state ready.held).kept.keys (leased_opened state leased) next lent;
  begun = λ last begun off lent. absurd (true_false off);
})
