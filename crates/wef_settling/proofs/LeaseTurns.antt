-- What a request's turn does where nothing is armed, ids and boot numbers are left, no request waits, and no lease is due that stands:
-- nothing, where nothing is due; or a source begins a session, and the collector has a lease of it.
use Rattle.std.proofs.Common.{◌≡◌, ℕ, ◌+◌, ◌-◌, ◌≤◌, ◌&&◌, Bool, true, false, cond, List, [], ◌∷◌, nat_le, nat_lt, refl, ap, sym, ◌∙◌, subst, arith}
use Rattle.std.proofs.lemmas.Bool.Decides.{nat_tests}
use Rattle.std.specs.List.{list_any}
use Rattle.std.specs.Option.{option_map}
use Rattle.std.specs.Prelude.{Option, Some, None, Ok}
use Rattle.wef_bodies.specs.declared.bodies.Body.{Body}
use Rattle.wef_bodies.specs.declared.bodies.Body.TheVariants as body
use Rattle.wef_building.proofs.Cases.{eq_itself, le_refused}
use Rattle.wef_building.specs.declared.sessions.Session.{Session}
use Rattle.wef_collector.specs.Asking.{request_for, waiting_of}
use Rattle.wef_collector.specs.Memories.{answered_in, asked_in}
use Rattle.wef_collector.specs.Offers.{subscribe_from}
use Rattle.wef_collector.specs.Responses.{waiting_effect}
use Rattle.wef_collector.specs.declared.asking.Request.{Request}
use Rattle.wef_collector.specs.declared.memories.Memory.{Memory}
use Rattle.wef_collector.specs.declared.responses.Response.{Response}
use Rattle.wef_collector.specs.declared.responses.Response.TheVariants as response
use Rattle.wef_collector_leases.specs.Changes.{replace_lease}
use Rattle.wef_collector_leases.specs.Next.{next_due}
use Rattle.wef_collector_leases.specs.Waiting.{first_of, with_waiting, without_first}
use Rattle.wef_collector_leases.specs.declared.leases.Lease.{Lease}
use Rattle.wef_collector_leases.specs.declared.next.Due.{Due}
use Rattle.wef_collector_leases.specs.declared.waiting.Waiting.{Waiting}
use Rattle.wef_collector_reports.specs.Listing.{listed}
use Rattle.wef_collector_reports.specs.declared.listing.Listed.{Listed}
use Rattle.wef_collector_rows.specs.Bookmarks.{bookmark_of}
use Rattle.wef_collector_rows.specs.Standing.{standing}
use Rattle.wef_collector_rows.specs.declared.standings.Standing.TheVariants as stands
use Rattle.wef_eventing.proofs.AddressesBack.{addresses_read_back}
use Rattle.wef_eventing.specs.Addresses.{subscription_in}
use Rattle.wef_eventing.specs.declared.offers.Subscribe.{Subscribe}
use Rattle.wef_eventing.specs.declared.subscriptions.SourceAt.{SourceAt}
use Rattle.wef_eventing.specs.declared.subscriptions.Subscription.{Subscription}
use Rattle.wef_front_source.specs.Steps.{begun_by, done_where}
use Rattle.wef_front_source.specs.declared.hearing.Asked.TheVariants as asked
use Rattle.wef_front_source.specs.declared.saying.Said.TheVariants as said
use Rattle.wef_ids.specs.IdTexts.{id_of_value, id_text}
use Rattle.wef_ids.specs.Ids as ids
use Rattle.wef_keeper.specs.Rows.{Rows, applied}
use Rattle.wef_keeper.specs.declared.keys.Change.{Change}
use Rattle.wef_machine.specs.Arming.{is_done, is_stopped}
use Rattle.wef_machine.specs.Collecting.{reply_id, with_opened}
use Rattle.wef_machine.specs.Deliveries.{deliver_message, taken_by}
use Rattle.wef_machine.specs.Leasing as leasing
use Rattle.wef_machine.specs.Leasing.{request_at, request_by, request_message, responds_at, responds_by, response_by}
use Rattle.wef_machine.specs.Sources as sources
use Rattle.wef_machine.specs.Sources.{at_slot, slot_opened}
use Rattle.wef_machine.specs.States.{Slot, State, host, slot_of, with_end, with_message}
use Rattle.wef_machine.specs.declared.arming.Fate.{Fate}
use Rattle.wef_machine.specs.declared.messages.Message.{Message}
use Rattle.wef_machine.specs.declared.messages.Message.TheVariants as sent
use Rattle.wef_pairs.specs.Pairs.{about_of}
use Rattle.wef_replay.specs.Good.{is_source}
use Rattle.wef_safety.proofs.Asking.{opened_held}
use Rattle.wef_safety.proofs.LowerFacts.{lower}
use Rattle.wef_safety.proofs.Offerable.{known_said}
use Rattle.wef_safety.proofs.Offering.{reads_source, reads_subscription}
use Rattle.wef_safety.proofs.RowMoves.{AreRowsKept, known_name}
use Rattle.wef_settling.proofs.DueWishes.{IsWished, is_wished, wish_of}
use Rattle.wef_settling.proofs.Facts.{IsLeased, IsReady}
use Rattle.wef_settling.proofs.GoingOn.{opened_goes}
use Rattle.wef_settling.proofs.Named.{lent_slot}
use Rattle.wef_settling.proofs.NewestMessages.{newest_none, newest_some}
use Rattle.wef_settling.proofs.Opened.{all_committed, at_open, collector_runs, has_still, opened_leases, opened_waiting, source_runs}
use Rattle.wef_settling.proofs.PollsGo.{goes_well, opened_calm}
use Rattle.wef_machine.specs.Measures.{waiting_in}
use Rattle.wef_settling.specs.Settled.{IsRoomy, IsSourceRoomy, ids_needed, is_lent}
use Rattle.wef_machine.specs.Turns as turns
use Rattle.wef_machine.specs.Turns.{follow, newest, request_step, request_turn}
use Rattle.wef_source.specs.Machine.{End, accepted, drawn_in, lease_of, most_drawn, next_id}
use Rattle.wef_source.specs.Sessions.{has_expired, session_leased, with_session}

-- ---- a lease that begins

-- A lease was begun: the collector has it, and waits for no answer; the source has a session of the subscription beside those that it had.
pub record HasBegun (state last : State) : Type 0 where
  pub about : Subscription
  pub source : List ℕ
  pub live : standing state.collector.rows about.name ≡ stands.Live about
  pub lease : Lease
  pub expiry : lease.expiry ≡ state.moment + about.expires
  pub rows : last.collector.rows ≡ applied (replace_lease (with_opened state).collector.rows about.name source lease) (with_opened state).collector.rows
  pub waiting : waiting_in last.collector.memory ≡ []
  pub moment : last.moment ≡ state.moment
  pub slot : Slot
  pub there : slot_of state source ≡ Some slot
  pub end : End
  pub runs : (slot_opened slot).place.memory ≡ Some end
  pub after : End
  pub session : Session
  pub name : session.name ≡ about.name
  pub free : session.outstanding ≡ None
  pub lasts : has_expired state.moment session ≡ false
  pub sessions : after.sessions ≡ with_session end.sessions session
  pub sources : last.sources ≡ (with_end (sources.with_opened state source slot) source (slot_opened slot) after).sources

-- the turn in which a request leaves this world
abbrev turned_by : State → State → State × Bool
turned_by after taken = (follow after taken, turns.leases taken (newest after taken))

abbrev turn_to : State → State → State × Bool
turn_to state after = turned_by after (follow state after)

-- two ids are left
enough : (drawn : ℕ) → drawn + 2 ≤ most_drawn → nat_lt (most_drawn - drawn) 2 ≡ false
enough drawn room = grind (arith, nat_tests, room)

past : (now expires : ℕ) → 1 ≤ expires → nat_le (now + expires) now ≡ false
past now expires some = le_refused (now + expires) now (omega arith)

module _ (state : State) (memory : Memory) (about : Subscription) (source : SourceAt) (slot : Slot) (end : End) where
  abbrev open_now : State
  open_now = with_opened state

  -- what the request asks for, and the world in which it was sent
  abbrev wish : Subscribe
  wish = subscribe_from (bookmark_of open_now.collector.rows about.name source.name) source.name host about (Some about.expires)

  abbrev own_request : Request
  own_request = request_for open_now.collector.rows host (reply_id memory) (wish_of about source)

  abbrev asked_world : State
  asked_world = request_by open_now memory (Some own_request)

  -- the source once it began the session, and what it answers
  abbrev begun_end : End
  begun_end = accepted end wish about.name state.moment

  abbrev answer : Response
  answer = response.Subscribed (id_text (next_id end)) about.expires

  abbrev answer_message : Message
  answer_message = sent.Response source.name (id_of_value (next_id begun_end)) (reply_id memory) answer

  -- the world in which it answered
  abbrev answered_world : State
  answered_world = with_message (with_end (sources.with_opened asked_world source.name slot) source.name (slot_opened slot) (drawn_in begun_end)) answer_message

  -- the lease of it, and the world in which the collector has it
  abbrev own_lease : Lease
  own_lease = record { identifier = id_text (next_id end); expiry = state.moment + about.expires }

  abbrev own_changes : List Change
  own_changes = replace_lease open_now.collector.rows about.name source.name own_lease

  abbrev last_world : State
  last_world = response_by answered_world (Some (ids.next_id memory.ids)) (Ok own_changes)

  -- the source answers so
  responds_so : slot_of state source.name ≡ Some slot → (slot_opened slot).place.memory ≡ Some end → end.drawn + 2 ≤ most_drawn → subscription_in wish.notify_to ≡ Some about.name →
      taken_by asked_world (request_message own_request) ≡ answered_world
  responds_so there runs room leads =
      let change = responds_at source.name (reply_id memory) None (body.Subscribe wish) in
      let now = sources.with_opened asked_world source.name slot in
      let says : Body = body.Subscribed (id_text (next_id end)) about.expires in
      ap (λ (o : Option Slot). at_slot asked_world source.name o change) there
      ∙ ap (λ (o : Option End). sources.where_runs now (slot_opened slot) o change) runs
      ∙ ap (λ (few : Bool). responds_by source.name (reply_id memory) now (slot_opened slot) (done_where (cond few said.Spent (said.Done says)) end (asked.Begin wish) state.moment) (cond few said.Spent (said.Done says)))
      (enough end.drawn room)
      ∙ ap (λ (o : Option (List ℕ)). responds_by source.name (reply_id memory) now (slot_opened slot) (begun_by end wish state.moment o) (said.Done says)) leads

  -- the answer is that to the request
  own_answer : memory.waiting ≡ [] → first_of (ids.next_id memory.ids) (with_waiting memory.waiting (waiting_of own_request)) ≡ Some (waiting_of own_request)
  own_answer none =
      ap (λ (ws : List Waiting). first_of (ids.next_id memory.ids) (with_waiting ws (waiting_of own_request))) none
      ∙ ap (λ (t : Bool). cond t (Some (waiting_of own_request)) None) (eq_itself (ids.next_id memory.ids))

  none_left : memory.waiting ≡ [] → without_first (ids.next_id memory.ids) (with_waiting memory.waiting (waiting_of own_request)) ≡ []
  none_left none =
      ap (λ (ws : List Waiting). without_first (ids.next_id memory.ids) (with_waiting ws (waiting_of own_request))) none
      ∙ ap (λ (t : Bool). cond t [] (waiting_of own_request ∷ [])) (eq_itself (ids.next_id memory.ids))

  turn_begins : slot_of state source.name ≡ Some slot → (slot_opened slot).place.memory ≡ Some end → end.drawn + 2 ≤ most_drawn → subscription_in wish.notify_to ≡ Some about.name →
      memory.waiting ≡ [] → open_now.collector.armed ≡ None → turn_to state asked_world ≡ (last_world, true)
  turn_begins there runs room leads none calm =
      ap (λ (o : Option Message). turned_by asked_world (deliver_message asked_world o)) (newest_some state asked_world (request_message own_request) refl)
      ∙ ap (turned_by asked_world) (responds_so there runs room leads)
      ∙ ap (λ (o : Option Message). (deliver_message answered_world o, turns.leases answered_world o)) (newest_some asked_world answered_world answer_message refl)
      ∙ ap (λ (o : Option Waiting). (
        response_by answered_world (Some (ids.next_id memory.ids)) (waiting_effect o answer state.moment open_now.collector.rows),
        leasing.leases answered_world answer (waiting_effect o answer state.moment open_now.collector.rows),
      )) (own_answer none)
      ∙ ap (λ (how : Fate). (last_world, is_done how && true)) (goes_well open_now.collector.armed own_changes calm)

  begins : standing state.collector.rows about.name ≡ stands.Live about → 1 ≤ about.expires → slot_of state source.name ≡ Some slot → (slot_opened slot).place.memory ≡ Some end →
      memory.waiting ≡ [] → open_now.collector.armed ≡ None → HasBegun state last_world
  begins live some there runs none calm = record {
    about = about;
    source = source.name;
    live = live;
    lease = own_lease;
    expiry = refl;
    rows = all_committed open_now.collector.armed own_changes open_now.collector.rows calm;
    waiting =
        ap (λ (how : Fate). waiting_in (option_map (answered_in (Some (ids.next_id memory.ids))) (cond (is_stopped how) None (Some (asked_in own_request memory)))))
        (goes_well open_now.collector.armed own_changes calm) ∙ none_left none;
    moment = refl;
    slot = slot;
    there = there;
    end = end;
    runs = runs;
    after = drawn_in begun_end;
    session = session_leased state.moment wish (lease_of (next_id end) wish state.moment) about.name;
    name = refl;
    free = refl;
    lasts = past state.moment about.expires some;
    sessions = refl;
    sources = refl;
  }

-- ---- an opening of the collector

-- it leaves each lease that stands, and its session
pub leased_opened : (state : State) → IsLeased state → IsLeased (with_opened state)
leased_opened state leased =
    let later = (opened_goes state).later in
    record {
      waiting = opened_waiting state.collector ∙ leased.waiting;
      live = λ u s about lease live kind listed stood.
          let served = leased.live u s about lease (sym (later.standings u) ∙ live) kind listed (sym (opened_leases state.collector u s) ∙ stood) in
          record { lasts = served.lasts; session = has_still state (with_opened state) s u served.session refl served.session.declared };
      ended = λ u s about ended. opened_leases state.collector u s ∙ leased.ended u s about (sym (later.standings u) ∙ ended);
    }

-- ---- each turn

-- What is so of a turn in which nothing is due, and of one that begins a lease.
pub record LeaseCases (state : State) (R : State × Bool → Type 0) : Type 0 where
  pub idle : next_due (with_opened state).collector.rows [] state.moment ≡ None → R (with_opened state, false)
  pub begun : (last : State) → HasBegun state last → R (last, true)

idle_turn : (state after : State) → after.messages ≡ state.messages → turn_to state after ≡ (after, false)
idle_turn state after same =
    ap (λ (o : Option Message). turned_by after (deliver_message after o)) (newest_none state after same)
    ∙ ap (λ (o : Option Message). (deliver_message after o, turns.leases after o)) (newest_none after after refl)

-- the wish leads to its subscription
leads_to : (rows : Rows) (about : Subscription) (s : List ℕ) → AreRowsKept rows → is_source s ≡ true → standing rows about.name ≡ stands.Live about →
    subscription_in (subscribe_from (bookmark_of rows about.name s) s host about (Some about.expires)).notify_to ≡ Some about.name
leads_to rows about s keys source live =
    let good = reads_subscription about.name (known_name rows about.name about keys (ap about_of live)) in
    let own = reads_source s source in
    (addresses_read_back host about.name s good.0 good.1 own.0 own.1).0

-- a source that the collector may ask to begin has two ids left
two_left : (state : State) (slot : Slot) → list_any is_lent (listed (with_opened state).collector.rows) ≡ true → IsSourceRoomy (ids_needed state.collector.rows) slot → IsSourceRoomy 2 slot
two_left state slot lent roomy =
    subst (λ (needed : ℕ). IsSourceRoomy needed slot)
    (ap (λ (t : Bool). cond t 2 1) (ap (λ (ls : List Listed). list_any is_lent ls) (sym (opened_goes state).later.listed) ∙ lent)) roomy

wished_turn : (state : State) (R : State × Bool → Type 0) (memory : Memory) (due : Due) → IsReady state → IsRoomy state → LeaseCases state R → memory.waiting ≡ [] → IsWished (with_opened state) due →
    R (turn_to state (request_by (with_opened state) memory (Some (request_for (with_opened state).collector.rows host (reply_id memory) due))))
wished_turn state R memory due ready room cases none is =
    let now = with_opened state in
    let about = is.about in
    let source = is.source in
    let later = (opened_goes state).later in
    let live : standing state.collector.rows about.name ≡ stands.Live about = sym (later.standings about.name) ∙ is.live in
    let slot = lent_slot state source.name about.name ready (record { about = about; live = live; kind = is.kind; listed = is.at }) in
    let runs = source_runs 2 slot.slot (omega arith) (ready.unarmed.sources source.name slot.slot slot.is) (two_left state slot.slot is.lent (room.sources source.name slot.slot slot.is)) in
    let keys = (opened_held lower state ready.held).kept.keys in
    let leads = leads_to now.collector.rows about source.name keys (ready.held.kept.sources source.name slot.slot slot.is).name is.live in
    let calm = opened_calm state.collector ready.unarmed.collector in
    let some = (known_said state.collector.rows about.name about (ap about_of live)).plain.expires.0 in
    subst (λ (d : Due). R (turn_to state (request_by now memory (Some (request_for now.collector.rows host (reply_id memory) d))))) (sym is.is)
    (subst R (sym (turn_begins state memory about source slot.slot runs.end slot.is runs.is runs.left leads none calm))
    (cases.begun (last_world state memory about source slot.slot runs.end) (begins state memory about source slot.slot runs.end live some slot.is runs.is none calm)))

pub lease_turn_any : (state : State) (R : State × Bool → Type 0) → IsReady state → IsLeased state → IsRoomy state → LeaseCases state R → R (request_turn state)
lease_turn_any state R ready leased room cases =
    let opened = collector_runs state.collector ready.unarmed.collector room.boot in
    let none : opened.memory.waiting ≡ [] = sym (ap waiting_in opened.is) ∙ opened_waiting state.collector ∙ leased.waiting in
    subst R (ap (turn_to state) (sym (at_open state request_at opened.memory opened.is)))
    (by_due opened.memory none (next_due (with_opened state).collector.rows opened.memory.waiting state.moment) refl)
  where
    by_due : (memory : Memory) → memory.waiting ≡ [] → (due : Option Due) → next_due (with_opened state).collector.rows memory.waiting state.moment ≡ due →
        R (turn_to state (request_by (with_opened state) memory (option_map (request_for (with_opened state).collector.rows host (reply_id memory)) due)))
    by_due memory none None next =
        subst R (sym (idle_turn state (with_opened state) refl))
        (cases.idle (ap (λ (ws : List Waiting). next_due (with_opened state).collector.rows ws state.moment) (sym none) ∙ next))
    by_due memory none (Some due) next =
        wished_turn state R memory due ready room cases none
        (is_wished (with_opened state) due (opened_held lower state ready.held).kept.keys (leased_opened state leased)
        (ap (λ (ws : List Waiting). next_due (with_opened state).collector.rows ws state.moment) (sym none) ∙ next))
