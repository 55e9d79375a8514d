-- A request that is answered by a lease leaves less to be requested, whatever is armed: it isn't due any longer; or its answer was taken
-- for that of one that waited before, and fewer pairs are behind what waits.
use Rattle.std.proofs.Common.{◌≡◌, ℕ, ◌+◌, ◌*◌, ◌<◌, ◌≤◌, ◌&&◌, Bool, true, false, cond, List, [], ◌∷◌, ◌++◌, length, nat_lt, inl, inr, refl, ap, sym, ◌∙◌, subst, arith, mul_comm}
use Rattle.std.proofs.lemmas.Bool.{and_parts, cond_both}
use Rattle.std.proofs.lemmas.Nat.{mul-add-lt}
use Rattle.std.proofs.lemmas.Option.{none-some, same_Some}
use Rattle.std.specs.Cmp.{tied_itself}
use Rattle.std.specs.FinMap as finite
use Rattle.std.specs.List.{filter, flat_map}
use Rattle.std.specs.Option.{option_map}
use Rattle.std.specs.Prelude.{Option, Some, None, Ok, Err, IfSome, is_some}
use Rattle.std.specs.declared.cmp.Ordering.TheVariants.{Equal}
use Rattle.wef_base.specs.declared.numbers.TheConstants.{MAX}
use Rattle.wef_bodies.specs.declared.bodies.Body.{Body}
use Rattle.wef_bodies.specs.declared.bodies.Body.TheVariants as body
use Rattle.wef_building.specs.declared.sessions.Session.{Session}
use Rattle.wef_collector.specs.Asking.{body_for, identifier_of, request_for, waiting_of, wants_by}
use Rattle.wef_collector.specs.Boots.{boot_of, memory_begun}
use Rattle.wef_collector.specs.Calls.{Effect, boot_effect}
use Rattle.wef_collector.specs.Memories.{answered_in, asked_in}
use Rattle.wef_collector.specs.Responses.{lease_changes, leasing_effect, leasing_of, waiting_effect}
use Rattle.wef_collector.specs.declared.asking.Request.{Request}
use Rattle.wef_collector.specs.declared.memories.Memory.{Memory}
use Rattle.wef_collector.specs.declared.responses.Leasing.{Leasing}
use Rattle.wef_collector.specs.declared.responses.Leasing.TheVariants.{Leases}
use Rattle.wef_collector.specs.declared.responses.Response.{Response}
use Rattle.wef_collector.specs.declared.responses.Response.TheVariants as response
use Rattle.wef_collector.specs.Responses.{answered_of}
use Rattle.wef_collector_leases.specs.Leases.{lease_at, lease_of}
use Rattle.wef_collector_leases.specs.Due.{due_for}
use Rattle.wef_collector_leases.specs.Next.{next_due, wanted_at}
use Rattle.wef_collector_leases.specs.Waiting.{first_of, is_waiting, pair_cmp, with_waiting, without_first}
use Rattle.wef_collector_leases.specs.declared.leases.Lease.{Lease}
use Rattle.wef_collector_leases.specs.declared.leases.Wants.{Wants}
use Rattle.wef_collector_leases.specs.declared.leases.Wants.TheVariants.{Subscribes, Renews, Unsubscribes}
use Rattle.wef_collector_leases.specs.declared.next.Due.{Due}
use Rattle.wef_collector_leases.specs.declared.waiting.Waiting.{Waiting}
use Rattle.wef_collector_rows.specs.Keys.{boot_key, lease_key}
use Rattle.wef_collector_rows.specs.declared.faults.CollectorFault.TheVariants as collector_faults
use Rattle.wef_eventing.specs.declared.subscriptions.Subscription.{Subscription}
use Rattle.wef_front_collector.specs.HeardResponses.{response_of}
use Rattle.wef_front_source.specs.Replies.{answered_in as answered_by}
use Rattle.wef_front_source.specs.Steps.{managed_said, with_ids}
use Rattle.wef_front_source.specs.declared.hearing.Wants.TheVariants as asks
use Rattle.wef_front_source.specs.declared.saying.Said.{Said}
use Rattle.wef_front_source.specs.declared.saying.Said.TheVariants as said
use Rattle.wef_ids.specs.IdTexts.{id_of_value}
use Rattle.wef_ids.specs.Ids as ids
use Rattle.wef_ids.specs.declared.FaultName.TheVariants as faults
use Rattle.wef_ids.specs.declared.MessageId.{MessageId}
use Rattle.wef_keeper.specs.Rows.{Rows, applied, key_cmp_total}
use Rattle.wef_keeper.specs.declared.keys.Cell.{Cell}
use Rattle.wef_keeper.specs.declared.keys.Change.{Change}
use Rattle.wef_machine.specs.Arming.{committed, fate, is_done, is_stopped}
use Rattle.wef_machine.specs.Collecting.{at_collector, collector_opened, reply_id, where_runs, with_opened}
use Rattle.wef_machine.specs.Deliveries.{deliver_message, taken_by}
use Rattle.wef_machine.specs.Leasing as leasing
use Rattle.wef_machine.specs.Leasing.{is_leased, next_of, request_at, request_by, request_done, request_message, request_said, responded, responds_at, response_at, response_by, response_effect, response_message, with_memory, with_sent}
use Rattle.wef_machine.specs.Places.{opened_by, starts}
use Rattle.wef_machine.specs.States.{Collector, State, host, with_collector, with_end, with_message}
use Rattle.wef_machine.specs.declared.arming.Fate.{Fate}
use Rattle.wef_machine.specs.declared.arming.Fate.TheVariants.{Done, Failed, Stopped}
use Rattle.wef_machine.specs.declared.messages.Message.{Message}
use Rattle.wef_source.specs.Machine.{End, next_id}
use Rattle.wef_source.specs.Sessions.{has_expired, leased_as}
use Rattle.wef_safety.specs.Kept.{IsHeld, IsKept}
use Rattle.wef_safety.proofs.Asking.{opened_held}
use Rattle.wef_safety.proofs.CollectorSteps.{at_collector_any, boot_changes, committed_both, done_leaves}
use Rattle.wef_safety.proofs.LowerFacts.{lower}
use Rattle.wef_safety.proofs.RowMoves.{AreRowsKept}
use Rattle.wef_safety.proofs.SourceSteps.{at_source_any}
use Rattle.wef_machine.specs.Measures.{Pair, all_behind, due_pairs, is_behind, left_by, pairs, pairs_of, place_of, requests_left, waiting_in}
use Rattle.wef_machine.specs.Turns.{follow, leases, leases_in, leases_where_runs, newest, request_turn}
use Rattle.wef_settling.proofs.Counting.{count_at_most}
use Rattle.wef_settling.proofs.DuePairs.{IsPairDue, next_is_due}
use Rattle.wef_settling.proofs.GoingOn.{committed_later}
use Rattle.wef_settling.proofs.LaterRows.{booting_later, leasing_later}
use Rattle.wef_settling.proofs.LessDue.{IsLeasing, fewer_due, wish_due}
use Rattle.wef_settling.proofs.NewestMessages.{newest_none, newest_some}
use Rattle.wef_settling.proofs.WaitingBehind.{answer_taken, pair_total}

-- ---- what a source answers

-- an answer that leases does so for this long
abbrev pub LastsFor : ℕ → Response → Type 0
LastsFor expires (response.Subscribed identifier given) = given ≡ expires
LastsFor expires (response.Renewed given) = given ≡ expires
LastsFor expires response.Unsubscribed = Unit {0}
LastsFor expires (response.Fault name) = Unit {0}

abbrev pub SaysFor : ℕ → Said → Type 0
SaysFor expires (said.Done answer) = IfSome (response_of answer) (LastsFor expires)
SaysFor expires (said.Fault name) = Unit {0}
SaysFor expires said.Spent = Unit {0}

with_ids_for : (expires needed : ℕ) (end : End) (answer : Body) → IfSome (response_of answer) (LastsFor expires) → SaysFor expires (with_ids needed end answer)
with_ids_for expires needed end answer is = cond_both _ said.Spent (said.Done answer) (SaysFor expires) (λ few. tt) (λ left. is)

-- a session is renewed for as long as its subscription says
renews_for : (expires now : ℕ) (end : End) (found : Option Session) → SaysFor expires (managed_said end (asks.Renew expires) now found)
renews_for expires now end None = tt
renews_for expires now end (Some session) =
    cond_both (has_expired now session) (said.Fault faults.UnableToRenew) (with_ids 1 end (body.Renewed expires)) (SaysFor expires) (λ over. tt) (λ stands. with_ids_for expires 1 end (body.Renewed expires) refl)

cancels_for : (expires now : ℕ) (end : End) (found : Option Session) → SaysFor expires (managed_said end asks.Unsubscribe now found)
cancels_for expires now end None = tt
cancels_for expires now end (Some session) = with_ids_for expires 1 end body.Unsubscribed tt

-- a request is answered so long
says_for : (rows : Rows) (about : Subscription) (s : List ℕ) (wants : Wants) (now : ℕ) (end : End) →
    SaysFor about.expires (request_said (identifier_of wants) (body_for rows host about s wants) now end)
says_for rows about s Subscribes now end = with_ids_for about.expires 2 end _ refl
says_for rows about s (Renews identifier) now end = renews_for about.expires now end (leased_as end.sessions identifier)
says_for rows about s (Unsubscribes identifier) now end = cancels_for about.expires now end (leased_as end.sessions identifier)

responds_for : (expires : ℕ) (end : End) (says : Said) → SaysFor expires says → IfSome (responded end says) (λ (r : MessageId × Response). LastsFor expires r.1)
responds_for expires end (said.Done answer) is = by (response_of answer) is
  where
    by : (o : Option Response) → IfSome o (LastsFor expires) → IfSome (option_map (λ (r : Response). (id_of_value (next_id end), r)) o) (λ (r : MessageId × Response). LastsFor expires r.1)
    by None is = tt
    by (Some r) is = is
responds_for expires end (said.Fault name) is = tt
responds_for expires end said.Spent is = tt

-- ---- less is left

-- rows with the same pairs have as many behind what waits
behind_alike : (rows other : Rows) (ws : List Waiting) → pairs other ≡ pairs rows → all_behind other ws ≡ all_behind rows ws
behind_alike rows other [] same = refl
behind_alike rows other (w ∷ ws) same = λ i. length (filter (is_behind w) (same i)) + behind_alike rows other ws same i

below_next : (due size : ℕ) → due ≤ size → due < size + 1
below_next due size most = omega arith

-- less behind what waits outweighs all that may be due
fewer_behind : (behind before size due owed : ℕ) → behind < before → due ≤ size → behind * (size + 1) + due < before * (size + 1) + owed
fewer_behind behind before size due owed less most =
    let product = mul-add-lt behind (size + 1) due before less (below_next due size most) in
    let turned : (size + 1) * before ≡ before * (size + 1) = mul_comm (size + 1) before in
    omega (arith, product, turned)

less_behind : (rows other : Rows) (before after : List Waiting) (now : ℕ) → pairs other ≡ pairs rows → all_behind rows after < all_behind rows before → left_by other after now < left_by rows before now
less_behind rows other before after now same less =
    subst (λ (x : ℕ × ℕ). x.0 * (x.1 + 1) + due_pairs other after now < left_by rows before now) (λ i. (sym (behind_alike rows other after same) i, length (sym same i)))
    (fewer_behind (all_behind rows after) (all_behind rows before) (length (pairs rows)) (due_pairs other after now) (due_pairs rows before now) less
    (subst (λ (ps : List Pair). due_pairs other after now ≤ length ps) same (count_at_most _ (pairs other))))

less_due : (rows other : Rows) (waiting : List Waiting) (now : ℕ) → pairs other ≡ pairs rows → due_pairs other waiting now < due_pairs rows waiting now →
    left_by other waiting now < left_by rows waiting now
less_due rows other waiting now same less =
    subst (λ (x : ℕ × ℕ). x.0 * (x.1 + 1) + due_pairs other waiting now < left_by rows waiting now) (λ i. (sym (behind_alike rows other waiting same) i, length (sym same i))) (omega arith)

-- ---- the answer is taken

-- a request as it waits for what is due
abbrev waits_for : Rows → MessageId → Due → Waiting
waits_for rows id due = waiting_of (request_for rows host id due)

wants_own : (rows : Rows) (id : MessageId) (due : Due) → (waits_for rows id due).wants ≡ due.wants
wants_own rows id due = by due.wants
  where
    by : (wants : Wants) → wants_by (identifier_of wants) (body_for rows host due.subscription due.source.name wants) ≡ wants
    by Subscribes = refl
    by (Renews identifier) = refl
    by (Unsubscribes identifier) = refl

-- An answer leases for what was wanted: it gives a lease from now on.
record IsLease (now expires : ℕ) (wants : Wants) (given : Leasing) : Type 0 where
  lease : Lease
  is : given ≡ Leases lease
  lasts : lease.expiry ≡ now + expires
  leasing : IsLeasing wants

leases_for : (answer : Response) (wants : Wants) (now expires : ℕ) (given : Leasing) → LastsFor expires answer → is_leased (answered_of answer) ≡ true → leasing_of answer wants now ≡ Some given →
    IsLease now expires wants given
leases_for (response.Subscribed identifier time) Subscribes now expires given lasts on is =
    record { lease = record { identifier = identifier; expiry = now + time }; is = sym (same_Some _ given is); lasts = ap (λ (n : ℕ). now + n) lasts; leasing = tt }
leases_for (response.Subscribed identifier time) (Renews named) now expires given lasts on is = absurd (none-some given is)
leases_for (response.Subscribed identifier time) (Unsubscribes named) now expires given lasts on is = absurd (none-some given is)
leases_for (response.Renewed time) Subscribes now expires given lasts on is = absurd (none-some given is)
leases_for (response.Renewed time) (Renews named) now expires given lasts on is =
    record { lease = record { identifier = named; expiry = now + time }; is = sym (same_Some _ given is); lasts = ap (λ (n : ℕ). now + n) lasts; leasing = tt }
leases_for (response.Renewed time) (Unsubscribes named) now expires given lasts on is = absurd (none-some given is)
leases_for response.Unsubscribed wants now expires given lasts on is = cc
leases_for (response.Fault name) wants now expires given lasts on is = cc

module _ (rows : Rows) (waiting : List Waiting) (now : ℕ) (keys : AreRowsKept rows) (id : ℕ) (due : Due) (is : IsPairDue rows waiting now (pairs rows) due) where
  -- the request has the place of its pair
  place : pair_cmp (waits_for rows (id_of_value id) due) (place_of (is.listed, due.source)) ≡ Equal
  place =
      ap (λ (about : Subscription). pair_cmp (waits_for rows (id_of_value id) due) (record { sub = about.name; source = due.source.name; id = 0; wants = Subscribes })) (sym is.subscription)
      ∙ tied_itself pair_total (waits_for rows (id_of_value id) due)

  own_lease : (given : Leasing) → IsLease now due.subscription.expires due.wants given →
      left_by (applied (lease_changes rows due.subscription.name due.source.name given) rows) waiting now < left_by rows waiting now
  own_lease given lease =
      let expires : lease.lease.expiry ≡ now + is.listed.subscription.expires = lease.lasts ∙ ap (λ (about : Subscription). now + about.expires) is.subscription in
      let fell = fewer_due rows waiting now keys is.listed due.source lease.lease due.wants is.among is.is lease.leasing expires in
      subst (λ (x : List ℕ × Leasing). left_by (applied (lease_changes rows x.0 due.source.name x.1) rows) waiting now < left_by rows waiting now)
      (λ i. (ap (λ (about : Subscription). about.name) (sym is.subscription) i, sym lease.is i))
      (less_due rows _ waiting now (ap (flat_map pairs_of) (leasing_later rows is.listed.subscription.name due.source.name (Leases lease.lease)).listed) fell)

  -- what the answer leaves that is taken for that of a request
  pub taken_falls : (w : Waiting) (answer : Response) (given : Leasing) → LastsFor due.subscription.expires answer → is_leased (answered_of answer) ≡ true →
      first_of id (with_waiting waiting (waits_for rows (id_of_value id) due)) ≡ Some w → leasing_of answer w.wants now ≡ Some given →
      left_by (applied (lease_changes rows w.sub w.source given) rows) (without_first id (with_waiting waiting (waits_for rows (id_of_value id) due))) now < left_by rows waiting now
  taken_falls w answer given lasts on found gives =
      let new = waits_for rows (id_of_value id) due in
      let wish = wish_due rows waiting now is.listed due.source due.wants is.is in
      let free = ap (λ (about : Subscription). is_waiting waiting about.name due.source.name) is.subscription ∙ wish.free in
      elim (answer_taken rows new (is.listed, due.source) is.among place waiting free) [
        | inl own ↦ own_taken own
        | inr less ↦ less_behind rows _ waiting _ now (ap (flat_map pairs_of) (leasing_later rows w.sub w.source given).listed) less
      ]
    where
      own_taken : (first_of id (with_waiting waiting (waits_for rows (id_of_value id) due)) ≡ Some (waits_for rows (id_of_value id) due))
          × (without_first id (with_waiting waiting (waits_for rows (id_of_value id) due)) ≡ waiting) →
          left_by (applied (lease_changes rows w.sub w.source given) rows) (without_first id (with_waiting waiting (waits_for rows (id_of_value id) due))) now < left_by rows waiting now
      own_taken own =
          let new = waits_for rows (id_of_value id) due in
          let one : new ≡ w = same_Some new w (sym own.0 ∙ found) in
          let wants : w.wants ≡ due.wants = ap (λ (x : Waiting). x.wants) (sym one) ∙ wants_own rows (id_of_value id) due in
          let lease = leases_for answer due.wants now due.subscription.expires given lasts on (ap (λ (x : Wants). leasing_of answer x now) (sym wants) ∙ gives) in
          subst (λ (x : Waiting × List Waiting). left_by (applied (lease_changes rows x.0.sub x.0.source given) rows) x.1 now < left_by rows waiting now)
          (λ i. (one i, sym own.1 i)) (own_lease given lease)

-- ---- at the open collector

-- what a turn leaves that goes on
abbrev Falls : ℕ → State × Bool → Type 0
Falls left x = x.1 ≡ true → requests_left x.0 < left

-- a collector that runs is open
open_is : (c : Collector) (memory : Memory) → c.memory ≡ Some memory → collector_opened c ≡ c
open_is c memory runs = ap (λ (o : Option Memory). opened_by c (memory_begun c.rows) (boot_effect c.rows) o) runs

-- what is done there, and whether it leases
answer_at_open : (x : State) (memory : Memory) (relates : MessageId) (answer : Response) → x.collector.memory ≡ Some memory →
    ◌≡◌ {A = State × Bool} (at_collector x (response_at relates answer), leases_in x relates answer) (response_at relates answer memory x, leases_where_runs x relates answer (Some memory))
answer_at_open x memory relates answer runs =
    let opened = open_is x.collector memory runs in
    let now : with_opened x ≡ x = ap (with_collector x) opened in
    let remembers : (collector_opened x.collector).memory ≡ Some memory = ap (λ (c : Collector). c.memory) opened ∙ runs in
    λ i. (where_runs (now i) (remembers i) (response_at relates answer), leases_where_runs (now i) relates answer (remembers i))

done_by : (how : Fate) → is_done how ≡ true → how ≡ Done
done_by Done is = refl
done_by Failed is = cc
done_by Stopped is = cc

-- what is left where the changes of an answer are kept
left_behind : (x : State) (changes : List Change) (id : ℕ) (memory : Memory) → x.collector.memory ≡ Some memory → fate x.collector.armed changes ≡ Done →
    requests_left (response_by x (Some id) (Ok changes)) ≡ left_by (applied changes x.collector.rows) (without_first id memory.waiting) x.moment
left_behind x changes id memory runs done =
    let still : cond (is_stopped (fate x.collector.armed changes)) None x.collector.memory ≡ Some memory = (λ i. cond (is_stopped (done i)) None x.collector.memory) ∙ runs in
    λ i. left_by (done_leaves x.collector.armed changes x.collector.rows done i) (waiting_in (option_map (answered_in (Some id)) (still i))) x.moment

-- What is so of the world in which an answer is taken: its collector runs with these rows, and waits for the answer.
record IsAsked (now x : State) (memory : Memory) : Type 0 where
  rows : x.collector.rows ≡ now.collector.rows
  moment : x.moment ≡ now.moment
  runs : x.collector.memory ≡ Some memory

module _ (now : State) (memory : Memory) (kept : IsKept now) (due : Due) (is : IsPairDue now.collector.rows memory.waiting now.moment (pairs now.collector.rows) due) where
  -- the collector, once it asked for what is due
  abbrev asks_for : Memory
  asks_for = asked_in (request_for now.collector.rows host (reply_id memory) due) memory

  -- how much is left before
  abbrev before_it : ℕ
  before_it = left_by now.collector.rows memory.waiting now.moment

  answer_falls : (x : State) (answer : Response) → IsAsked now x asks_for → LastsFor due.subscription.expires answer →
      Falls before_it (at_collector x (response_at (reply_id memory) answer), leases_in x (reply_id memory) answer)
  answer_falls x answer asked lasts =
      subst (Falls before_it) (sym (answer_at_open x asks_for (reply_id memory) answer asked.runs)) (by_waiting (first_of (ids.next_id memory.ids) asks_for.waiting) refl)
    where
      by_changes : (w : Waiting) (given : Leasing) → first_of (ids.next_id memory.ids) asks_for.waiting ≡ Some w → leasing_of answer w.wants x.moment ≡ Some given →
          Falls before_it (
            response_by x (Some (ids.next_id memory.ids)) (Ok (lease_changes x.collector.rows w.sub w.source given)),
            is_done (fate x.collector.armed (lease_changes x.collector.rows w.sub w.source given)) && is_leased (answered_of answer),
          )
      by_changes w given found gives on =
          let changes = lease_changes x.collector.rows w.sub w.source given in
          let parts = and_parts (is_done (fate x.collector.armed changes)) (is_leased (answered_of answer)) on in
          let left = left_behind x changes (ids.next_id memory.ids) asks_for asked.runs (done_by (fate x.collector.armed changes) parts.0) in
          let fell = taken_falls now.collector.rows memory.waiting now.moment kept.keys (ids.next_id memory.ids) due is w answer given lasts parts.1 found
          (ap (leasing_of answer w.wants) (sym asked.moment) ∙ gives) in
          subst (λ (n : ℕ). n < before_it)
          (sym (left ∙ (λ i. left_by (applied (lease_changes (asked.rows i) w.sub w.source given) (asked.rows i)) (without_first (ids.next_id memory.ids) asks_for.waiting) (asked.moment i)))) fell

      by_leasing : (w : Waiting) → first_of (ids.next_id memory.ids) asks_for.waiting ≡ Some w → (given : Option Leasing) → leasing_of answer w.wants x.moment ≡ given →
          Falls before_it (response_by x (Some (ids.next_id memory.ids)) (leasing_effect x.collector.rows w given), leasing.leases x answer (leasing_effect x.collector.rows w given))
      by_leasing w found None gives = λ on. cc
      by_leasing w found (Some given) gives = by_changes w given found gives

      by_waiting : (found : Option Waiting) → first_of (ids.next_id memory.ids) asks_for.waiting ≡ found →
          Falls before_it (
            response_by x (Some (ids.next_id memory.ids)) (waiting_effect found answer x.moment x.collector.rows),
            leasing.leases x answer (waiting_effect found answer x.moment x.collector.rows),
          )
      by_waiting None none = λ on. cc
      by_waiting (Some w) found = by_leasing w found (leasing_of answer w.wants x.moment) refl

-- ---- a turn

-- a turn behind its step, and behind the delivery of what that sent
abbrev turned_by : State → State → State × Bool
turned_by asked taken = (follow asked taken, leases taken (newest asked taken))

-- one in which nothing is answered ends the requests
unanswered : (left : ℕ) (asked taken : State) → taken.messages ≡ asked.messages → Falls left (turned_by asked taken)
unanswered left asked taken same on =
    let off : leases taken (newest asked taken) ≡ false = ap (leases taken) (newest_none asked taken same) in
    let wrong : true ≡ false = sym on ∙ off in
    cc

answered : (left : ℕ) (asked taken : State) (m : Message) → taken.messages ≡ asked.messages ++ m ∷ [] → Falls left (taken_by taken m, leases taken (Some m)) → Falls left (turned_by asked taken)
answered left asked taken m more falls = subst (λ (o : Option Message). Falls left (deliver_message taken o, leases taken o)) (sym (newest_some asked taken m more)) falls

-- What an opening of a source leaves as it is.
record IsSame (before after : State) : Type 0 where
  messages : after.messages ≡ before.messages
  collector : after.collector ≡ before.collector
  moment : after.moment ≡ before.moment

-- a request that was sent is delivered
request_falls : (now : State) (memory : Memory) → IsKept now → (due : Due) → IsPairDue now.collector.rows memory.waiting now.moment (pairs now.collector.rows) due →
    (asked : State) → IsAsked now asked (asked_in (request_for now.collector.rows host (reply_id memory) due) memory) →
    Falls (left_by now.collector.rows memory.waiting now.moment) (turned_by asked (taken_by asked (request_message (request_for now.collector.rows host (reply_id memory) due))))
request_falls now memory kept due is asked is_asked =
    at_source_any asked s (responds_at s id (identifier_of due.wants) asks) (IsSame asked) (λ (x : State). Falls left (turned_by asked x)) (unanswered left asked asked refl)
    (λ slot there. record { messages = refl; collector = refl; moment = refl }) (λ x opened. unanswered left asked x opened.messages)
    (λ x slot end opened was there runs.
    let says = request_said (identifier_of due.wants) asks x.moment end in
    let done = request_done (identifier_of due.wants) asks x.moment end in
    by_answer x opened (with_end x s slot (answered_by done says)) refl refl refl (responded done says)
    (responds_for due.subscription.expires done says (says_for now.collector.rows due.subscription due.source.name due.wants x.moment end)))
  where
    s : List ℕ
    s = due.source.name

    id : MessageId
    id = reply_id memory

    asks : Body
    asks = body_for now.collector.rows host due.subscription due.source.name due.wants

    left : ℕ
    left = left_by now.collector.rows memory.waiting now.moment

    by_answer : (x : State) → IsSame asked x → (after : State) → after.messages ≡ x.messages → after.collector ≡ x.collector → after.moment ≡ x.moment →
        (o : Option (MessageId × Response)) → IfSome o (λ (r : MessageId × Response). LastsFor due.subscription.expires r.1) →
        Falls (left_by now.collector.rows memory.waiting now.moment) (turned_by asked (with_sent after (option_map (response_message due.source.name (reply_id memory)) o)))
    by_answer x opened after same collector moment None lasts = unanswered left asked after (same ∙ opened.messages)
    by_answer x opened after same collector moment (Some r) lasts =
        let m : Message = response_message s id r in
        answered left asked (with_message after m) m (ap (λ (messages : List Message). messages ++ m ∷ []) (same ∙ opened.messages))
        (answer_falls now memory kept due is (with_message after m) r.1 (record {
          rows = ap (λ (c : Collector). c.rows) (collector ∙ opened.collector) ∙ is_asked.rows;
          moment = moment ∙ opened.moment ∙ is_asked.moment;
          runs = ap (λ (c : Collector). c.memory) (collector ∙ opened.collector) ∙ is_asked.runs;
        }) lasts)

-- ---- an opening leaves what is to be requested

-- so do rows with the same pairs and leases
left_alike : (rows other : Rows) (waiting : List Waiting) (now : ℕ) → pairs other ≡ pairs rows → ((u s : List ℕ) → lease_at other u s ≡ lease_at rows u s) →
    left_by other waiting now ≡ left_by rows waiting now
left_alike rows other waiting now same leases =
    λ i. behind_alike rows other waiting same i * (length (same i) + 1)
    + length (filter (λ (pair : Pair). is_some (cond (is_waiting waiting pair.0.subscription.name pair.1.name) None
    (wanted_at pair.1 (due_for pair.0.live now pair.0.subscription.expires (leases pair.0.subscription.name pair.1.name i))))) (same i))

booted_leases : (rows : Rows) (cell : Cell) (u s : List ℕ) → lease_at (finite.insert rows boot_key cell) u s ≡ lease_at rows u s
booted_leases rows cell u s = ap (option_map lease_of) (finite.get-insert key_cmp_total rows boot_key cell (lease_key u s))

abbrev changes_of : Effect → List Change
changes_of (Ok changes) = changes
changes_of (Err fault) = []

opened_left : (state : State) (memory : Memory) → (with_opened state).collector.memory ≡ Some memory →
    left_by (with_opened state).collector.rows memory.waiting state.moment ≡ requests_left state
opened_left state memory runs = by_memory state.collector.memory refl runs
  where
    fresh : Memory
    fresh = memory_begun state.collector.rows

    started : (t : Bool) → cond t (Some (memory_begun state.collector.rows)) None ≡ Some memory → memory_begun state.collector.rows ≡ memory
    started true is = same_Some (memory_begun state.collector.rows) memory is
    started false is = absurd (none-some memory is)

    by_effect : state.collector.memory ≡ None → (effect : Effect) → effect ≡ boot_effect state.collector.rows →
        (starts state.collector (memory_begun state.collector.rows) effect).memory ≡ Some memory →
        left_by (starts state.collector (memory_begun state.collector.rows) effect).rows memory.waiting state.moment ≡ left_by state.collector.rows [] state.moment
    by_effect closed (Err fault) effect runs_now = absurd (none-some memory (sym closed ∙ runs_now))
    by_effect closed (Ok changes) effect runs_now =
        let rows = state.collector.rows in
        let begun = started (is_done (fate state.collector.armed changes)) runs_now in
        let boots : changes ≡ boot_changes rows = boots_by (nat_lt (boot_of rows) MAX) effect in
        ap (λ (m : Memory). left_by (committed state.collector.armed changes rows) m.waiting state.moment) (sym begun)
        ∙ ap (λ (these : List Change). left_by (committed state.collector.armed these rows) [] state.moment) boots
        ∙ left_alike rows (committed state.collector.armed (boot_changes rows) rows) [] state.moment
        (ap (flat_map pairs_of) (committed_later state.collector.armed (boot_changes rows) rows (booting_later rows)).listed)
        (committed_both (λ (other : Rows). (u s : List ℕ) → lease_at other u s ≡ lease_at rows u s) state.collector.armed (boot_changes rows) rows (λ u s. refl)
        (booted_leases rows (record { value = boot_of rows + 1; body = [] })))
      where
        boots_by : (t : Bool) → ◌≡◌ {A = Effect} (Ok changes) (cond t (Ok (boot_changes state.collector.rows)) (Err collector_faults.Full)) → changes ≡ boot_changes state.collector.rows
        boots_by true is = ap (λ (x : Effect). changes_of x) is
        boots_by false is = cc

    by_memory : (o : Option Memory) → state.collector.memory ≡ o → (opened_by state.collector (memory_begun state.collector.rows) (boot_effect state.collector.rows) o).memory ≡ Some memory →
        left_by (opened_by state.collector (memory_begun state.collector.rows) (boot_effect state.collector.rows) o).rows memory.waiting state.moment
        ≡ left_by state.collector.rows (waiting_in o) state.moment
    by_memory None closed runs_now = by_effect closed (boot_effect state.collector.rows) refl runs_now
    by_memory (Some own) is runs_now = ap (λ (m : Memory). left_by state.collector.rows m.waiting state.moment) (sym (same_Some own memory (sym is ∙ runs_now)))

-- ---- all turns

-- a world whose open collector asks for what is due
abbrev due_asked : State → Memory → Option Due → State
due_asked now memory due = request_by now memory (option_map (request_for now.collector.rows host (reply_id memory)) due)

quiet_turn : (left : ℕ) (state asked : State) → asked.messages ≡ state.messages → Falls left (turned_by asked (follow state asked))
quiet_turn left state asked same =
    subst (λ (o : Option Message). Falls left (turned_by asked (deliver_message asked o))) (sym (newest_none state asked same)) (unanswered left asked asked refl)

pub requests_fall : (state : State) → IsHeld state → (request_turn state).1 ≡ true → requests_left (request_turn state).0 < requests_left state
requests_fall state held =
    at_collector_any state request_at (λ (asked : State). Falls (requests_left state) (turned_by asked (follow state asked))) (quiet_turn (requests_left state) state now refl)
    (λ memory runs. by_due memory runs (next_due now.collector.rows memory.waiting now.moment) (next_is_due now.collector.rows memory.waiting now.moment))
  where
    now : State
    now = with_opened state

    by_due : (memory : Memory) → (with_opened state).collector.memory ≡ Some memory → (due : Option Due) →
        IfSome due (IsPairDue (with_opened state).collector.rows memory.waiting (with_opened state).moment (pairs (with_opened state).collector.rows)) →
        Falls (requests_left state) (turned_by (due_asked (with_opened state) memory due) (follow state (due_asked (with_opened state) memory due)))
    by_due memory runs None is = quiet_turn (requests_left state) state (with_opened state) refl
    by_due memory runs (Some due) is =
        let r : Request = request_for now.collector.rows host (reply_id memory) due in
        let asked : State = due_asked (with_opened state) memory (Some due) in
        subst (λ (o : Option Message). Falls (requests_left state) (turned_by asked (deliver_message asked o))) (sym (newest_some state asked (request_message r) refl))
        (subst (λ (n : ℕ). Falls n (turned_by asked (taken_by asked (request_message r)))) (opened_left state memory runs)
        (request_falls now memory (opened_held lower state held).kept due is asked (record { rows = refl; moment = refl; runs = refl })))
