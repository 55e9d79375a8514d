-- What the collector asks, and what it hears of leases, keeps what is kept.
use Rattle.std.proofs.Common.{◌≡◌, ℕ, ◌+◌, ◌≤◌, Bool, true, false, List, refl, arith}
use Rattle.std.specs.List.{AllByRecursion}
use Rattle.std.specs.Prelude.{Option, Some, None, Ok, Err, IfSome}
use Rattle.wef_collector.specs.Asking.{identifier_of, next_request}
use Rattle.wef_collector.specs.Memories.{waiting_for}
use Rattle.wef_collector.specs.Responses.{lease_changes, leasing_effect, leasing_of, waiting_effect}
use Rattle.wef_collector.specs.declared.asking.Request.{Request}
use Rattle.wef_collector.specs.declared.memories.Memory.{Memory}
use Rattle.wef_collector.specs.declared.responses.Leasing.{Leasing}
use Rattle.wef_collector.specs.declared.responses.Leasing.TheVariants.{Leases, Clears, Stays}
use Rattle.wef_collector.specs.declared.responses.Response.{Response}
use Rattle.wef_collector.specs.declared.responses.Response.TheVariants as response
use Rattle.wef_collector_leases.specs.Changes.{end_lease, release_changes}
use Rattle.wef_collector_leases.specs.declared.leases.Wants.{Wants}
use Rattle.wef_collector_leases.specs.declared.leases.Wants.TheVariants.{Subscribes, Renews, Unsubscribes}
use Rattle.wef_collector_leases.specs.declared.waiting.Waiting.{Waiting}
use Rattle.wef_collector_rows.specs.Answers.{is_known}
use Rattle.wef_collector_rows.specs.Standing.{standing}
use Rattle.wef_eventing.specs.Addresses.{source_in, subscription_in}
use Rattle.wef_front_source.specs.Sending.{IsPlainText}
use Rattle.wef_ids.specs.declared.FaultName.TheVariants.{DestinationUnreachable}
use Rattle.wef_ids.specs.declared.MessageId.{MessageId}
use Rattle.wef_keeper.specs.Rows.{Rows}
use Rattle.wef_keeper.specs.declared.keys.Change.{Change}
use Rattle.wef_machine.specs.Answering.{answers_by}
use Rattle.wef_machine.specs.Arming.{fate}
use Rattle.wef_machine.specs.Collecting.{reply_id}
use Rattle.wef_machine.specs.Leasing.{ended_effect, ended_effect_by, note_at, request_at, request_by, request_message, response_at, response_by}
use Rattle.wef_machine.specs.Places.{commits}
use Rattle.wef_machine.specs.States.{State, host, with_collector}
use Rattle.wef_machine.specs.Turns.{forgets_by, release_at}
use Rattle.wef_machine.specs.declared.arming.Fate.{Fate}
use Rattle.wef_machine.specs.declared.arming.Fate.TheVariants.{Done, Failed, Stopped}
use Rattle.wef_source.specs.declared.messages.EndNote.{EndNote}
use Rattle.wef_safety.specs.Kept.{IsAsked, IsAskedFor, IsKept, IsSaid}
use Rattle.wef_safety.proofs.CollectorSteps.{answered_kept, called_kept, fault_kept}
use Rattle.wef_safety.proofs.Aside.{IsAsideKept, changes_kept}
use Rattle.wef_safety.proofs.DueRequests.{due_is_asked, next_has}
use Rattle.wef_safety.proofs.LeaseRows.{HaveNames, MayStand, cleared, ended, released, replaced}
use Rattle.wef_safety.proofs.Moves.{kept_reply}

-- ---- a request

-- a request asks for what its source may be asked
abbrev MayBeSent : State → Request → Type 0
MayBeSent state r = IsAskedFor state.collector.rows r.source.name r.body

pub request_keeps : (state : State) (memory : Memory) → IsKept state → IsKept (request_at memory state)
request_keeps state memory kept =
    by (next_request state.collector.rows memory.waiting memory.ids host state.moment)
    (next_has (MayBeSent state) state.collector.rows memory.waiting memory.ids state.moment kept.keys (λ due is. due_is_asked state.collector.rows due kept.keys is))
  where
    by : (o : Option Request) → IfSome o (MayBeSent state) → IsKept (request_by state memory o)
    by None is = kept
    by (Some r) is = kept_reply state (request_message r) kept refl is

-- ---- an answer

-- A lease that begins or goes on may stand.
abbrev MayBecome : Leasing → Type 0
MayBecome (Leases lease) = MayStand lease
MayBecome Clears = Unit {0}
MayBecome Stays = Unit {0}

may_stand : (now expires : ℕ) (identifier : List ℕ) → now ≤ 253402300799999 → expires ≤ 8640000000000 → IsPlainText identifier → MayStand (record { identifier = identifier; expiry = now + expires })
may_stand now expires identifier soon lasting plain = record { identifier = plain; expiry = omega arith }

-- what an answer makes of a wish may become of a lease
leasing_may : (answer : Response) (wants : Wants) (now : ℕ) → now ≤ 253402300799999 → IsSaid answer → IfSome (identifier_of wants) IsPlainText → IfSome (leasing_of answer wants now) MayBecome
leasing_may (response.Subscribed identifier expires) Subscribes now soon said plain = may_stand now expires identifier soon said.1 said.0
leasing_may (response.Subscribed identifier expires) (Renews named) now soon said plain = tt
leasing_may (response.Subscribed identifier expires) (Unsubscribes named) now soon said plain = tt
leasing_may (response.Renewed expires) Subscribes now soon said plain = tt
leasing_may (response.Renewed expires) (Renews named) now soon said plain = may_stand now expires named soon said plain
leasing_may (response.Renewed expires) (Unsubscribes named) now soon said plain = tt
leasing_may response.Unsubscribed Subscribes now soon said plain = tt
leasing_may response.Unsubscribed (Renews named) now soon said plain = tt
leasing_may response.Unsubscribed (Unsubscribes named) now soon said plain = tt
leasing_may (response.Fault name) Subscribes now soon said plain = tt
leasing_may (response.Fault name) (Renews named) now soon said plain = tt
leasing_may (response.Fault name) (Unsubscribes named) now soon said plain = tt

leasing_is : (rows : Rows) (u s : List ℕ) (leasing : Leasing) → HaveNames u s → MayBecome leasing → AllByRecursion IsAsideKept (lease_changes rows u s leasing)
leasing_is rows u s (Leases lease) names may = replaced rows u s lease names may
leasing_is rows u s Clears names may = cleared rows u s
leasing_is rows u s Stays names may = tt

-- the answer to a request that waits, if one does
pub response_keeps : (state : State) (memory : Memory) (relates : MessageId) (answer : Response) → IsKept state → IsSaid answer → IfSome (waiting_for memory relates.value) IsAsked →
    IsKept (response_at relates answer memory state)
response_keeps state memory relates answer kept said asked = by_waiting (waiting_for memory relates.value) asked
  where
    changed : (changes : List Change) → AllByRecursion IsAsideKept changes → IsKept (response_by state relates.value (Ok changes))
    changed changes all = called_kept state changes kept (changes_kept state changes kept all)

    by_leasing : (w : Waiting) (o : Option Leasing) → IsAsked w → IfSome o MayBecome → IsKept (response_by state relates.value (leasing_effect state.collector.rows w o))
    by_leasing w None is may = kept
    by_leasing w (Some leasing) is may =
        changed (lease_changes state.collector.rows w.sub w.source leasing)
        (leasing_is state.collector.rows w.sub w.source leasing (record { subscription = is.subscription; source = is.source }) may)

    by_waiting : (o : Option Waiting) → IfSome o IsAsked → IsKept (response_by state relates.value (waiting_effect o answer state.moment state.collector.rows))
    by_waiting None is = kept
    by_waiting (Some w) is = by_leasing w (leasing_of answer w.wants state.moment) is (leasing_may answer w.wants state.moment kept.soon said is.identifier)

-- ---- an end

never : false ≡ true → ⊥
never e = cc

pub note_keeps : (state : State) (memory : Memory) (s : List ℕ) (note : EndNote) → IsKept state → IsKept (note_at s note memory state)
note_keeps state memory s note kept = by_names (subscription_in note.end_to) (source_in note.end_to)
  where
    refused : IsKept (answers_by state (Err DestinationUnreachable) false s (reply_id memory) note.id)
    refused = fault_kept state s (reply_id memory) note.id DestinationUnreachable kept

    by_known : (u r : List ℕ) (known : Bool) → IsKept (answers_by state (ended_effect_by state.collector.rows u r note.identifier known) false s (reply_id memory) note.id)
    by_known u r true =
        let changes = end_lease state.collector.rows u r note.identifier in
        answered_kept state changes false s (reply_id memory) note.id
        (called_kept state changes kept (changes_kept state changes kept (ended state.collector.rows u r note.identifier))) (λ wanted. absurd (never wanted))
    by_known u r false = refused

    by_names : (u r : Option (List ℕ)) → IsKept (answers_by state (ended_effect state.collector.rows u r note.identifier) false s (reply_id memory) note.id)
    by_names None None = refused
    by_names None (Some r) = refused
    by_names (Some u) None = refused
    by_names (Some u) (Some r) = by_known u r (is_known (standing state.collector.rows u))

-- ---- no lease stands any longer

pub release_keeps : (state : State) (memory : Memory) → IsKept state → IsKept (release_at memory state)
release_keeps state memory kept = by_fate (fate state.collector.armed (release_changes state.collector.rows))
  where
    after : IsKept (with_collector state (commits state.collector (release_changes state.collector.rows)))
    after = called_kept state (release_changes state.collector.rows) kept (changes_kept state (release_changes state.collector.rows) kept (released state.collector.rows))

    by_fate : (how : Fate) → IsKept (with_collector state (forgets_by how (commits state.collector (release_changes state.collector.rows))))
    by_fate Done = after
    by_fate Failed = after
    by_fate Stopped = after
