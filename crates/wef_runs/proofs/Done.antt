-- The deeds of a run, by its account, and what any runs keep.
use Rattle.std.proofs.Common.{◌≡◌, ◌⊎◌, inl, inr, ℕ, List, [], ◌∷◌, ◌++◌, ap, refl, subst}
use Rattle.std.specs.Prelude.{Option, Some, None, Result, Ok, Err}
use Rattle.wef_cli.specs.Leaving.{Says}
use Rattle.wef_cli.specs.Runs.{Peers}
use Rattle.wef_command_line.specs.declared.command.Command.{Command}
use Rattle.wef_command_line.specs.declared.command.Command.TheVariants as the
use Rattle.wef_collector.specs.Boots.{memory_begun}
use Rattle.wef_collector.specs.Asking.{next_request}
use Rattle.wef_collector.specs.Calls.{boot_effect, no_effect}
use Rattle.wef_collector.specs.Memories.{waiting_for}
use Rattle.wef_collector.specs.Responses.{answered_of, waiting_effect}
use Rattle.wef_collector.specs.declared.asking.Request.{Request}
use Rattle.wef_collector.specs.declared.memories.Memory.{Memory}
use Rattle.wef_collector.specs.declared.responses.Answered.{Answered}
use Rattle.wef_collector.specs.declared.responses.Response.{Response}
use Rattle.wef_collector_rows.specs.Faults.{collector_store}
use Rattle.wef_collector_rows.specs.declared.faults.CollectorFault.{CollectorFault}
use Rattle.wef_collector_rows.specs.declared.faults.CollectorFault.TheVariants as faults
use Rattle.wef_collector_serving.specs.ByRows.{AnswersBy, Kept, LeavesBy}
use Rattle.wef_commands.proofs.ByRows.{boot_made, boot_room}
use Rattle.wef_commands.specs.Endings.{Told}
use Rattle.wef_commands.specs.Laws.{StartsAtMost, started}
use Rattle.wef_commands.specs.declared.ending.Ending.{Ending}
use Rattle.wef_commands.specs.declared.ending.Ending.TheVariants as ends
use Rattle.wef_connections.specs.Opening.{with_address}
use Rattle.wef_front_collector.specs.HeardResponses as responses
use Rattle.wef_front_collector.specs.HeardResponses.{response_told}
use Rattle.wef_front_collector.specs.declared.listening.Hears as listening
use Rattle.wef_ids.specs.declared.MessageId.{MessageId}
use Rattle.wef_keeper.specs.Calls.{MayLeave}
use Rattle.wef_keeper.proofs.Going.{may_leave}
use Rattle.wef_keeper.specs.Keeping.{Store}
use Rattle.wef_keeper.specs.Rows.{Rows}
use Rattle.wef_machine.specs.Collecting.{reply_id}
use Rattle.wef_ports.specs.Telling as ports
use Rattle.wef_requesting.specs.ByRows as requesting
use Rattle.wef_requesting.specs.ByRows.{AsksOver, GetsOver, HearsOver, OutcomesOver, RequestsOver, SendsOver, TakesOver}
use Rattle.wef_requesting.specs.declared.requesting.Outcome.{Outcome}
use Rattle.wef_requesting.specs.declared.requesting.RequestFault.{RequestFault}
use Rattle.wef_requesting.specs.declared.requesting.RequestFault.TheVariants as request_faults
use Rattle.wef_requesting.specs.declared.requesting.Sent.{Sent}
use Rattle.wef_running.specs.ByRows.{AreServedBy, CollectSays, IsNotStarted, begun}
use Rattle.wef_running.specs.ByRows.{none_by, one_by}
use Rattle.wef_running.specs.Collecting.{ListeningEndsBy, ServingEndsBy, TellingEndsBy, listening_line}
use Rattle.wef_serving.specs.Serving.{AnswersAt, LeavesAt, Responds, RespondsInTurn}
use Rattle.wef_serving.specs.Serving.{to_none, to_one_more}
use Rattle.wef_serving.specs.declared.ends.ConnectionEnd.{ConnectionEnd}
use Rattle.wef_subscribing.specs.ByRows.{IsAsking, IsRequestedOver, RequestSays}
use Rattle.wef_subscribing.specs.Requesting.{AreRequestedBy, EndsAtBy, StopsBy}
use Rattle.wef_runs.proofs.Taken.{all_keep, all_later, all_stay, both_keep, both_stay, cut_stays}
use Rattle.wef_runs.specs.Deeds.{AreDone, Deed, Does, Stay}
use Rattle.wef_runs.specs.Deeds.{Starts, Answers, Leaves, Takes}
use Rattle.wef_runs.specs.Laws.{AreKept, CollectorRunsAreDeeds, RunsKeepTaken, TakenStaysKept}
use Rattle.wef_runs.specs.Runs.{HaveRun, OfCollector, asking, deeds_answered, deeds_asked, deeds_asking, deeds_at_end, deeds_back, deeds_behind, deeds_by, deeds_collected, deeds_in_turn, deeds_listening, deeds_next, deeds_of, deeds_of_connections, deeds_of_request, deeds_of_sent, deeds_requested, deeds_sent, deeds_served, deeds_stopping, deeds_told}
use Rattle.wef_runs.specs.Runs.{none_run, one_ended, one_killed}

-- ---- deeds joined

joined : (first next : List Deed) (found mid last : Rows) → AreDone first found mid → AreDone next mid last → AreDone (first ++ next) found last
joined [] next found mid last same are = subst (λ (rows : Rows). AreDone next rows last) same are
joined (deed ∷ first) next found mid last (then_on, does, before) are = (then_on, does, joined first next then_on mid last before are)

alone : (deed : Deed) (found last : Rows) → Does deed found last → AreDone (deed ∷ []) found last
alone deed found last does = (last, does, refl)

-- ---- `collect`

module _ (final : Rows) (clock : Option ℕ) where
  request_done : (k l : Kept) (responds : Responds (AnswersAt clock (AnswersBy final)) (LeavesAt clock LeavesBy) k l) → AreDone (deeds_of_request final clock responds) k.rows l.rows
  request_done k l (request, inl (moment, told, inl same)) = ap (λ (kept : Kept). kept.rows) same
  request_done k l (request, inl (moment, told, inr (heard, hears, left))) = alone (Leaves heard moment) k.rows l.rows left.rows
  request_done k l (request, inr (answer, (moment, told, (heard, hears, is)))) = alone (Answers request.host heard moment (reply_id k.memory) is.said) k.rows l.rows is.goes

  turns_done : {k l : Kept} (turns : RespondsInTurn (AnswersAt clock (AnswersBy final)) (LeavesAt clock LeavesBy) k l) → AreDone (deeds_in_turn final clock turns) k.rows l.rows
  turns_done (to_none k) = refl
  turns_done (to_one_more k l m before last) = joined (deeds_in_turn final clock before) (deeds_of_request final clock last) k.rows l.rows m.rows (turns_done before) (request_done l m last)

  connections_done : {f g : ports.Told} {k l : Kept} {es : List ConnectionEnd} (served : AreServedBy final clock f k es g l) → AreDone (deeds_of_connections final clock served) k.rows l.rows
  connections_done (none_by f k) = refl
  connections_done (one_by f g h k l m e es is more) =
      joined (deeds_in_turn final clock is.answered) (deeds_of_connections final clock more) k.rows l.rows m.rows (turns_done is.answered) (connections_done more)

  served_done : (told : List ℕ) (count : ℕ) (ending : Ending) (out : Told) (f g : ports.Told) (k l : Kept) (serves : ServingEndsBy (AreServedBy final clock) told count ending out f k g l)
      → AreDone (deeds_served final clock told count ending out f g k l serves) k.rows l.rows
  served_done told count ends.Done out f g k l (es, all, are) = connections_done are.served
  served_done told count ends.ListeningFailed out f g k l (es, few, h, are, refuses, rose, counted) = connections_done are.served
  served_done told count ends.NoMemory out f g k l last = connections_done last.served
  served_done told count ends.OutputFailed out f g k l (failed, bytes, last) = connections_done last.served
  served_done told count _ out f g k l none = absurd none

  told_done : (told : List ℕ) (count : ℕ) (ending : Ending) (out : Told) (f g : ports.Told) (k l : Kept) (tells : TellingEndsBy (AreServedBy final clock) told count ending out f k g l)
      → AreDone (deeds_told final clock told count ending out f g k l tells) k.rows l.rows
  told_done told count ending out f g k l (inl (is, failed, part, front, same)) = ap (λ (kept : Kept). kept.rows) same
  told_done told count ending out f g k l (inr serves) = served_done told count ending out f g k l serves

  listening_done : (address : List ℕ) (count : ℕ) (ending : Ending) (out : Told) (f g : ports.Told) (k l : Kept) (listens : ListeningEndsBy (AreServedBy final clock) address count ending out f k g l)
      → AreDone (deeds_listening final clock address count ending out f g k l listens) k.rows l.rows
  listening_done address count ending out f g k l (inl (is, refuses, unwritten, same)) = ap (λ (kept : Kept). kept.rows) same
  listening_done address count ending out f g k l (inr tells) = told_done (listening_line address) count ending out (with_address address f) g k l tells

-- a start that isn't done leaves the rows, or has raised the boot number
start_cut : (found last : Rows) → MayLeave boot_effect last found → StartsAtMost found last
start_cut found last (inl same) = inl same
start_cut found last (inr made) = inr (boot_room found last made, boot_made found last made)

unstarted : (ending : Ending) (out : Told) (f g : ports.Told) (found last : Rows) → IsNotStarted ending out f g found last → StartsAtMost found last
unstarted ending out f g found last (unwritten, front, inl (is, same)) = inl same
unstarted ending out f g found last (unwritten, front, inr (fault, is, of_start, goes)) = start_cut found last (may_leave collector_store boot_effect memory_begun (Err fault) found last goes)

-- ---- `request`

-- an answer that is taken leaves the rows, or has changed them
taken_cut : (done : Result Answered CollectorFault) (relates : MessageId) (answer : Response) (moment : ℕ) (memory memory_now : Memory) (found left : Rows)
    → TakesOver done relates answer moment memory memory_now found left → MayLeave (waiting_effect (waiting_for memory relates.value) answer moment) left found
taken_cut done relates answer moment memory memory_now found left takes =
    may_leave collector_store (waiting_effect (waiting_for memory relates.value) answer moment) (λ _. answered_of answer) done found left takes.0

told_back : (o : Option responses.Told) (h : listening.Hears) (moment : ℕ) (memory memory_now : Memory) (found left : Rows) → HearsOver o h moment memory memory_now found left
    → AreDone (deeds_answered memory moment o) found left
told_back None h moment memory memory_now found left (unread, kept, same) = same
told_back (Some t) h moment memory memory_now found left (done, takes, known, is) =
    alone (Takes (waiting_for memory t.0.value) t.1 moment) found left (taken_cut done t.0 t.1 moment memory memory_now found left takes)

back_done : (envelope : Option (List ℕ)) (h : Option listening.Hears) (moment : ℕ) (memory memory_now : Memory) (found left : Rows) → GetsOver envelope moment memory memory_now found left h
    → AreDone (deeds_back memory moment envelope) found left
back_done None h moment memory memory_now found left (none, kept, same) = same
back_done (Some envelope) made moment memory memory_now found left (h, hears, is) = told_back (response_told moment envelope) h moment memory memory_now found left hears

behind_done : (r : Request) (moment : ℕ) (before now : requesting.Kept) (result : Result Outcome RequestFault) (outcomes : OutcomesOver r moment before now result)
    → AreDone (deeds_behind r moment before now result outcomes) before.rows now.rows
behind_done r moment before now (Ok outcome) (envelope, made, (h, gets, is)) = back_done envelope h moment before.memory now.memory before.rows now.rows gets
behind_done r moment before now (Err request_faults.StoreFailed) (envelope, made, (h, gets, is)) = back_done envelope h moment before.memory now.memory before.rows now.rows gets
behind_done r moment before now (Err request_faults.LinkFailed) broken = broken.2
behind_done r moment before now (Err request_faults.NoMemory) (inl broken) = broken.2
behind_done r moment before now (Err request_faults.NoMemory) (inr (None, made, none)) = absurd none
behind_done r moment before now (Err request_faults.NoMemory) (inr (Some envelope, made, inl same)) = same.1
behind_done r moment before now (Err request_faults.NoMemory) (inr (Some envelope, made, inr (relates, answer, told, takes))) =
    alone (Takes (waiting_for before.memory relates.value) answer moment) before.rows now.rows (taken_cut (Err faults.NoMemory) relates answer moment before.memory now.memory before.rows now.rows takes)

-- the request that is due, or none: no row changes
due_same : (host : List ℕ) (moment : ℕ) (asked : Result (Option Request) CollectorFault) (memory memory_now : Memory) (found left : Rows) → AsksOver host moment asked memory memory_now found left → left ≡ found
due_same host moment asked memory memory_now found left asks =
    by (may_leave collector_store no_effect (λ rows. next_request rows memory.waiting memory.ids host moment) asked found left asks.0)
  where
    by : MayLeave no_effect left found → left ≡ found
    by (inl same) = same
    by (inr made) = made

module _ (host : List ℕ) (moment : ℕ) where
  sent_done : (r : Request) (result : Result Outcome RequestFault) (before now : requesting.Kept) (is : SendsOver host moment r before now result)
      → AreDone (deeds_sent host moment r result before now is) before.rows now.rows
  sent_done r result before now is = (
    is.rows,
    (due_same host moment (Ok (Some r)) before.memory is.memory before.rows is.rows is.asks, (before.memory.waiting, before.memory.ids, is.asks.0.1)),
    behind_done r moment (record { rows = is.rows; memory = is.memory; link = before.link }) now result is.outcomes,
  )

  next_done : (result : Result (Option Sent) RequestFault) (before now : requesting.Kept) (requests : RequestsOver host moment before now result)
      → AreDone (deeds_next host moment result before now requests) before.rows now.rows
  next_done (Ok None) before now none = due_same host moment (Ok None) before.memory now.memory before.rows now.rows none.0
  next_done (Ok (Some sent)) before now is = sent_done sent.request (Ok sent.outcome) before now is
  next_done (Err fault) before now (inl (refusal, none, is)) = due_same host moment (Err refusal) before.memory now.memory before.rows now.rows none.0
  next_done (Err fault) before now (inr (r, is)) = sent_done r (Err fault) before now is

module _ (host : List ℕ) (clock : Option ℕ) where
  requested_done : (result : Result (Option Sent) RequestFault) (before now : requesting.Kept) (is : IsRequestedOver clock host result before now)
      → AreDone (deeds_requested host clock result before now is) before.rows now.rows
  requested_done result before now is = next_done host is.moment result before now is.requests

  all_requested : (xs : List Sent) (before now : requesting.Kept) (are : AreRequestedBy (IsRequestedOver clock host) xs before now) → AreDone (deeds_of_sent host clock xs before now are) before.rows now.rows
  all_requested [] before now same = ap (λ (kept : requesting.Kept). kept.rows) same
  all_requested (x ∷ xs) before now (mid, is, more) =
      joined (deeds_requested host clock (Ok (Some x)) before mid is) (deeds_of_sent host clock xs mid now more) before.rows mid.rows now.rows (requested_done (Ok (Some x)) before mid is) (all_requested xs mid now more)

  end_done : (text : List ℕ) (ending : Ending) (out : Told) (before now : requesting.Kept) (ends_so : EndsAtBy (IsRequestedOver clock host) text ending out before now)
      → AreDone (deeds_at_end host clock text ending out before now ends_so) before.rows now.rows
  end_done text ending out before now (inl (fault, is, ended, told)) = requested_done (Err fault) before now is
  end_done text ending out before now (inr (sent, is, untold)) = requested_done (Ok (Some sent)) before now is

  stopping_done : (left : ℕ) (text : List ℕ) (ending : Ending) (out : Told) (before now : requesting.Kept) (stops : StopsBy (IsRequestedOver clock host) left text ending out before now)
      → AreDone (deeds_stopping host clock left text ending out before now stops) before.rows now.rows
  stopping_done left text ending out before now (inl (inl (all, same), done)) = ap (λ (kept : requesting.Kept). kept.rows) same
  stopping_done left text ending out before now (inl (inr (some, none), done)) = requested_done (Ok None) before now none
  stopping_done left text ending out before now (inr (some, ends_so)) = end_done text ending out before now ends_so

-- ---- all commands

module _ (ending : Ending) (input out : Told) (peers : Peers) (before now : Store) (found last : Rows) where
  collected_done : (address : List ℕ) (count : ℕ) (says : CollectSays address count ending out peers.moment peers.front_before peers.front_after before now found last)
      → AreDone (deeds_collected ending input out peers before now found last address count says) found last
  collected_done address count (inl refused) = alone Starts found last (unstarted ending out peers.front_before peers.front_after found last refused)
  collected_done address count (inr is) =
      (started found, inr (is.starts, refl), listening_done last peers.moment address count ending out peers.front_before peers.front_after (begun found) (record { rows = last; memory = is.memory; errors = is.errors }) is.listens)

  asking_done : (host : List ℕ) (count : ℕ) (is : IsAsking host count ending out peers.moment peers.link_before peers.link_after found last)
      → AreDone (deeds_asking ending input out peers before now found last host count is) (started found) last
  asking_done host count is =
      let behind_all : requesting.Kept = record { rows = last; memory = is.memory; link = peers.link_after } in
      joined _ _ (started found) is.asks.mid.rows last (all_requested host peers.moment is.asks.sent (asking found peers.link_before) is.asks.mid is.asks.are_sent)
      (stopping_done host peers.moment _ _ ending out is.asks.mid behind_all is.asks.stops)

  asked_done : (host : List ℕ) (count : ℕ) (says : (last ≡ found) ⊎ RequestSays host count ending out peers.moment peers.link_before peers.link_after found last)
      → AreDone (deeds_asked ending input out peers before now found last host count says) found last
  asked_done host count (inl same) = same
  asked_done host count (inr (inl (fault, is, of_start, unwritten, unused, goes))) = alone Starts found last (start_cut found last (may_leave collector_store boot_effect memory_begun (Err fault) found last goes))
  asked_done host count (inr (inr is)) = (started found, inr (is.starts, refl), asking_done host count is)

  account_done : (command : Command) (says : Says command ending input out peers before now found last) → OfCollector command → AreDone (deeds_by ending input out peers before now found last command says) found last
  account_done the.Add (inl same) of = same
  account_done the.Add (inr (s, document, inl same)) of = same
  account_done the.Add (inr (s, document, inr (starts, left))) of = (started found, inr (starts, refl), (last, left, refl))
  account_done (the.Remove u) (inl same) of = same
  account_done (the.Remove u) (inr (starts, left)) of = (started found, inr (starts, refl), (last, left, refl))
  account_done the.List says of = alone Starts found last says
  account_done the.Show says of = alone Starts found last says
  account_done (the.Events u s c) says of = alone Starts found last says
  account_done (the.Status u) says of = alone Starts found last says
  account_done (the.Collect address count) says of = collected_done address count says
  account_done (the.Request address count) says of = asked_done address count says
  account_done _ says of = absurd of

pub run_done : CollectorRunsAreDeeds
run_done command found last run of = account_done run.ending run.input run.out run.peers run.before run.now found last command run.says of

-- ---- runs

pub run_keeps : RunsKeepTaken
run_keeps command found last run of = let done = run_done command found last run of in record { stay = all_stay (deeds_of run) found last done; taken = all_keep (deeds_of run) found last done }

-- deeds behind those of earlier runs
behind : (found mid last : Rows) (done more : List Deed) → AreKept found done mid → Stay mid last → AreKept mid more last → AreKept found (done ++ more) last
behind found mid last done more first stay next = record {
  stay = both_stay found mid last first.stay stay;
  taken = both_keep last done more (all_later mid last stay done first.taken) next.taken;
}

pub all_kept : TakenStaysKept
all_kept found last done runs = by runs
  where
    by : {found : Rows} {done : List Deed} {last : Rows} → HaveRun found done last → AreKept found done last
    by (none_run rows) = record { stay = all_stay [] rows rows refl; taken = tt }
    by (one_ended found mid last done command run before of) =
        let here = run_keeps command mid last run of in behind found mid last done (deeds_of run) (by before) here.stay here
    by (one_killed found mid left last whole done front rest deed command run before of are front_done cut) =
        let stay = cut_stays left last deed cut in
        let here : AreKept mid front last = record { stay = both_stay mid left last (all_stay front mid left front_done) stay; taken = all_later left last stay front (all_keep front mid left front_done) } in
        behind found mid last done front (by before) here.stay here
