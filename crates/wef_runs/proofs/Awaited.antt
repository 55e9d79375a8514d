-- What a run of a collector's command answers: each answer that it takes is to a request that it sent, or to none. So what is true of
-- each request that waits is true of the one that an answer is to.
use Rattle.std.proofs.Common.{◌≡◌, ◌⊎◌, inl, inr, ℕ, List, [], ◌∷◌, ◌++◌, ap, sym, subst, append_assoc, append-nil}
use Rattle.std.proofs.lemmas.Bool.{cond_both}
use Rattle.std.specs.List.{AllByRecursion}
use Rattle.std.specs.Prelude.{IfSome, Option, Some, None, Result, Ok, Err}
use Rattle.wef_cli.specs.Leaving.{Says}
use Rattle.wef_cli.specs.Runs.{Peers}
use Rattle.wef_command_line.specs.declared.command.Command.{Command}
use Rattle.wef_command_line.specs.declared.command.Command.TheVariants as the
use Rattle.wef_collector.specs.Asking.{waiting_of}
use Rattle.wef_collector.specs.Memories.{answered_in, ends_waiting, memory_answered, waiting_for}
use Rattle.wef_collector.specs.declared.asking.Request.{Request}
use Rattle.wef_collector.specs.declared.memories.Memory.{Memory}
use Rattle.wef_collector.specs.declared.responses.Answered.{Answered}
use Rattle.wef_collector_leases.specs.Waiting.{first_of, has_id, without_first}
use Rattle.wef_collector_leases.specs.declared.waiting.Waiting.{Waiting}
use Rattle.wef_collector_rows.specs.declared.faults.CollectorFault.{CollectorFault}
use Rattle.wef_collector_rows.specs.declared.faults.CollectorFault.TheVariants as faults
use Rattle.wef_collector_serving.specs.ByRows.{AnswersBy, Kept, LeavesBy}
use Rattle.wef_commands.specs.Endings.{Told}
use Rattle.wef_commands.specs.declared.ending.Ending.{Ending}
use Rattle.wef_commands.specs.declared.ending.Ending.TheVariants as ends
use Rattle.wef_connections.specs.Opening.{with_address}
use Rattle.wef_front_collector.specs.HeardResponses as responses
use Rattle.wef_front_collector.specs.HeardResponses.{response_told}
use Rattle.wef_front_collector.specs.declared.listening.Hears as listening
use Rattle.wef_keeper.specs.Keeping.{Store}
use Rattle.wef_keeper.specs.Rows.{Rows}
use Rattle.wef_ports.specs.Telling as ports
use Rattle.wef_requesting.specs.ByRows as requesting
use Rattle.wef_requesting.specs.ByRows.{GetsOver, HearsOver, OutcomesOver, RequestsOver, SendsOver}
use Rattle.wef_requesting.specs.declared.requesting.Outcome.{Outcome}
use Rattle.wef_requesting.specs.declared.requesting.RequestFault.{RequestFault}
use Rattle.wef_requesting.specs.declared.requesting.RequestFault.TheVariants as request_faults
use Rattle.wef_requesting.specs.declared.requesting.Sent.{Sent}
use Rattle.wef_running.specs.ByRows.{AreServedBy, CollectSays, begun}
use Rattle.wef_running.specs.ByRows.{none_by, one_by}
use Rattle.wef_running.specs.Collecting.{ListeningEndsBy, ServingEndsBy, TellingEndsBy, listening_line}
use Rattle.wef_safety.proofs.Asking.{asked_with}
use Rattle.wef_safety.specs.Kept.{IsAsked}
use Rattle.wef_serving.specs.Serving.{AnswersAt, LeavesAt, Responds, RespondsInTurn}
use Rattle.wef_serving.specs.Serving.{to_none, to_one_more}
use Rattle.wef_serving.specs.declared.ends.ConnectionEnd.{ConnectionEnd}
use Rattle.wef_subscribing.specs.ByRows.{IsRequestedOver, RequestSays}
use Rattle.wef_subscribing.specs.Requesting.{AreRequestedBy, EndsAtBy, StopsBy}
use Rattle.wef_runs.specs.Deeds.{Deed}
use Rattle.wef_runs.specs.Deeds.{Requests, Takes}
use Rattle.wef_runs.specs.Runs.{Account, OfCollector, asking, deeds_answered, deeds_asked, deeds_at_end, deeds_back, deeds_behind, deeds_by, deeds_collected, deeds_in_turn, deeds_listening, deeds_next, deeds_of, deeds_of_connections, deeds_of_request, deeds_of_sent, deeds_requested, deeds_sent, deeds_served, deeds_stopping, deeds_told}

-- Where each request that is sent waits under names that read back, each answer is taken to such a one.
abbrev pub AnswersAsked : List Deed → Type 0
AnswersAsked [] = Unit {0}
AnswersAsked (Requests host r moment ∷ deeds) = IsAsked (waiting_of r) → AnswersAsked deeds
AnswersAsked (Takes waits answer moment ∷ deeds) = IfSome waits IsAsked × AnswersAsked deeds
AnswersAsked (deed ∷ deeds) = AnswersAsked deeds

-- ---- deeds of other commands

-- a deed isn't of `request`
abbrev IsOther : Deed → Type 0
IsOther (Requests host r moment) = ⊥
IsOther (Takes waits answer moment) = ⊥
IsOther deed = Unit {0}

abbrev AreOther : List Deed → Type 0
AreOther deeds = AllByRecursion IsOther deeds

others_answer : (deeds : List Deed) → AreOther deeds → AnswersAsked deeds
others_answer [] all = tt
others_answer (Requests host r moment ∷ deeds) all = absurd all.0
others_answer (Takes waits answer moment ∷ deeds) all = absurd all.0
others_answer (_ ∷ deeds) all = others_answer deeds all.1

both_other : (first next : List Deed) → AreOther first → AreOther next → AreOther (first ++ next)
both_other [] next all more = more
both_other (deed ∷ first) next all more = (all.0, both_other first next all.1 more)

module _ (final : Rows) (clock : Option ℕ) where
  request_other : (k l : Kept) (responds : Responds (AnswersAt clock (AnswersBy final)) (LeavesAt clock LeavesBy) k l) → AreOther (deeds_of_request final clock responds)
  request_other k l (request, inl (moment, told, inl same)) = tt
  request_other k l (request, inl (moment, told, inr (heard, hears, left))) = (tt, tt)
  request_other k l (request, inr (answer, (moment, told, (heard, hears, is)))) = (tt, tt)

  turns_other : {k l : Kept} (turns : RespondsInTurn (AnswersAt clock (AnswersBy final)) (LeavesAt clock LeavesBy) k l) → AreOther (deeds_in_turn final clock turns)
  turns_other (to_none k) = tt
  turns_other (to_one_more k l m before last) = both_other (deeds_in_turn final clock before) (deeds_of_request final clock last) (turns_other before) (request_other l m last)

  connections_other : {f g : ports.Told} {k l : Kept} {es : List ConnectionEnd} (served : AreServedBy final clock f k es g l) → AreOther (deeds_of_connections final clock served)
  connections_other (none_by f k) = tt
  connections_other (one_by f g h k l m e es is more) =
      both_other (deeds_in_turn final clock is.answered) (deeds_of_connections final clock more) (turns_other is.answered) (connections_other more)

  served_other : (told : List ℕ) (count : ℕ) (ending : Ending) (out : Told) (f g : ports.Told) (k l : Kept) (serves : ServingEndsBy (AreServedBy final clock) told count ending out f k g l)
      → AreOther (deeds_served final clock told count ending out f g k l serves)
  served_other told count ends.Done out f g k l (es, all, are) = connections_other are.served
  served_other told count ends.ListeningFailed out f g k l (es, few, h, are, refuses, rose, counted) = connections_other are.served
  served_other told count ends.NoMemory out f g k l last = connections_other last.served
  served_other told count ends.OutputFailed out f g k l (failed, bytes, last) = connections_other last.served
  served_other told count _ out f g k l none = absurd none

  told_other : (told : List ℕ) (count : ℕ) (ending : Ending) (out : Told) (f g : ports.Told) (k l : Kept) (tells : TellingEndsBy (AreServedBy final clock) told count ending out f k g l)
      → AreOther (deeds_told final clock told count ending out f g k l tells)
  told_other told count ending out f g k l (inl untold) = tt
  told_other told count ending out f g k l (inr serves) = served_other told count ending out f g k l serves

  listening_other : (address : List ℕ) (count : ℕ) (ending : Ending) (out : Told) (f g : ports.Told) (k l : Kept) (listens : ListeningEndsBy (AreServedBy final clock) address count ending out f k g l)
      → AreOther (deeds_listening final clock address count ending out f g k l listens)
  listening_other address count ending out f g k l (inl unheard) = tt
  listening_other address count ending out f g k l (inr tells) = told_other (listening_line address) count ending out (with_address address f) g k l tells

-- ---- requests that wait

-- all that wait do so under names that read back
abbrev AreAsked : Memory → Type 0
AreAsked memory = AllByRecursion IsAsked memory.waiting

without_asked : (id : ℕ) (waiting : List Waiting) → AllByRecursion IsAsked waiting → AllByRecursion IsAsked (without_first id waiting)
without_asked id [] all = tt
without_asked id (w ∷ ws) all = cond_both (has_id id w) ws (w ∷ without_first id ws) (AllByRecursion IsAsked) (λ _. all.1) (λ _. (all.0, without_asked id ws all.1))

first_asked : (id : ℕ) (waiting : List Waiting) → AllByRecursion IsAsked waiting → IfSome (first_of id waiting) IsAsked
first_asked id [] all = tt
first_asked id (w ∷ ws) all = cond_both (has_id id w) (Some w) (first_of id ws) (λ (o : Option Waiting). IfSome o IsAsked) (λ _. all.0) (λ _. first_asked id ws all.1)

waiting_asked : (memory : Memory) (id : Option ℕ) → AreAsked memory → IfSome (waiting_for memory id) IsAsked
waiting_asked memory None all = tt
waiting_asked memory (Some value) all = first_asked value memory.waiting all

answered_asked : (id : Option ℕ) (memory : Memory) → AreAsked memory → AreAsked (answered_in id memory)
answered_asked None memory all = all
answered_asked (Some value) memory all = without_asked value memory.waiting all

behind_answer : (done : Result Answered CollectorFault) (id : Option ℕ) (memory memory_now : Memory) → memory_now ≡ memory_answered done id memory → AreAsked memory → AreAsked memory_now
behind_answer done id memory memory_now is all =
    subst AreAsked (sym is) (cond_both (ends_waiting done) (answered_in id memory) memory AreAsked (λ _. answered_asked id memory all) (λ _. all))

same_asked : (memory memory_now : Memory) → memory_now ≡ memory → AreAsked memory → AreAsked memory_now
same_asked memory memory_now same all = subst AreAsked (sym same) all

-- ---- `request`

-- further deeds answer what is asked, where what waits then has good names
abbrev ThenAnswer : Memory → List Deed → Type 0
ThenAnswer memory deeds = AreAsked memory → AnswersAsked deeds

module _ (next : List Deed) where
  told_asked : (o : Option responses.Told) (h : listening.Hears) (moment : ℕ) (memory memory_now : Memory) (found left : Rows) → HearsOver o h moment memory memory_now found left
      → AreAsked memory → ThenAnswer memory_now next → AnswersAsked (deeds_answered memory moment o ++ next)
  told_asked None h moment memory memory_now found left (unread, kept, same) all more = more (same_asked memory memory_now kept all)
  told_asked (Some t) h moment memory memory_now found left (done, takes, known, is) all more =
      (waiting_asked memory t.0.value all, more (behind_answer done t.0.value memory memory_now takes.2 all))

  back_asked : (envelope : Option (List ℕ)) (h : Option listening.Hears) (moment : ℕ) (memory memory_now : Memory) (found left : Rows) → GetsOver envelope moment memory memory_now found left h
      → AreAsked memory → ThenAnswer memory_now next → AnswersAsked (deeds_back memory moment envelope ++ next)
  back_asked None h moment memory memory_now found left (none, kept, same) all more = more (same_asked memory memory_now kept all)
  back_asked (Some envelope) made moment memory memory_now found left (h, hears, is) all more = told_asked (response_told moment envelope) h moment memory memory_now found left hears all more

  behind_asked : (r : Request) (moment : ℕ) (before now : requesting.Kept) (result : Result Outcome RequestFault) (outcomes : OutcomesOver r moment before now result)
      → AreAsked before.memory → ThenAnswer now.memory next → AnswersAsked (deeds_behind r moment before now result outcomes ++ next)
  behind_asked r moment before now (Ok outcome) (envelope, made, (h, gets, is)) all more = back_asked envelope h moment before.memory now.memory before.rows now.rows gets all more
  behind_asked r moment before now (Err request_faults.StoreFailed) (envelope, made, (h, gets, is)) all more = back_asked envelope h moment before.memory now.memory before.rows now.rows gets all more
  behind_asked r moment before now (Err request_faults.LinkFailed) broken all more = more (same_asked before.memory now.memory broken.1 all)
  behind_asked r moment before now (Err request_faults.NoMemory) (inl broken) all more = more (same_asked before.memory now.memory broken.1 all)
  behind_asked r moment before now (Err request_faults.NoMemory) (inr (None, made, none)) all more = absurd none
  behind_asked r moment before now (Err request_faults.NoMemory) (inr (Some envelope, made, inl same)) all more = more (same_asked before.memory now.memory same.0 all)
  behind_asked r moment before now (Err request_faults.NoMemory) (inr (Some envelope, made, inr (relates, answer, told, takes))) all more =
      (waiting_asked before.memory relates.value all, more (behind_answer (Err faults.NoMemory) relates.value before.memory now.memory takes.2 all))

  sent_asked : (host : List ℕ) (moment : ℕ) (r : Request) (result : Result Outcome RequestFault) (before now : requesting.Kept) (is : SendsOver host moment r before now result)
      → AreAsked before.memory → ThenAnswer now.memory next → AnswersAsked (deeds_sent host moment r result before now is ++ next)
  sent_asked host moment r result before now is all more = λ asked.
      behind_asked r moment (record { rows = is.rows; memory = is.memory; link = before.link }) now result is.outcomes
      (subst AreAsked (sym is.asks.2) (asked_with before.memory.waiting (waiting_of r) asked all)) more

  next_asked : (host : List ℕ) (moment : ℕ) (result : Result (Option Sent) RequestFault) (before now : requesting.Kept) (requests : RequestsOver host moment before now result)
      → AreAsked before.memory → ThenAnswer now.memory next → AnswersAsked (deeds_next host moment result before now requests ++ next)
  next_asked host moment (Ok None) before now none all more = more (same_asked before.memory now.memory none.0.2 all)
  next_asked host moment (Ok (Some sent)) before now is all more = sent_asked host moment sent.request (Ok sent.outcome) before now is all more
  next_asked host moment (Err fault) before now (inl (refusal, none, is)) all more = more (same_asked before.memory now.memory none.0.2 all)
  next_asked host moment (Err fault) before now (inr (r, is)) all more = sent_asked host moment r (Err fault) before now is all more

module _ (host : List ℕ) (clock : Option ℕ) where
  all_asked : (next : List Deed) (xs : List Sent) (before now : requesting.Kept) (are : AreRequestedBy (IsRequestedOver clock host) xs before now)
      → AreAsked before.memory → ThenAnswer now.memory next → AnswersAsked (deeds_of_sent host clock xs before now are ++ next)
  all_asked next [] before now same all more = more (same_asked before.memory now.memory (ap (λ (kept : requesting.Kept). kept.memory) same) all)
  all_asked next (x ∷ xs) before now (mid, is, more_sent) all more =
      subst AnswersAsked (sym (append_assoc (deeds_requested host clock (Ok (Some x)) before mid is) (deeds_of_sent host clock xs mid now more_sent) next))
      (next_asked (deeds_of_sent host clock xs mid now more_sent ++ next) host is.moment (Ok (Some x)) before mid is.requests all (λ asked. all_asked next xs mid now more_sent asked more))

  -- the last request, behind which nothing is done
  alone_asked : (result : Result (Option Sent) RequestFault) (before now : requesting.Kept) (is : IsRequestedOver clock host result before now)
      → AreAsked before.memory → AnswersAsked (deeds_requested host clock result before now is)
  alone_asked result before now is all =
      subst AnswersAsked (append-nil (deeds_requested host clock result before now is)) (next_asked [] host is.moment result before now is.requests all (λ asked. tt))

  end_asked : (text : List ℕ) (ending : Ending) (out : Told) (before now : requesting.Kept) (ends_so : EndsAtBy (IsRequestedOver clock host) text ending out before now)
      → ThenAnswer before.memory (deeds_at_end host clock text ending out before now ends_so)
  end_asked text ending out before now (inl (fault, is, ended, told)) all = alone_asked (Err fault) before now is all
  end_asked text ending out before now (inr (sent, is, untold)) all = alone_asked (Ok (Some sent)) before now is all

  stopping_asked : (left : ℕ) (text : List ℕ) (ending : Ending) (out : Told) (before now : requesting.Kept) (stops : StopsBy (IsRequestedOver clock host) left text ending out before now)
      → ThenAnswer before.memory (deeds_stopping host clock left text ending out before now stops)
  stopping_asked left text ending out before now (inl (none, done)) all = tt
  stopping_asked left text ending out before now (inr (some, ends_so)) all = end_asked text ending out before now ends_so all

-- ---- all commands

module _ (ending : Ending) (input out : Told) (peers : Peers) (before now : Store) (found last : Rows) where
  collected_asked : (address : List ℕ) (count : ℕ) (says : CollectSays address count ending out peers.moment peers.front_before peers.front_after before now found last)
      → AnswersAsked (deeds_collected ending input out peers before now found last address count says)
  collected_asked address count (inl refused) = tt
  collected_asked address count (inr is) =
      others_answer _ (listening_other last peers.moment address count ending out peers.front_before peers.front_after (begun found) (record { rows = last; memory = is.memory; errors = is.errors }) is.listens)

  requests_asked : (host : List ℕ) (count : ℕ) (says : (last ≡ found) ⊎ RequestSays host count ending out peers.moment peers.link_before peers.link_after found last)
      → AnswersAsked (deeds_asked ending input out peers before now found last host count says)
  requests_asked host count (inl same) = tt
  requests_asked host count (inr (inl refused)) = tt
  requests_asked host count (inr (inr is)) =
      let behind_all : requesting.Kept = record { rows = last; memory = is.memory; link = peers.link_after } in
      all_asked host peers.moment _ is.asks.sent (asking found peers.link_before) is.asks.mid is.asks.are_sent tt (stopping_asked host peers.moment _ _ ending out is.asks.mid behind_all is.asks.stops)

  account_asked : (command : Command) (says : Says command ending input out peers before now found last) → OfCollector command → AnswersAsked (deeds_by ending input out peers before now found last command says)
  account_asked the.Add (inl same) of = tt
  account_asked the.Add (inr (s, document, inl same)) of = tt
  account_asked the.Add (inr (s, document, inr left)) of = tt
  account_asked (the.Remove u) (inl same) of = tt
  account_asked (the.Remove u) (inr left) of = tt
  account_asked the.List says of = tt
  account_asked the.Show says of = tt
  account_asked (the.Events u s c) says of = tt
  account_asked (the.Status u) says of = tt
  account_asked (the.Collect address count) says of = collected_asked address count says
  account_asked (the.Request address count) says of = requests_asked address count says
  account_asked _ says of = absurd of

pub run_asked : {command : Command} {found last : Rows} (run : Account command found last) → OfCollector command → AnswersAsked (deeds_of run)
run_asked {command} {found} {last} run of = account_asked run.ending run.input run.out run.peers run.before run.now found last command run.says of
