-- What a run of a collector's command reads: of each of its deeds, by its account.
use Rattle.std.proofs.Common.{◌≡◌, ◌⊎◌, inl, inr, ℕ, ◌≤◌, List, [], ◌∷◌, ◌++◌, subst}
use Rattle.std.specs.List.{AllByRecursion}
use Rattle.std.specs.Prelude.{IfSome, Option, Some, None, Result, Ok, Err}
use Rattle.wef_base.specs.declared.moments.TheConstants.{LAST_MOMENT}
use Rattle.wef_cli.specs.Leaving.{Says}
use Rattle.wef_cli.specs.Runs.{Peers}
use Rattle.wef_collector.specs.declared.asking.Request.{Request}
use Rattle.wef_collector.specs.declared.memories.Memory.{Memory}
use Rattle.wef_collector_serving.specs.ByRows.{AnswersBy, Kept, LeavesBy}
use Rattle.wef_command_line.specs.declared.command.Command.{Command}
use Rattle.wef_command_line.specs.declared.command.Command.TheVariants as the
use Rattle.wef_commands.specs.Adding.{HasDocument}
use Rattle.wef_commands.specs.Endings.{Told}
use Rattle.wef_commands.specs.declared.ending.Ending.{Ending}
use Rattle.wef_commands.specs.declared.ending.Ending.TheVariants as ends
use Rattle.wef_connections.specs.Opening.{with_address}
use Rattle.wef_documents.proofs.KeptBack.{kept_again}
use Rattle.wef_documents.proofs.SaysPlain.{document_keeps, document_plain, document_texts}
use Rattle.wef_eventing.specs.declared.subscriptions.Subscription.{Subscription}
use Rattle.wef_front_collector.specs.HeardResponses as responses
use Rattle.wef_front_collector.specs.HeardResponses.{response_told}
use Rattle.wef_keeper.specs.Keeping.{Store}
use Rattle.wef_keeper.specs.Rows.{Rows}
use Rattle.wef_ports.specs.Telling as ports
use Rattle.wef_requesting.specs.ByRows as requesting
use Rattle.wef_requesting.specs.ByRows.{OutcomesOver, RequestsOver, SendsOver}
use Rattle.wef_requesting.specs.declared.requesting.Outcome.{Outcome}
use Rattle.wef_requesting.specs.declared.requesting.RequestFault.{RequestFault}
use Rattle.wef_requesting.specs.declared.requesting.RequestFault.TheVariants as request_faults
use Rattle.wef_requesting.specs.declared.requesting.Sent.{Sent}
use Rattle.wef_running.specs.ByRows.{AreServedBy, CollectSays, begun}
use Rattle.wef_running.specs.ByRows.{none_by, one_by}
use Rattle.wef_running.specs.Collecting.{ListeningEndsBy, ServingEndsBy, TellingEndsBy, listening_line}
use Rattle.wef_serving.specs.Serving.{AnswersAt, LeavesAt, Responds, RespondsInTurn}
use Rattle.wef_serving.specs.Serving.{to_none, to_one_more}
use Rattle.wef_serving.specs.declared.ends.ConnectionEnd.{ConnectionEnd}
use Rattle.wef_subscribing.specs.ByRows.{IsRequestedOver, RequestSays}
use Rattle.wef_subscribing.specs.Requesting.{AreRequestedBy, EndsAtBy, StopsBy}
use Rattle.wef_runs.proofs.AskedSound.{heard_sound}
use Rattle.wef_runs.proofs.ResponsesSaid.{TellsSaid, responses_said}
use Rattle.wef_runs.specs.Deeds.{Deed, IsRead}
use Rattle.wef_runs.specs.Deeds.{Adds}
use Rattle.wef_runs.specs.Laws.{RunsReadSo}
use Rattle.wef_runs.specs.Runs.{asking, deeds_answered, deeds_asked, deeds_at_end, deeds_back, deeds_behind, deeds_by, deeds_collected, deeds_in_turn, deeds_listening, deeds_next, deeds_of_connections, deeds_of_request, deeds_of_sent, deeds_requested, deeds_sent, deeds_served, deeds_stopping, deeds_told}

-- so it is with all of them
abbrev AreRead : List Deed → Type 0
AreRead deeds = AllByRecursion IsRead deeds

both_read : (first next : List Deed) → AreRead first → AreRead next → AreRead (first ++ next)
both_read [] next are more = more
both_read (deed ∷ first) next are more = (are.0, both_read first next are.1 more)

-- ---- `collect`

module _ (final : Rows) (clock : Option ℕ) where
  request_read : (k l : Kept) (responds : Responds (AnswersAt clock (AnswersBy final)) (LeavesAt clock LeavesBy) k l) → AreRead (deeds_of_request final clock responds)
  request_read k l (request, inl (moment, is, inl same)) = tt
  request_read k l (request, inl (moment, is, inr (heard, hears, left))) = ((is.0, heard_sound request.target request.charset request.body heard hears.0), tt)
  request_read k l (request, inr (answer, (moment, is, (heard, hears, answered)))) = ((is.0, hears.1, heard_sound request.target request.charset request.body heard hears.0), tt)

  turns_read : {k l : Kept} (turns : RespondsInTurn (AnswersAt clock (AnswersBy final)) (LeavesAt clock LeavesBy) k l) → AreRead (deeds_in_turn final clock turns)
  turns_read (to_none k) = tt
  turns_read (to_one_more k l m before last) = both_read (deeds_in_turn final clock before) (deeds_of_request final clock last) (turns_read before) (request_read l m last)

  connections_read : {f g : ports.Told} {k l : Kept} {es : List ConnectionEnd} (served : AreServedBy final clock f k es g l) → AreRead (deeds_of_connections final clock served)
  connections_read (none_by f k) = tt
  connections_read (one_by f g h k l m e es is more) = both_read (deeds_in_turn final clock is.answered) (deeds_of_connections final clock more) (turns_read is.answered) (connections_read more)

  served_read : (told : List ℕ) (count : ℕ) (ending : Ending) (out : Told) (f g : ports.Told) (k l : Kept) (serves : ServingEndsBy (AreServedBy final clock) told count ending out f k g l)
      → AreRead (deeds_served final clock told count ending out f g k l serves)
  served_read told count ends.Done out f g k l (es, all, are) = connections_read are.served
  served_read told count ends.ListeningFailed out f g k l (es, few, h, are, refuses, rose, counted) = connections_read are.served
  served_read told count ends.NoMemory out f g k l last = connections_read last.served
  served_read told count ends.OutputFailed out f g k l (failed, bytes, last) = connections_read last.served
  served_read told count _ out f g k l none = absurd none

  told_read : (told : List ℕ) (count : ℕ) (ending : Ending) (out : Told) (f g : ports.Told) (k l : Kept) (tells : TellingEndsBy (AreServedBy final clock) told count ending out f k g l)
      → AreRead (deeds_told final clock told count ending out f g k l tells)
  told_read told count ending out f g k l (inl untold) = tt
  told_read told count ending out f g k l (inr serves) = served_read told count ending out f g k l serves

  listening_read : (address : List ℕ) (count : ℕ) (ending : Ending) (out : Told) (f g : ports.Told) (k l : Kept) (listens : ListeningEndsBy (AreServedBy final clock) address count ending out f k g l)
      → AreRead (deeds_listening final clock address count ending out f g k l listens)
  listening_read address count ending out f g k l (inl unheard) = tt
  listening_read address count ending out f g k l (inr tells) = told_read (listening_line address) count ending out (with_address address f) g k l tells

-- ---- `request`

module _ (moment : ℕ) (soon : moment ≤ LAST_MOMENT) where
  answered_read : (memory : Memory) (o : Option responses.Told) → IfSome o TellsSaid → AreRead (deeds_answered memory moment o)
  answered_read memory None said = tt
  answered_read memory (Some t) said = ((soon, said), tt)

  back_read : (memory : Memory) (envelope : Option (List ℕ)) → AreRead (deeds_back memory moment envelope)
  back_read memory None = tt
  back_read memory (Some envelope) = answered_read memory (response_told moment envelope) (responses_said moment envelope)

  behind_read : (r : Request) (before now : requesting.Kept) (result : Result Outcome RequestFault) (outcomes : OutcomesOver r moment before now result) → AreRead (deeds_behind r moment before now result outcomes)
  behind_read r before now (Ok outcome) (envelope, made, heard) = back_read before.memory envelope
  behind_read r before now (Err request_faults.StoreFailed) (envelope, made, heard) = back_read before.memory envelope
  behind_read r before now (Err request_faults.LinkFailed) broken = tt
  behind_read r before now (Err request_faults.NoMemory) (inl broken) = tt
  behind_read r before now (Err request_faults.NoMemory) (inr (None, made, none)) = absurd none
  behind_read r before now (Err request_faults.NoMemory) (inr (Some envelope, made, inl same)) = tt
  behind_read r before now (Err request_faults.NoMemory) (inr (Some envelope, made, inr (relates, answer, told, takes))) =
      ((soon, subst (λ (o : Option responses.Told). IfSome o TellsSaid) told (responses_said moment envelope)), tt)

  sent_read : (host : List ℕ) (r : Request) (result : Result Outcome RequestFault) (before now : requesting.Kept) (is : SendsOver host moment r before now result)
      → AreRead (deeds_sent host moment r result before now is)
  sent_read host r result before now is = (tt, behind_read r (record { rows = is.rows; memory = is.memory; link = before.link }) now result is.outcomes)

  next_read : (host : List ℕ) (result : Result (Option Sent) RequestFault) (before now : requesting.Kept) (requests : RequestsOver host moment before now result)
      → AreRead (deeds_next host moment result before now requests)
  next_read host (Ok None) before now none = tt
  next_read host (Ok (Some sent)) before now is = sent_read host sent.request (Ok sent.outcome) before now is
  next_read host (Err fault) before now (inl none) = tt
  next_read host (Err fault) before now (inr (r, is)) = sent_read host r (Err fault) before now is

module _ (host : List ℕ) (clock : Option ℕ) where
  requested_read : (result : Result (Option Sent) RequestFault) (before now : requesting.Kept) (is : IsRequestedOver clock host result before now) → AreRead (deeds_requested host clock result before now is)
  requested_read result before now is = next_read is.moment is.is_moment.0 host result before now is.requests

  all_read : (xs : List Sent) (before now : requesting.Kept) (are : AreRequestedBy (IsRequestedOver clock host) xs before now) → AreRead (deeds_of_sent host clock xs before now are)
  all_read [] before now same = tt
  all_read (x ∷ xs) before now (mid, is, more) =
      both_read (deeds_requested host clock (Ok (Some x)) before mid is) (deeds_of_sent host clock xs mid now more) (requested_read (Ok (Some x)) before mid is) (all_read xs mid now more)

  end_read : (text : List ℕ) (ending : Ending) (out : Told) (before now : requesting.Kept) (ends_so : EndsAtBy (IsRequestedOver clock host) text ending out before now)
      → AreRead (deeds_at_end host clock text ending out before now ends_so)
  end_read text ending out before now (inl (fault, is, ended, told)) = requested_read (Err fault) before now is
  end_read text ending out before now (inr (sent, is, untold)) = requested_read (Ok (Some sent)) before now is

  stopping_read : (left : ℕ) (text : List ℕ) (ending : Ending) (out : Told) (before now : requesting.Kept) (stops : StopsBy (IsRequestedOver clock host) left text ending out before now)
      → AreRead (deeds_stopping host clock left text ending out before now stops)
  stopping_read left text ending out before now (inl (none, done)) = tt
  stopping_read left text ending out before now (inr (some, ends_so)) = end_read text ending out before now ends_so

-- ---- `add`

document_read : (s : Subscription) (input : Told) → HasDocument s input → IsRead (Adds s)
document_read s input document =
    let bytes = document.1.0 in
    let is = document.1.1 in
    let names = document_keeps bytes s is in (names, kept_again s names (document_texts bytes s is) (document_plain bytes s is))

-- ---- all commands

module _ (ending : Ending) (input out : Told) (peers : Peers) (before now : Store) (found last : Rows) where
  collected_read : (address : List ℕ) (count : ℕ) (says : CollectSays address count ending out peers.moment peers.front_before peers.front_after before now found last)
      → AreRead (deeds_collected ending input out peers before now found last address count says)
  collected_read address count (inl refused) = (tt, tt)
  collected_read address count (inr is) = (
    tt,
    listening_read last peers.moment address count ending out peers.front_before peers.front_after (begun found) (record { rows = last; memory = is.memory; errors = is.errors }) is.listens,
  )

  asked_read : (host : List ℕ) (count : ℕ) (says : (last ≡ found) ⊎ RequestSays host count ending out peers.moment peers.link_before peers.link_after found last)
      → AreRead (deeds_asked ending input out peers before now found last host count says)
  asked_read host count (inl same) = tt
  asked_read host count (inr (inl refused)) = (tt, tt)
  asked_read host count (inr (inr is)) =
      let behind_all : requesting.Kept = record { rows = last; memory = is.memory; link = peers.link_after } in (
        tt,
        both_read _ _ (all_read host peers.moment is.asks.sent (asking found peers.link_before) is.asks.mid is.asks.are_sent)
            (stopping_read host peers.moment _ _ ending out is.asks.mid behind_all is.asks.stops),
      )

  account_read : (command : Command) (says : Says command ending input out peers before now found last) → AreRead (deeds_by ending input out peers before now found last command says)
  account_read the.Add (inl same) = tt
  account_read the.Add (inr (s, document, inl same)) = tt
  account_read the.Add (inr (s, document, inr left)) = (tt, (document_read s input document, tt))
  account_read (the.Remove u) (inl same) = tt
  account_read (the.Remove u) (inr left) = (tt, (tt, tt))
  account_read the.List says = (tt, tt)
  account_read the.Show says = (tt, tt)
  account_read (the.Events u s c) says = (tt, tt)
  account_read (the.Status u) says = (tt, tt)
  account_read (the.Collect address count) says = collected_read address count says
  account_read (the.Request address count) says = asked_read address count says
  account_read _ says = tt

pub run_read : RunsReadSo
run_read command found last run = account_read run.ending run.input run.out run.peers run.before run.now found last command run.says
