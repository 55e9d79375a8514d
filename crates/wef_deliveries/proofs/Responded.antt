-- What a source answers to the bytes of a request is what the machine says of the request.
use Rattle.std.proofs.Common.{◌≡◌, ℕ, nat_lt, true, List, refl, ap, sym, ◌∙◌, subst, arith}
use Rattle.std.proofs.lemmas.Bool.{cond_both}
use Rattle.std.specs.Option.{option_and_then, option_map}
use Rattle.std.specs.Prelude.{Option, Some, None, IfSome, Result, Ok, Err, codes}
use Rattle.wef_base.specs.declared.tree.Charset.TheVariants.{Utf8}
use Rattle.wef_base.specs.declared.tree.Element.{Element}
use Rattle.wef_bodies.specs.Laws.{IsAhead, IsPlainBody, action_of}
use Rattle.wef_bodies.specs.Leases.{left_in}
use Rattle.wef_bodies.specs.Reading.{body_in}
use Rattle.wef_bodies.specs.Spaces.{enumerate, enumerate_response, get_status_response, renew_response, subscribe, subscribe_response}
use Rattle.wef_bodies.specs.Written.{body_elements}
use Rattle.wef_bodies.specs.declared.bodies.Body.{Body}
use Rattle.wef_bodies.specs.declared.bodies.Body.TheVariants as body
use Rattle.wef_building.specs.declared.sessions.Session.{Session}
use Rattle.wef_collector.specs.declared.responses.Response.{Response}
use Rattle.wef_collector.specs.declared.responses.Response.TheVariants as response
use Rattle.wef_envelope.specs.Envelopes.{said as envelope_said}
use Rattle.wef_envelope.specs.Faults.{is_known}
use Rattle.wef_envelope.specs.Laws.{IsSpelt, IsTrimmed}
use Rattle.wef_envelope.specs.Written.{written}
use Rattle.wef_envelope.specs.declared.envelopes.Envelope.{Envelope}
use Rattle.wef_front.proofs.RepliesAreHeard.{reply_said, tree_again}
use Rattle.wef_front_collector.specs.HeardResponses.{Told, response_by, response_read, response_told, told_by, told_in}
use Rattle.wef_front_source.proofs.Texts.{action_good}
use Rattle.wef_front_source.specs.Heard.{manage_asked}
use Rattle.wef_front_source.specs.Replies.{answer_of, done_envelope, fault_id, last_id, reply}
use Rattle.wef_front_source.specs.Sending.{IsPlainText}
use Rattle.wef_front_source.specs.Steps.{managed_said, said_by, unless_expired, with_ids}
use Rattle.wef_front_source.specs.declared.hearing.Wants.{Wants}
use Rattle.wef_front_source.specs.declared.hearing.Wants.TheVariants as wants
use Rattle.wef_front_source.specs.declared.saying.Said.{Said}
use Rattle.wef_front_source.specs.declared.saying.Said.TheVariants as said
use Rattle.wef_http_heads.specs.declared.answers.Answer.{Answer}
use Rattle.wef_ids.proofs.PlainIds.{id_text_good, id_text_trimmed}
use Rattle.wef_ids.specs.IdTexts.{id_of, id_of_value, id_text}
use Rattle.wef_ids.specs.declared.FaultName.{FaultName}
use Rattle.wef_ids.specs.declared.FaultName.TheVariants as names
use Rattle.wef_ids.specs.declared.MessageId.{MessageId}
use Rattle.wef_machine.specs.Leasing.{request_done, request_said, responded, responded_word, response_message}
use Rattle.wef_machine.specs.Sources.{slot_opened, slot_opening}
use Rattle.wef_machine.specs.States.{Slot}
use Rattle.wef_machine.specs.declared.arming.Fate.{Fate}
use Rattle.wef_messages.proofs.Said.{responded_is}
use Rattle.wef_messages.specs.Bytes.{AreResponse, responded as bytes_responded}
use Rattle.wef_places.specs.Places.{UsedAs}
use Rattle.wef_places.specs.Slots.{AnswersAs}
use Rattle.wef_places.specs.declared.places.Used.{Used}
use Rattle.wef_places.specs.declared.places.Used.TheVariants.{Closed, Answered}
use Rattle.wef_replies.proofs.RepliesAreGood.{reply_good}
use Rattle.wef_replies.specs.Faults.{fault_among}
use Rattle.wef_requests.proofs.AnswersAreRead.{action_trimmed, elements_good}
use Rattle.wef_requests.proofs.ResponsesAreRead.{responses_are_read}
use Rattle.wef_requests.specs.Answers.{IsPlainResponse, ResponseCanBeSent, done_bytes, response_bytes}
use Rattle.wef_requests.specs.Requests.{IsAsking, RequestCanBeSent, Requested}
use Rattle.wef_source.specs.Machine.{End, ids_left, lease_time, next_id}
use Rattle.wef_source.specs.Sessions.{has_expired, leased_as, time_left}
use Rattle.wef_subscribes.specs.Laws.{IsWithin}
use Rattle.wef_subscribes.specs.Steps.{and_then}
use Rattle.wef_subscribes.specs.declared.faults.BodyFault.{BodyFault}
use Rattle.wef_subscribes.specs.declared.faults.Part.TheVariants as the
use Rattle.wef_times.specs.declared.durations.TheConstants.{LIMIT}
use Rattle.wef_xml.specs.Good.{IsXmlText}
use Rattle.wef_deliveries.specs.Answered.{AnswersSpelt, AnswersSpeltAt, AreRespondingAt, request_heard, responded_by, responded_in}
use Rattle.wef_deliveries.specs.Outcomes.{closed_of, request_where_runs}
use Rattle.wef_deliveries.specs.declared.taken.Taken.{Taken}

-- ---- what may be said to a request

-- an answer that can be written, and is read again where a collector asks for it
abbrev CanAnswer : Body → Type 0
CanAnswer (body.Subscribed identifier expires) = IsPlainText identifier × IsAhead expires
CanAnswer (body.Renewed expires) = IsAhead expires
CanAnswer (body.StatusIs expires) = Unit {0}
CanAnswer body.Unsubscribed = Unit {0}
CanAnswer _ = ⊥

abbrev CanSay : Said → Type 0
CanSay (said.Done answer) = CanAnswer answer
CanSay (said.Fault name) = is_known name ≡ true
CanSay said.Spent = Unit {0}

can_with_ids : (needed : ℕ) (end : End) (answer : Body) → CanAnswer answer → CanSay (with_ids needed end answer)
can_with_ids needed end answer can = cond_both (nat_lt (ids_left end) needed) said.Spent (said.Done answer) CanSay (λ few. tt) (λ left. can)

can_unless_expired : (now : ℕ) (session : Session) (says : Said) → CanSay says → CanSay (unless_expired now session says)
can_unless_expired now session says can = cond_both (has_expired now session) (said.Fault names.UnableToRenew) says CanSay (λ over. refl) (λ on. can)

-- how long a session stands is a time that is read
ahead : (expires : Option ℕ) → IfSome expires (IsWithin 1 LIMIT) → IsAhead (lease_time expires)
ahead None is = (omega arith, omega arith)
ahead (Some n) is = is

-- what is wanted of a session that can be read
abbrev IsWanted : Wants → Type 0
IsWanted (wants.Renew expires) = IsAhead expires
IsWanted wants.GetStatus = Unit {0}
IsWanted wants.Unsubscribe = Unit {0}
IsWanted (wants.Unread name) = ⊥

can_manage : (end : End) (wanted : Wants) (now : ℕ) (found : Option Session) → IsWanted wanted → CanSay (managed_said end wanted now found)
can_manage end wanted now None is = refl
can_manage end (wants.Unread name) now (Some session) is = absurd is
can_manage end (wants.Renew expires) now (Some session) is = can_unless_expired now session (with_ids 1 end (body.Renewed expires)) (can_with_ids 1 end (body.Renewed expires) is)
can_manage end wants.GetStatus now (Some session) is =
    can_unless_expired now session (with_ids 1 end (body.StatusIs (time_left now session))) (can_with_ids 1 end (body.StatusIs (time_left now session)) tt)
can_manage end wants.Unsubscribe now (Some session) is = can_with_ids 1 end body.Unsubscribed tt

can_manage_asked : (end : End) (identifier : Option (List ℕ)) (wanted : Wants) (now : ℕ) → IsWanted wanted → CanSay (said_by end (manage_asked identifier wanted) now)
can_manage_asked end None wanted now is = refl
can_manage_asked end (Some identifier) wanted now is = can_manage end wanted now (leased_as end.sessions identifier) is

-- what a source says to a request that can be sent
says_so : (end : End) (r : Requested) (now : ℕ) → RequestCanBeSent r → CanSay (request_said r.identifier r.body now end)
says_so end r now can = by r.body can.plain can.asks
  where
    by : (asks : Body) → IsPlainBody asks → IsAsking asks → CanSay (request_said r.identifier asks now end)
    by (body.Subscribe wish) plain asks =
        can_with_ids 2 end (body.Subscribed (id_text (next_id end)) (lease_time wish.expires)) ((id_text_trimmed (next_id end), id_text_good (next_id end)), ahead wish.expires plain.expires)
    by (body.Renew expires) plain asks = can_manage_asked end r.identifier (wants.Renew expires) now plain
    by body.GetStatus plain asks = can_manage_asked end r.identifier wants.GetStatus now tt
    by body.Unsubscribe plain asks = can_manage_asked end r.identifier wants.Unsubscribe now tt
    by body.Enumerate plain asks = absurd asks
    by (body.Offers offers) plain asks = absurd asks
    by (body.Subscribed identifier expires) plain asks = absurd asks
    by (body.Renewed expires) plain asks = absurd asks
    by (body.StatusIs expires) plain asks = absurd asks
    by body.Unsubscribed plain asks = absurd asks
    by (body.Ended identifier status) plain asks = absurd asks

-- ---- how long a session still lasts

-- no collector asks how long a session still lasts: what is read of the answer is none that it knows
read_none : (r : Result ℕ BodyFault) → response_read (and_then r (λ expires. Ok (body.StatusIs expires))) ≡ None
read_none (Ok expires) = refl
read_none (Err fault) = refl

no_fault : (expires : ℕ) → fault_among (body_elements (body.StatusIs expires)) ≡ None
no_fault expires = refl

status_read : (now expires : ℕ) (id relates : MessageId) → response_read (body_in now (done_envelope (body.StatusIs expires) id (Some relates))) ≡ None
unfolding enumerate enumerate_response subscribe subscribe_response renew_response get_status_response
status_read now expires id relates = read_none (left_in the.GetStatusResponse (codes "GetStatusResponse") now (body_elements (body.StatusIs expires)))

status_untold : (now expires : ℕ) (id relates : MessageId) → IsTrimmed id.text → IsXmlText id.text → IsSpelt relates → IsXmlText relates.text
    → response_told now (done_bytes id relates (body.StatusIs expires)) ≡ None
unfolding written
status_untold now expires id relates trimmed text related related_text =
    let answer : Body = body.StatusIs expires in
    let e : Envelope = done_envelope answer (id_of id.text) (Some relates) in
    ap (option_and_then (λ (root : Element). told_by now (envelope_said root)))
    (tree_again (written (done_envelope answer id (Some relates))) (reply_good (action_of answer) (body_elements answer) id (Some relates) (action_good answer) (elements_good answer tt tt) text related_text))
    ∙ ap (told_by now) (reply_said (action_of answer) (body_elements answer) id.text relates (action_trimmed answer tt) trimmed related)
    ∙ ap (λ (o : Option FaultName). told_in (Some relates) (response_by o (body_in now e))) (no_fault expires)
    ∙ ap (told_in (Some relates)) (status_read now expires (id_of id.text) relates)

-- ---- what is answered

-- bytes are those of what is responded, where that is something, and else they tell nothing
abbrev Responds : ℕ → MessageId → List ℕ → Option (MessageId × Response) → Type 0
Responds now relates bytes None = response_told now bytes ≡ None
Responds now relates bytes (Some r) = ResponseCanBeSent r.0 relates r.1 × (bytes ≡ response_bytes r.0 relates r.1)

-- an answer's id is that of its text
abbrev IsSpeltAs : MessageId × Response → Type 0
IsSpeltAs r = IsSpelt r.0

-- what the world makes of it
abbrev taken_as : List ℕ → MessageId → Option (MessageId × Response) → Taken
taken_as s relates o = record { word = responded_word o; answer = option_map (response_message s relates) o }

world_makes : (s : List ℕ) (now : ℕ) (relates : MessageId) (bytes : List ℕ) (o : Option (MessageId × Response)) → Responds now relates bytes o
    → AreRespondingAt now bytes × (responded_in s now bytes ≡ taken_as s relates o)
world_makes s now relates bytes None untold =
    (subst (λ (t : Option Told). IfSome t (λ told. AreResponse bytes)) (sym untold) tt, ap (responded_by s (bytes_responded bytes)) untold)
world_makes s now relates bytes (Some r) is =
    let told = ap (response_told now) is.1 ∙ responses_are_read.told now r.0 relates r.1 is.0 in
    let said_is = ap bytes_responded is.1 ∙ responded_is r.0 relates r.1 is.0 in
    let are : AreResponse bytes = record { said = record { id = r.0; relates = relates; answer = r.1 }; can_be_sent = is.0; bytes_are = is.1 } in
    (subst (λ (t : Option Told). IfSome t (λ told. AreResponse bytes)) (sym told) are, λ i. responded_by s (said_is i) (told i))

module _ (now : ℕ) (relates : MessageId) (relates_spelt : IsSpelt relates) (relates_text : IsXmlText relates.text) (end : End) where
  can_be_sent : (id : ℕ) (answer : Response) → IsSpelt (id_of_value id) → IsPlainResponse answer → ResponseCanBeSent (id_of_value id) relates answer
  can_be_sent id answer spelt plain = record { id = spelt; id_text = id_text_good id; relates = relates_spelt; relates_text = relates_text; plain = plain }

  done_responds : (answer : Body) → CanAnswer answer → IfSome (responded end (said.Done answer)) IsSpeltAs → Responds now relates (answer_of end Utf8 (Some relates) (said.Done answer)).body (responded end (said.Done answer))
  done_responds (body.Subscribed identifier expires) can spelt = (can_be_sent (next_id end) (response.Subscribed identifier expires) spelt can, refl)
  done_responds (body.Renewed expires) can spelt = (can_be_sent (next_id end) (response.Renewed expires) spelt can, refl)
  done_responds body.Unsubscribed can spelt = (can_be_sent (next_id end) response.Unsubscribed spelt tt, refl)
  done_responds (body.StatusIs expires) can spelt =
      status_untold now expires (id_of_value (next_id end)) relates (id_text_trimmed (next_id end)) (id_text_good (next_id end)) relates_spelt relates_text
  done_responds body.Enumerate can spelt = absurd can
  done_responds (body.Offers offers) can spelt = absurd can
  done_responds (body.Subscribe wish) can spelt = absurd can
  done_responds (body.Renew expires) can spelt = absurd can
  done_responds body.GetStatus can spelt = absurd can
  done_responds body.Unsubscribe can spelt = absurd can
  done_responds (body.Ended identifier status) can spelt = absurd can

  responds : (says : Said) → CanSay says → IfSome (responded end says) IsSpeltAs → Responds now relates (answer_of end Utf8 (Some relates) says).body (responded end says)
  responds (said.Done answer) can spelt = done_responds answer can spelt
  responds (said.Fault name) can spelt = (can_be_sent (fault_id end) (response.Fault name) spelt can, refl)
  responds said.Spent can spelt = (can_be_sent (last_id end) (response.Fault names.InternalError) spelt refl, refl)

-- ---- a source in its place

-- what a source answers to a request
abbrev pub Answers : Slot → Requested → ℕ → Used Answer → Type 0
Answers slot r now = AnswersAs slot (λ end (given : Answer). given ≡ (reply end (request_heard r) Utf8 now).answer)

-- what the world makes of its answer
abbrev Makes : Slot → List ℕ → Requested → ℕ → Answer → Type 0
Makes slot s r now answer = AreRespondingAt now answer.body × (responded_in s now answer.body ≡ request_where_runs (slot_opening slot) s r now (slot_opened slot).place.memory)

pub request_answered : (slot : Slot) (s : List ℕ) (r : Requested) (now : ℕ) (answer : Answer) → RequestCanBeSent r → AnswersSpeltAt r now (Some slot)
    → Answers slot r now (Answered answer) → Makes slot s r now answer
request_answered slot s r now answer can spelt came = by (slot_opened slot).place.memory spelt came
  where
    answered : End → Answer
    answered end = (reply end (request_heard r) Utf8 now).answer

    runs : (end : End) → AnswersSpelt r now end → AreRespondingAt now (answered end).body × (responded_in s now (answered end).body ≡ request_where_runs (slot_opening slot) s r now (Some end))
    runs end spelt =
        let done : End = request_done r.identifier r.body now end in
        let says : Said = request_said r.identifier r.body now end in
        world_makes s now r.id (answer_of done Utf8 (Some r.id) says).body (responded done says) (responds now r.id can.spelt can.id done says (says_so end r now can) spelt)

    by : (memory : Option End) → IfSome memory (AnswersSpelt r now) → UsedAs (slot_opening slot) memory (Unit {0}) (λ (end : End) given. given ≡ answered end) (Answered answer)
        → AreRespondingAt now answer.body × (responded_in s now answer.body ≡ request_where_runs (slot_opening slot) s r now memory)
    by None spelt came = absurd came
    by (Some end) spelt came =
        subst (λ (a : Answer). AreRespondingAt now a.body × (responded_in s now a.body ≡ request_where_runs (slot_opening slot) s r now (Some end))) (sym came) (runs end spelt)

-- a source that can't be opened answers nothing
pub request_closed : (slot : Slot) (s : List ℕ) (r : Requested) (now : ℕ) (went : Fate) → Answers slot r now (Closed went)
    → closed_of went ≡ request_where_runs (slot_opening slot) s r now (slot_opened slot).place.memory
request_closed slot s r now went came = by (slot_opened slot).place.memory came
  where
    by : (memory : Option End) → UsedAs (slot_opening slot) memory (Unit {0}) (λ (end : End) (given : Answer). given ≡ (reply end (request_heard r) Utf8 now).answer) (Closed went)
        → closed_of went ≡ request_where_runs (slot_opening slot) s r now memory
    by None came = ap closed_of came.0
    by (Some end) came = absurd came
