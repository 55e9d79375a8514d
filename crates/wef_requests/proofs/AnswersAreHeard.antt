-- What a source answers to a request, the collector hears as it was meant.
use Rattle.std.proofs.Common.{◌≡◌, ℕ, true, List, [], ◌∷◌, refl, ap, ◌∙◌}
use Rattle.std.specs.Option.{option_and_then, option_map, option_or}
use Rattle.std.specs.Prelude.{Option, Some, None, Result}
use Rattle.wef_base.specs.declared.tree.Charset.TheVariants.{Utf8}
use Rattle.wef_base.specs.declared.tree.Element.{Element}
use Rattle.wef_bodies.proofs.BodiesAgain.{body_again}
use Rattle.wef_bodies.specs.Laws.{CanBeWritten, IsPlainBody, action_of}
use Rattle.wef_bodies.specs.Reading.{body_in}
use Rattle.wef_bodies.specs.Written.{body_elements}
use Rattle.wef_bodies.specs.declared.bodies.Body.{Body}
use Rattle.wef_bodies.specs.declared.bodies.Body.TheVariants as body
use Rattle.wef_collector.specs.declared.responses.Response.TheVariants as response
use Rattle.wef_envelope.proofs.FaultsAreRead.{faults_are_read}
use Rattle.wef_envelope.specs.Envelopes.{said}
use Rattle.wef_envelope.specs.Faults as faults
use Rattle.wef_envelope.specs.Faults.{fault_tree, is_known, standard_of}
use Rattle.wef_envelope.specs.Laws.{IsSpelt, IsTrimmed}
use Rattle.wef_envelope.specs.Written.{written}
use Rattle.wef_envelope.specs.declared.envelopes.Envelope.{Envelope}
use Rattle.wef_envelope.specs.declared.faults.Fault.{Fault}
use Rattle.wef_front.proofs.RepliesAreHeard.{fault_action, reply_said, tree_again}
use Rattle.wef_front_collector.specs.HeardResponses.{response_by, response_of, response_read, response_told, told_by, told_in}
use Rattle.wef_front_source.proofs.Texts.{action_good}
use Rattle.wef_front_source.specs.Replies.{done_envelope, fault_id, last_id}
use Rattle.wef_ids.proofs.PlainIds.{id_text_good, id_text_trimmed}
use Rattle.wef_ids.specs.IdTexts.{id_of, id_of_value}
use Rattle.wef_ids.specs.declared.FaultName.{FaultName}
use Rattle.wef_ids.specs.declared.FaultName.TheVariants.{InternalError}
use Rattle.wef_ids.specs.declared.MessageId.{MessageId}
use Rattle.wef_replies.proofs.RepliesAreGood.{fault_reply_good, reply_good}
use Rattle.wef_replies.specs.Faults.{fault_among}
use Rattle.wef_replies.specs.Replies.{fault_envelope}
use Rattle.wef_source.specs.Machine.{next_id}
use Rattle.wef_subscribes.specs.declared.faults.BodyFault.{BodyFault}
use Rattle.wef_xml.specs.Canonical.{canonical, encoded}
use Rattle.wef_xml.specs.Good.{IsGoodTree, IsXmlText}
use Rattle.wef_requests.proofs.AnswersAreRead.{action_trimmed, elements_good}
use Rattle.wef_requests.specs.Answers.{AnswersAreHeard, IsAnswering, done_bytes, response_bytes}

-- the bytes of a good tree tell what it says
tree_told : (now : ℕ) (root : Element) → IsGoodTree root → response_told now (encoded Utf8 (canonical root)) ≡ told_by now (said root)
tree_told now root good = ap (option_and_then (λ (r : Element). told_by now (said r))) (tree_again root good)

-- ---- what is done

-- it holds no fault
no_fault : (b : Body) → IsAnswering b → fault_among (body_elements b) ≡ None
no_fault (body.Subscribed identifier expires) is = refl
no_fault (body.Renewed expires) is = refl
no_fault (body.StatusIs expires) is = refl
no_fault body.Unsubscribed is = refl
no_fault body.Enumerate is = absurd is
no_fault (body.Offers offers) is = absurd is
no_fault (body.Subscribe wish) is = absurd is
no_fault (body.Renew expires) is = absurd is
no_fault body.GetStatus is = absurd is
no_fault body.Unsubscribe is = absurd is
no_fault (body.Ended identifier status) is = absurd is

pub done_told :
    (now : ℕ) (id relates : MessageId) (b : Body) → IsAnswering b → CanBeWritten b → IsPlainBody b → IsTrimmed id.text → IsXmlText id.text → IsSpelt relates →
    IsXmlText relates.text → response_told now (done_bytes id relates b) ≡ told_in (Some relates) (response_of b)
unfolding written
done_told now id relates b is can plain trimmed allowed spelt related =
    let e : Envelope = done_envelope b (id_of id.text) (Some relates) in
    let good : IsGoodTree (written (done_envelope b id (Some relates))) =
    reply_good (action_of b) (body_elements b) id (Some relates) (action_good b) (elements_good b is can) allowed related in
    tree_told now (written (done_envelope b id (Some relates))) good
    ∙ ap (told_by now) (reply_said (action_of b) (body_elements b) id.text relates (action_trimmed b is) trimmed spelt)
    ∙ ap (λ (o : Option FaultName). told_in (Some relates) (response_by o (body_in now e))) (no_fault b is)
    ∙ ap (λ (r : Result Body BodyFault). told_in (Some relates) (response_read r)) (body_again now b e plain refl refl)

-- ---- faults

pub fault_told :
    (now : ℕ) (name : FaultName) (id relates : MessageId) → is_known name ≡ true → IsTrimmed id.text → IsXmlText id.text → IsSpelt relates → IsXmlText relates.text →
    response_told now (response_bytes id relates (response.Fault name)) ≡ Some (relates, response.Fault name)
unfolding written
fault_told now name id relates known trimmed allowed spelt related =
    let elements : List Element = fault_tree (faults.fault_of name) ∷ [] in
    let e : Envelope = fault_envelope name (id_of id.text) (Some relates) in
    tree_told now (written (fault_envelope name id (Some relates))) (fault_reply_good name id (Some relates) known allowed related)
    ∙ ap (told_by now) (reply_said (faults.action_of name) elements id.text relates (fault_action (standard_of name)).0 trimmed spelt)
    ∙ ap (λ (o : Option Fault). told_in (Some relates) (response_by (option_or (option_map (λ (f : Fault). f.name) o) None) (body_in now e))) (faults_are_read name known)

-- ---- under the ids of a source

value_told :
    (now : ℕ) (name : FaultName) (id : ℕ) (relates : MessageId) → is_known name ≡ true → IsSpelt relates → IsXmlText relates.text →
    response_told now (response_bytes (id_of_value id) relates (response.Fault name)) ≡ Some (relates, response.Fault name)
value_told now name id relates known spelt related = fault_told now name (id_of_value id) relates known (id_text_trimmed id) (id_text_good id) spelt related

pub answers_are_heard : AnswersAreHeard
answers_are_heard = record {
  done = λ now end relates b is can plain spelt related.
      done_told now (id_of_value (next_id end)) relates b is can plain (id_text_trimmed (next_id end)) (id_text_good (next_id end)) spelt related;
  faults = λ now end relates name known spelt related. value_told now name (fault_id end) relates known spelt related;
  spent = λ now end relates spelt related. value_told now InternalError (last_id end) relates refl spelt related;
}
