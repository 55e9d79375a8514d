-- The bytes of a source's answer are read again as that answer.
use Rattle.std.proofs.Common.{◌≡◌, ℕ, [], ◌∷◌, ◌∙◌}
use Rattle.std.specs.Prelude.{Some}
use Rattle.wef_bodies.specs.Laws.{CanBeWritten, action_of}
use Rattle.wef_bodies.specs.Written.{body_elements}
use Rattle.wef_bodies.specs.declared.bodies.Body.{Body}
use Rattle.wef_bodies.specs.declared.bodies.Body.TheVariants as body
use Rattle.wef_collector.specs.declared.responses.Response.{Response}
use Rattle.wef_collector.specs.declared.responses.Response.TheVariants as response
use Rattle.wef_envelope.proofs.WrittenIsRead.{written_id_is_found}
use Rattle.wef_envelope.specs.Faults as faults
use Rattle.wef_envelope.specs.Faults.{fault_tree, standard_of}
use Rattle.wef_envelope.specs.Laws.{IsSpelt}
use Rattle.wef_envelope.specs.Written.{written}
use Rattle.wef_front.proofs.RepliesAreHeard.{fault_action, reply_plain, tree_id}
use Rattle.wef_front_collector.specs.HeardResponses.{response_told}
use Rattle.wef_front_source.proofs.Texts.{action_good}
use Rattle.wef_front_source.specs.HeardReplies.{id_told}
use Rattle.wef_front_source.specs.Replies.{done_envelope}
use Rattle.wef_ids.specs.declared.MessageId.{MessageId}
use Rattle.wef_replies.proofs.RepliesAreGood.{fault_reply_good, reply_good}
use Rattle.wef_replies.specs.Replies.{fault_envelope}
use Rattle.wef_xml.specs.Good.{IsXmlText}
use Rattle.wef_requests.proofs.AnswersAreHeard.{done_told, fault_told}
use Rattle.wef_requests.proofs.AnswersAreRead.{action_trimmed, elements_good}
use Rattle.wef_requests.specs.Answers.{IsAnswering, ResponseCanBeSent, ResponsesAreRead, done_bytes, response_bytes}

-- ---- what is told

answer_told : (now : ℕ) (id relates : MessageId) (answer : Response) → ResponseCanBeSent id relates answer → response_told now (response_bytes id relates answer) ≡ Some (relates, answer)
answer_told now id relates (response.Subscribed identifier expires) can =
    done_told now id relates (body.Subscribed identifier expires) tt can.plain.0.1 (can.plain.0.0, can.plain.1) can.id.trimmed can.id_text can.relates can.relates_text
answer_told now id relates (response.Renewed expires) can =
    done_told now id relates (body.Renewed expires) tt tt can.plain can.id.trimmed can.id_text can.relates can.relates_text
answer_told now id relates response.Unsubscribed can =
    done_told now id relates body.Unsubscribed tt tt tt can.id.trimmed can.id_text can.relates can.relates_text
answer_told now id relates (response.Fault name) can = fault_told now name id relates can.plain can.id.trimmed can.id_text can.relates can.relates_text

-- ---- the id

done_id :
    (id relates : MessageId) (b : Body) → IsAnswering b → CanBeWritten b → IsSpelt id → IsXmlText id.text → IsSpelt relates → IsXmlText relates.text →
    id_told (done_bytes id relates b) ≡ Some id
done_id id relates b is can own allowed spelt related =
    tree_id (written (done_envelope b id (Some relates)))
    (reply_good (action_of b) (body_elements b) id (Some relates) (action_good b) (elements_good b is can) allowed related)
    ∙ written_id_is_found (done_envelope b id (Some relates)) (reply_plain (action_of b) (body_elements b) id relates (action_trimmed b is) own spelt)

answer_id : (id relates : MessageId) (answer : Response) → ResponseCanBeSent id relates answer → id_told (response_bytes id relates answer) ≡ Some id
answer_id id relates (response.Subscribed identifier expires) can =
    done_id id relates (body.Subscribed identifier expires) tt can.plain.0.1 can.id can.id_text can.relates can.relates_text
answer_id id relates (response.Renewed expires) can = done_id id relates (body.Renewed expires) tt tt can.id can.id_text can.relates can.relates_text
answer_id id relates response.Unsubscribed can = done_id id relates body.Unsubscribed tt tt can.id can.id_text can.relates can.relates_text
answer_id id relates (response.Fault name) can =
    tree_id (written (fault_envelope name id (Some relates))) (fault_reply_good name id (Some relates) can.plain can.id_text can.relates_text)
    ∙ written_id_is_found (fault_envelope name id (Some relates))
    (reply_plain (faults.action_of name) (fault_tree (faults.fault_of name) ∷ []) id relates (fault_action (standard_of name)).0 can.id can.relates)

pub responses_are_read : ResponsesAreRead
responses_are_read = record { told = answer_told; id = answer_id }
