-- What a source answers to a request that is done, a collector reads as it was meant.
use Rattle.std.proofs.Common.{codes, refl, ap, ◌∙◌}
use Rattle.std.proofs.Math.Utf8.{encode}
use Rattle.std.specs.Option.{option_and_then}
use Rattle.std.specs.Prelude.{Option, Some, Result}
use Rattle.std.specs.Result.{result_ok}
use Rattle.std.specs.Str.{chars}
use Rattle.wef_base.specs.declared.tree.Element.{Element}
use Rattle.wef_bodies.proofs.BodiesAgain.{body_again}
use Rattle.wef_bodies.proofs.GoodBodies.{lease_good, subscribed_good}
use Rattle.wef_bodies.specs.Laws.{CanBeWritten, action_of}
use Rattle.wef_bodies.specs.Spaces.{get_status_response, renew_response, subscribe_response, unsubscribe_response}
use Rattle.wef_bodies.specs.Written.{body_elements}
use Rattle.wef_bodies.specs.declared.bodies.Body.{Body}
use Rattle.wef_bodies.specs.declared.bodies.Body.TheVariants as body
use Rattle.wef_elements.specs.Good.{AreGoodElements}
use Rattle.wef_envelope.specs.Envelopes.{said}
use Rattle.wef_envelope.specs.Laws.{IsTrimmed}
use Rattle.wef_envelope.specs.Written.{written}
use Rattle.wef_envelope.specs.declared.envelopes.Envelope.{Envelope}
use Rattle.wef_envelope.specs.declared.envelopes.EnvelopeFault.{EnvelopeFault}
use Rattle.wef_front.proofs.RepliesAreHeard.{reply_said, tree_again}
use Rattle.wef_front_source.proofs.Texts.{action_good}
use Rattle.wef_front_source.specs.Replies.{done_envelope}
use Rattle.wef_ids.proofs.PlainIds.{id_text_good, id_text_trimmed}
use Rattle.wef_ids.specs.IdTexts.{id_of, id_of_value}
use Rattle.wef_ids.specs.declared.MessageId.{MessageId}
use Rattle.wef_replies.proofs.RepliesAreGood.{reply_good}
use Rattle.wef_source.specs.Machine.{next_id}
use Rattle.wef_xml.proofs.Ascii.{plain_name}
use Rattle.wef_xml.specs.Good.{IsGoodTree}
use Rattle.wef_requests.specs.Answers.{AnswersAreRead, IsAnswering, answer_by, answer_said}

pub elements_good : (b : Body) → IsAnswering b → CanBeWritten b → AreGoodElements (body_elements b) 62
elements_good (body.Subscribed identifier expires) is can = (subscribed_good identifier expires 58 can, tt)
elements_good (body.Renewed expires) is can = (lease_good (codes "RenewResponse") expires 60 (plain_name (codes "RenewResponse") refl), tt)
elements_good (body.StatusIs expires) is can = (lease_good (codes "GetStatusResponse") expires 60 (plain_name (codes "GetStatusResponse") refl), tt)
elements_good body.Unsubscribed is can = tt
elements_good body.Enumerate is can = absurd is
elements_good (body.Offers offers) is can = absurd is
elements_good (body.Subscribe wish) is can = absurd is
elements_good (body.Renew expires) is can = absurd is
elements_good body.GetStatus is can = absurd is
elements_good body.Unsubscribe is can = absurd is
elements_good (body.Ended identifier status) is can = absurd is

pub action_trimmed : (b : Body) → IsAnswering b → IsTrimmed (action_of b)
unfolding chars encode subscribe_response renew_response get_status_response unsubscribe_response
action_trimmed (body.Subscribed identifier expires) is = refl
action_trimmed (body.Renewed expires) is = refl
action_trimmed (body.StatusIs expires) is = refl
action_trimmed body.Unsubscribed is = refl
action_trimmed body.Enumerate is = absurd is
action_trimmed (body.Offers offers) is = absurd is
action_trimmed (body.Subscribe wish) is = absurd is
action_trimmed (body.Renew expires) is = absurd is
action_trimmed body.GetStatus is = absurd is
action_trimmed body.Unsubscribe is = absurd is
action_trimmed (body.Ended identifier status) is = absurd is

pub answers_are_read : AnswersAreRead
unfolding written
answers_are_read now end relates b is can plain spelt related =
    let id : MessageId = id_of_value (next_id end) in
    let e : Envelope = done_envelope b id (Some relates) in
    let good : IsGoodTree (written e) = reply_good (action_of b) (body_elements b) id (Some relates) (action_good b) (elements_good b is can) (id_text_good (next_id end)) related in
    let again = reply_said (action_of b) (body_elements b) id.text relates (action_trimmed b is) (id_text_trimmed (next_id end)) spelt in
    ap (λ (o : Option Element). option_and_then (answer_said now) (option_and_then (λ (r : Element). result_ok (said r)) o)) (tree_again (written e) good)
    ∙ ap (λ (r : Result Envelope EnvelopeFault). option_and_then (answer_said now) (result_ok r)) again
    ∙ ap (answer_by (Some relates)) (body_again now b (done_envelope b (id_of id.text) (Some relates)) plain refl refl)
