-- The texts of what a source answers are such as XML allows.
use Rattle.std.proofs.Common.{◌≡◌, ℕ, List, refl, sym, subst}
use Rattle.std.specs.Prelude.{Option, Some, None, Result, Ok, Err, IfOk}
use Rattle.wef_bodies.specs.Laws.{action_of}
use Rattle.wef_bodies.specs.Spaces.{enumerate, enumerate_response, get_status, get_status_response, renew, renew_response, subscribe, subscribe_response, subscription_end, unsubscribe, unsubscribe_response}
use Rattle.wef_bodies.specs.declared.bodies.Body.{Body}
use Rattle.wef_bodies.specs.declared.bodies.Body.TheVariants as body
use Rattle.wef_eventing.specs.declared.offers.Subscribe.{Subscribe}
use Rattle.wef_ids.proofs.PlainIds.{id_text_good}
use Rattle.wef_ids.specs.IdTexts.{id_of_value}
use Rattle.wef_ids.specs.declared.MessageId.{MessageId}
use Rattle.wef_source.specs.Answers.{AcceptsAs}
use Rattle.wef_source.specs.Machine.{End, next_id}
use Rattle.wef_source.specs.declared.messages.Accepted.{Accepted}
use Rattle.wef_xml.proofs.Ascii.{plain_text}
use Rattle.wef_xml.specs.Good.{IsXmlText}

pub id_good : (id : MessageId) (value : ℕ) → id ≡ id_of_value value → IsXmlText id.text
id_good id value is = subst (λ (i : MessageId). IsXmlText i.text) (sym is) (id_text_good value)

pub made_good : {E : Type 0} (made : Result MessageId E) (value : ℕ) → IfOk made (λ id. id ≡ id_of_value value) → IfOk made (λ id. IsXmlText id.text)
made_good (Ok id) value is = id_good id value is
made_good (Err fault) value is = tt

-- the identifier of a session that is accepted
pub accepted_good : (end end' : End) (wish : Subscribe) (now : ℕ) (answer : Accepted) (u : Option (List ℕ)) → AcceptsAs end end' wish now answer u → IsXmlText answer.identifier
accepted_good end end' wish now answer None is = absurd is
accepted_good end end' wish now answer (Some u) is = subst (λ (a : Accepted). IsXmlText a.identifier) (sym is.0) (id_text_good (next_id end))

-- the actions of bodies
pub action_good : (b : Body) → IsXmlText (action_of b)
unfolding enumerate enumerate_response get_status get_status_response renew renew_response subscribe subscribe_response subscription_end unsubscribe unsubscribe_response
action_good body.Enumerate = plain_text enumerate refl
action_good (body.Offers offers) = plain_text enumerate_response refl
action_good (body.Subscribe s) = plain_text subscribe refl
action_good (body.Subscribed identifier expires) = plain_text subscribe_response refl
action_good (body.Renew expires) = plain_text renew refl
action_good (body.Renewed expires) = plain_text renew_response refl
action_good body.GetStatus = plain_text get_status refl
action_good (body.StatusIs expires) = plain_text get_status_response refl
action_good body.Unsubscribe = plain_text unsubscribe refl
action_good body.Unsubscribed = plain_text unsubscribe_response refl
action_good (body.Ended identifier status) = plain_text subscription_end refl
