-- What is written for a body is read as it.
use Rattle.std.proofs.Common.{◌≡◌, ℕ, suc, cond, List, [], ◌∷◌, length, refl, ap, ◌∙◌}
use Rattle.std.specs.Prelude.{Ok, Result, codes}
use Rattle.std.specs.List.{AllByRecursion}
use Rattle.wef_base.specs.Names.{same}
use Rattle.wef_base.specs.declared.tree.Element.{Element}
use Rattle.wef_envelope.specs.Laws.{IsSpelt}
use Rattle.wef_envelope.specs.Spaces.{enumeration}
use Rattle.wef_envelope.specs.declared.envelopes.Envelope.{Envelope}
use Rattle.wef_eventing.specs.declared.offers.Offer.{Offer}
use Rattle.wef_eventing.proofs.AddressTexts.{printed_text}
use Rattle.wef_subscribes.specs.Steps.{and_then, needed}
use Rattle.wef_subscribes.specs.Subscribes.{subscribe_in}
use Rattle.wef_subscribes.specs.declared.faults.BodyFault.{BodyFault}
use Rattle.wef_subscribes.specs.declared.faults.BodyFault.TheVariants.{BadBody}
use Rattle.wef_subscribes.specs.declared.faults.Part.TheVariants as the
use Rattle.wef_subscribes.proofs.SubscribesAgain.{subscribe_again}
use Rattle.wef_bodies.specs.Laws.{IsPlainBody, action_of}
use Rattle.wef_bodies.specs.Offers.{offers_in}
use Rattle.wef_bodies.specs.Reading.{body_in, enumerate_in, told_in}
use Rattle.wef_bodies.specs.Spaces.{enumerate, enumerate_response, get_status, get_status_response, renew, renew_response, subscribe, subscribe_response, subscription_end, unsubscribe, unsubscribe_response}
use Rattle.wef_bodies.specs.Written.{body_elements, enumerate_element, no_ids}
use Rattle.wef_bodies.specs.declared.bodies.Body.{Body}
use Rattle.wef_bodies.specs.declared.bodies.Body.TheVariants as body
use Rattle.wef_bodies.proofs.LeasesAgain.{ended_again, get_status_found, left_again, renew_again, renewed_found, status_found, subscribed_again, unsubscribe_found}
use Rattle.wef_bodies.proofs.OffersAgain.{offers_again}

as_many : (offers : List Offer) → length (no_ids offers) ≡ length offers
as_many [] = refl
as_many (o ∷ offers) = ap suc (as_many offers)

unnamed_spelt : (offers : List Offer) → AllByRecursion IsSpelt (no_ids offers)
unnamed_spelt [] = tt
unnamed_spelt (o ∷ offers) = (record { trimmed = (printed_text [] refl).0; value = refl }, unnamed_spelt offers)

enumerate_again : enumerate_in (enumerate_element ∷ []) ≡ Ok body.Enumerate
unfolding enumeration
enumerate_again = refl

-- what is read of elements by an action
abbrev by_action : ℕ → List ℕ → List Element → Result Body BodyFault
by_action now action elements =
    cond (same enumerate action) (enumerate_in elements)
    (cond (same enumerate_response action) (and_then (offers_in now elements) (λ offers. Ok (body.Offers offers)))
    (cond (same subscribe action) (and_then (subscribe_in now elements) (λ s. Ok (body.Subscribe s))) (told_in now action elements)))

elements_read : (now : ℕ) (b : Body) → IsPlainBody b → by_action now (action_of b) (body_elements b) ≡ Ok b
unfolding enumerate enumerate_response subscribe subscribe_response renew renew_response get_status get_status_response unsubscribe unsubscribe_response subscription_end
elements_read now body.Enumerate is = enumerate_again
elements_read now (body.Offers offers) is = ap (λ r. and_then r (λ found. Ok (body.Offers found))) (offers_again now (no_ids offers) offers (as_many offers) (unnamed_spelt offers) is)
elements_read now (body.Subscribe s) is = ap (λ r. and_then r (λ found. Ok (body.Subscribe found))) (subscribe_again now s is)
elements_read now (body.Subscribed identifier expires) is = subscribed_again now identifier expires is.0 is.1
elements_read now (body.Renew expires) is = ap (λ r. and_then r (λ found. Ok (body.Renew found))) (renew_again now expires is)
elements_read now (body.Renewed expires) is = ap (λ r. and_then r (λ found. Ok (body.Renewed found))) (left_again the.RenewResponse (codes "RenewResponse") now expires (renewed_found expires) is)
elements_read now body.GetStatus is = ap (λ o. and_then (needed (BadBody the.GetStatus) o) (λ e. Ok body.GetStatus)) get_status_found
elements_read now (body.StatusIs expires) is = ap (λ r. and_then r (λ found. Ok (body.StatusIs found))) (left_again the.GetStatusResponse (codes "GetStatusResponse") now expires (status_found expires) is)
elements_read now body.Unsubscribe is = ap (λ o. and_then (needed (BadBody the.Unsubscribe) o) (λ e. Ok body.Unsubscribe)) unsubscribe_found
elements_read now body.Unsubscribed is = refl
elements_read now (body.Ended identifier status) is = ap (λ r. and_then r (λ ended. Ok (body.Ended ended.0 ended.1))) (ended_again identifier status is)

pub body_again : (now : ℕ) (b : Body) (e : Envelope) → IsPlainBody b → e.action ≡ action_of b → e.body ≡ body_elements b → body_in now e ≡ Ok b
body_again now b e is action elements = (λ i. by_action now (action i) (elements i)) ∙ elements_read now b is
