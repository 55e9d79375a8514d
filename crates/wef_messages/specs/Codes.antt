-- How what models hold is coded.
use Rattle.std.specs.Prelude.{ℕ, List, Option, refl}
use Rattle.std.specs.Coded.{Coded, code_by, coded_list, coded_option, coded_ℕ, coded×}
use Rattle.wef_bodies.specs.contracts.bodies.Body as asked
use Rattle.wef_bodies.specs.declared.bodies.Body.{Body}
use Rattle.wef_collector.specs.contracts.responses.Response as response
use Rattle.wef_collector.specs.declared.responses.Response.{Response}
use Rattle.wef_eventing.specs.contracts.offers.Offer as offer
use Rattle.wef_eventing.specs.declared.offers.Offer.{Offer}
use Rattle.wef_front.specs.Sent.{Wish}
use Rattle.wef_ids.specs.contracts.MessageId as message_id
use Rattle.wef_ids.specs.declared.MessageId.{MessageId}
use Rattle.wef_requests.specs.Requests.{Requested}
use Rattle.wef_source.specs.contracts.messages.Reply as answer
use Rattle.wef_source.specs.declared.messages.Reply.{Reply}
use Rattle.wef_messages.specs.Bytes.{Answered, Replied, Responded}

-- what a wish for subscriptions says
abbrev pub coded_wish : Coded Wish
coded_wish = code_by (List ℕ × MessageId) (coded× (coded_list coded_ℕ) message_id.the_row.coded) (λ w. (w.source, w.id)) (λ t. record { source = t.0; id = t.1 }) (λ _. refl)

-- what an answer with offers says
abbrev pub coded_answered : Coded Answered
coded_answered = code_by (MessageId × (MessageId × List Offer)) (coded× message_id.the_row.coded (coded× message_id.the_row.coded (coded_list offer.the_row.coded)))
    (λ a. (a.id, (a.relates, a.offers))) (λ t. record { id = t.0; relates = t.1.0; offers = t.1.1 }) (λ _. refl)

-- what a reply says
abbrev pub coded_reply : Coded Replied
coded_reply = code_by (MessageId × (MessageId × Reply)) (coded× message_id.the_row.coded (coded× message_id.the_row.coded answer.the_row.coded))
    (λ r. (r.id, (r.relates, r.reply))) (λ t. record { id = t.0; relates = t.1.0; reply = t.1.1 }) (λ _. refl)

-- what a request says
abbrev pub coded_requested : Coded Requested
coded_requested = code_by (List ℕ × (MessageId × (Option (List ℕ) × Body)))
    (coded× (coded_list coded_ℕ) (coded× message_id.the_row.coded (coded× (coded_option (coded_list coded_ℕ)) asked.the_row.coded)))
    (λ r. (r.to, (r.id, (r.identifier, r.body)))) (λ t. record { to = t.0; id = t.1.0; identifier = t.1.1.0; body = t.1.1.1 }) (λ _. refl)

-- what the answer to a request says
abbrev pub coded_responded : Coded Responded
coded_responded = code_by (MessageId × (MessageId × Response)) (coded× message_id.the_row.coded (coded× message_id.the_row.coded response.the_row.coded))
    (λ r. (r.id, (r.relates, r.answer))) (λ t. record { id = t.0; relates = t.1.0; answer = t.1.1 }) (λ _. refl)
