-- What a collector asks for is read again as it was asked, and a source hears what it means.
use Rattle.std.proofs.Common.{◌≡◌, ℕ, List, codes, refl, ap, sym, ◌∙◌}
use Rattle.std.proofs.Math.Utf8.{encode}
use Rattle.std.specs.Option.{option_and_then}
use Rattle.std.specs.Prelude.{Option, Some, None, IfSome, Result, Ok}
use Rattle.std.specs.Result.{result_ok}
use Rattle.std.specs.Str.{chars}
use Rattle.wef_base.specs.declared.tree.Charset.TheVariants.{Utf8}
use Rattle.wef_base.specs.declared.tree.Element.{Element}
use Rattle.wef_bodies.proofs.BodiesAgain.{body_again}
use Rattle.wef_bodies.proofs.GoodBodies.{bare_good, lease_good}
use Rattle.wef_bodies.specs.Laws.{CanBeWritten, IsPlainBody, action_of}
use Rattle.wef_bodies.specs.Reading.{body_in}
use Rattle.wef_bodies.specs.Spaces.{get_status, renew, subscribe, unsubscribe}
use Rattle.wef_bodies.specs.Written.{body_elements}
use Rattle.wef_bodies.specs.declared.bodies.Body.{Body}
use Rattle.wef_bodies.specs.declared.bodies.Body.TheVariants as body
use Rattle.wef_elements.specs.Good.{AreGoodElements}
use Rattle.wef_envelope.specs.Envelopes.{id_in, said}
use Rattle.wef_envelope.specs.Laws.{IsPlain, IsTrimmed}
use Rattle.wef_envelope.specs.Written.{written}
use Rattle.wef_envelope.specs.declared.actions.TheConstants.{EVENT_LOG}
use Rattle.wef_envelope.specs.declared.envelopes.Envelope.{Envelope}
use Rattle.wef_envelope.specs.declared.envelopes.EnvelopeFault.{EnvelopeFault}
use Rattle.wef_envelope.proofs.WrittenIsRead.{written_id_is_found, written_is_read}
use Rattle.wef_front.proofs.RepliesAreHeard.{anonymous_trimmed, tree_again}
use Rattle.wef_front_source.specs.Heard.{Hears, asked_by, asked_of, manage_asked, wanted_in, wish_asked}
use Rattle.wef_front_source.specs.Sending.{IsPlainText}
use Rattle.wef_subscribes.proofs.GoodSubscribes.{subscribe_good}
use Rattle.wef_subscribes.proofs.SubscribesAgain.{subscribe_again}
use Rattle.wef_tree.proofs.SpellsAgain.{spells_again}
use Rattle.wef_xml.proofs.Ascii.{plain_name}
use Rattle.wef_xml.specs.Good.{IsGoodTree, IsXmlText}
use Rattle.wef_requests.proofs.RequestsAreGood.{envelope_good}
use Rattle.wef_requests.specs.Requests.{IsAsking, IsKeptBody, RequestCanBeSent, Requested, RequestsAreRead, meant, request_in, request_said, requested_by, requested_bytes, requested_envelope, resource_of}

-- ---- the envelope

body_good : (b : Body) → IsAsking b → CanBeWritten b → IsKeptBody b → AreGoodElements (body_elements b) 62
body_good (body.Subscribe wish) asks can kept = (subscribe_good wish 57 can kept, tt)
body_good (body.Renew expires) asks can kept = (lease_good (codes "Renew") expires 60 (plain_name (codes "Renew") refl), tt)
body_good body.GetStatus asks can kept = (bare_good (codes "GetStatus") 61 (plain_name (codes "GetStatus") refl), tt)
body_good body.Unsubscribe asks can kept = (bare_good (codes "Unsubscribe") 61 (plain_name (codes "Unsubscribe") refl), tt)
body_good body.Enumerate asks can kept = absurd asks
body_good (body.Offers offers) asks can kept = absurd asks
body_good (body.Subscribed identifier expires) asks can kept = absurd asks
body_good (body.Renewed expires) asks can kept = absurd asks
body_good (body.StatusIs expires) asks can kept = absurd asks
body_good body.Unsubscribed asks can kept = absurd asks
body_good (body.Ended identifier status) asks can kept = absurd asks

action_trimmed : (b : Body) → IsAsking b → IsTrimmed (action_of b)
unfolding chars encode subscribe renew get_status unsubscribe
action_trimmed (body.Subscribe wish) asks = refl
action_trimmed (body.Renew expires) asks = refl
action_trimmed body.GetStatus asks = refl
action_trimmed body.Unsubscribe asks = refl
action_trimmed body.Enumerate asks = absurd asks
action_trimmed (body.Offers offers) asks = absurd asks
action_trimmed (body.Subscribed identifier expires) asks = absurd asks
action_trimmed (body.Renewed expires) asks = absurd asks
action_trimmed (body.StatusIs expires) asks = absurd asks
action_trimmed body.Unsubscribed asks = absurd asks
action_trimmed (body.Ended identifier status) asks = absurd asks

log_trimmed : IsTrimmed EVENT_LOG.now
unfolding chars encode
log_trimmed = refl

resource_trimmed : (b : Body) → IsAsking b → IfSome (resource_of b) IsTrimmed
resource_trimmed (body.Subscribe wish) asks = log_trimmed
resource_trimmed (body.Renew expires) asks = tt
resource_trimmed body.GetStatus asks = tt
resource_trimmed body.Unsubscribe asks = tt
resource_trimmed body.Enumerate asks = absurd asks
resource_trimmed (body.Offers offers) asks = absurd asks
resource_trimmed (body.Subscribed identifier expires) asks = absurd asks
resource_trimmed (body.Renewed expires) asks = absurd asks
resource_trimmed (body.StatusIs expires) asks = absurd asks
resource_trimmed body.Unsubscribed asks = absurd asks
resource_trimmed (body.Ended identifier status) asks = absurd asks

text_of : (identifier : Option (List ℕ)) → IfSome identifier IsPlainText → IfSome identifier IsXmlText
text_of None is = tt
text_of (Some identifier) is = is.1

trimmed_of : (identifier : Option (List ℕ)) → IfSome identifier IsPlainText → IfSome identifier IsTrimmed
trimmed_of None is = tt
trimmed_of (Some identifier) is = is.0

requested_good : (r : Requested) → RequestCanBeSent r → IsGoodTree (written (requested_envelope r))
requested_good r can =
    envelope_good r.to r.id r.identifier r.body (body_elements r.body) can.to.1 can.id (text_of r.identifier can.identifier) (body_good r.body can.asks can.body can.kept)

plain_request : (r : Requested) → RequestCanBeSent r → IsPlain (requested_envelope r)
plain_request r can = record {
  to = can.to.0;
  resource = resource_trimmed r.body can.asks;
  reply_to = anonymous_trimmed;
  action = action_trimmed r.body can.asks;
  id = can.spelt;
  relates = tt;
  machine = tt;
  max_size = tt;
  identifier = trimmed_of r.identifier can.identifier;
  bookmark = tt;
}

request_again : (now : ℕ) (r : Requested) → RequestCanBeSent r → request_in now (requested_bytes r) ≡ Some r
request_again now r can =
    let e : Envelope = requested_envelope r in
    ap (λ (o : Option Element). option_and_then (request_said now) (option_and_then (λ (root : Element). result_ok (said root)) o)) (tree_again (written e) (requested_good r can))
    ∙ ap (λ (read : Result Envelope EnvelopeFault). option_and_then (request_said now) (result_ok read)) (written_is_read e (plain_request r can))
    ∙ ap (requested_by (Some r.to) r.id r.identifier) (body_again now r.body e can.plain refl refl)

-- ---- what it asks

asked_is : (now : ℕ) (r : Requested) → RequestCanBeSent r → asked_by now (requested_envelope r) ≡ meant r.identifier r.body
unfolding subscribe renew get_status unsubscribe
asked_is now r can = by r.body can.plain can.asks
  where
    envelope : Body → Envelope
    envelope b = requested_envelope (record r { body = b })

    again : (b : Body) → IsPlainBody b → body_in now (envelope b) ≡ Ok b
    again b is = body_again now b (envelope b) is refl refl

    by : (b : Body) → IsPlainBody b → IsAsking b → asked_by now (envelope b) ≡ meant r.identifier b
    by (body.Subscribe wish) is asks = ap wish_asked (subscribe_again now wish is)
    by (body.Renew expires) is asks = ap (λ read. manage_asked r.identifier (wanted_in read)) (again (body.Renew expires) is)
    by body.GetStatus is asks = ap (λ read. manage_asked r.identifier (wanted_in read)) (again body.GetStatus is)
    by body.Unsubscribe is asks = ap (λ read. manage_asked r.identifier (wanted_in read)) (again body.Unsubscribe is)
    by body.Enumerate is asks = absurd asks
    by (body.Offers offers) is asks = absurd asks
    by (body.Subscribed identifier expires) is asks = absurd asks
    by (body.Renewed expires) is asks = absurd asks
    by (body.StatusIs expires) is asks = absurd asks
    by body.Unsubscribed is asks = absurd asks
    by (body.Ended identifier status) is asks = absurd asks

request_heard : (now : ℕ) (r : Requested) → RequestCanBeSent r → Hears now Utf8 (requested_bytes r) (record { relates = Some r.id; asked = meant r.identifier r.body })
request_heard now r can =
    let e : Envelope = requested_envelope r in
    let is = plain_request r can in
    let id : id_in (written e) ≡ Some r.id = written_id_is_found e is in
    let asked : asked_of now (said (written e)) ≡ meant r.identifier r.body = ap (asked_of now) (written_is_read e is) ∙ asked_is now r can in
    let heard : record { relates = id_in (written e); asked = asked_of now (said (written e)) } ≡ record { relates = Some r.id; asked = meant r.identifier r.body } =
    λ i. record { relates = id i; asked = asked i } in
    (Ok (written e), spells_again Utf8 (written e) (requested_good r can), sym heard)

pub requests_are_read : RequestsAreRead
requests_are_read = record { request = request_again; heard = request_heard }
