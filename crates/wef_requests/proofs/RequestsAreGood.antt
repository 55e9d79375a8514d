-- The trees of requests are good.
use Rattle.std.proofs.Common.{◌≡◌, ℕ, List, ◌++◌, codes, refl, ap, sym, append_assoc, ◌∙◌}
use Rattle.std.proofs.lemmas.Bool.{and_from}
use Rattle.std.proofs.lemmas.List.Folds.{list_all-append}
use Rattle.std.proofs.lemmas.Str.{encodes-append}
use Rattle.std.specs.Prelude.{Option, IfSome}
use lib.Utf8.{encode}
use Rattle.wef_base.proofs.Trimmed.{without_end_other}
use Rattle.wef_base.specs.Characters.{is_xml_char}
use Rattle.wef_base.specs.Names.{without_end}
use Rattle.wef_base.specs.declared.tree.Element.{Element}
use Rattle.wef_bodies.specs.declared.bodies.Body.{Body}
use Rattle.wef_bodies.specs.declared.bodies.Body.TheVariants as body
use Rattle.wef_collector.specs.Asking.{CanBeRequested}
use Rattle.wef_collector.specs.declared.asking.Request.{Request}
use Rattle.wef_documents.proofs.TrimmedTexts.{IsTrim, trim_allowed, trim_stays}
use Rattle.wef_elements.specs.Good.{AreGoodElements}
use Rattle.wef_envelope.specs.Written.{written}
use Rattle.wef_envelope.specs.declared.actions.TheConstants.{ANONYMOUS, EVENT_LOG}
use Rattle.wef_envelope.proofs.WrittenIsGood.{written_is_good}
use Rattle.wef_front_source.proofs.Texts.{action_good}
use Rattle.wef_front_source.specs.Sending.{IsPlainText}
use Rattle.wef_ids.specs.declared.MessageId.{MessageId}
use Rattle.wef_xml.proofs.Ascii.{plain_text}
use Rattle.wef_xml.specs.Good.{IsGoodTree, IsXmlText}
use Rattle.wef_requests.specs.Requests.{envelope_to, envelope_with, resource_of, source_address}

-- where a source takes requests is a text without spaces at its ends, whatever its address has
address_trim : (at : List ℕ) → IsXmlText at → IsTrim (source_address at)
unfolding source_address encode
address_trim at allowed =
    let cs = allowed.characters in
    let parted : codes "http://" ++ cs ++ codes "/wsman" ≡ (codes "http://" ++ cs ++ codes "/wsma") ++ codes "n" = sym (append_assoc (codes "http://") (cs ++ codes "/wsma") (codes "n") ∙ ap (λ t. codes "http://" ++ t) (append_assoc cs (codes "/wsma") (codes "n"))) in
    record {
      characters = codes "http://" ++ cs ++ codes "/wsman";
      spelt = ap (λ t. codes "http://" ++ t ++ codes "/wsman") allowed.spelt ∙ ap (λ t. codes "http://" ++ t) (sym (encodes-append cs (codes "/wsman")));
      allowed = list_all-append is_xml_char cs (codes "/wsman") ∙ and_from _ _ allowed.allowed refl;
      start = refl;
      end = ap without_end parted ∙ without_end_other (codes "http://" ++ cs ++ codes "/wsma") 110 refl ∙ sym parted;
    }

pub address_plain : (at : List ℕ) → IsXmlText at → IsPlainText (source_address at)
address_plain at allowed = (trim_stays (source_address at) (address_trim at allowed), trim_allowed (source_address at) (address_trim at allowed))

resource_good : (b : Body) → IfSome (resource_of b) IsXmlText
resource_good body.Enumerate = tt
resource_good (body.Offers offers) = tt
resource_good (body.Subscribe wish) = plain_text EVENT_LOG.now refl
resource_good (body.Subscribed identifier expires) = tt
resource_good (body.Renew expires) = tt
resource_good (body.Renewed expires) = tt
resource_good body.GetStatus = tt
resource_good (body.StatusIs expires) = tt
resource_good body.Unsubscribe = tt
resource_good body.Unsubscribed = tt
resource_good (body.Ended identifier status) = tt

pub envelope_good :
    (to : List ℕ) (id : MessageId) (identifier : Option (List ℕ)) (b : Body) (elements : List Element) → IsXmlText to → IsXmlText id.text → IfSome identifier IsXmlText →
    AreGoodElements elements 62 → IsGoodTree (written (envelope_to to id identifier b elements))
envelope_good to id identifier b elements to_text id_text identifier_text good =
    written_is_good (envelope_to to id identifier b elements) 60 (record {
      to = to_text;
      resource = resource_good b;
      reply_to = plain_text ANONYMOUS.now refl;
      action = action_good b;
      id = id_text;
      relates = tt;
      machine = tt;
      max_size = tt;
      identifier = identifier_text;
      bookmark = tt;
      body = good;
    })

pub request_good : (r : Request) (elements : List Element) → CanBeRequested r → AreGoodElements elements 62 → IsGoodTree (written (envelope_with r elements))
request_good r elements can good =
    envelope_good (source_address r.source.address) r.id r.identifier r.body elements (address_plain r.source.address can.address).1 can.id can.identifier good
