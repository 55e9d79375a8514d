-- The tree of an envelope of good parts is good.
use Rattle.std.proofs.Common.{◌≡◌, ℕ, suc, Bool, true, false, ◌||◌, List, [], ◌∷◌, refl}
use Rattle.std.specs.Prelude.{Option, Some, None, IfSome, codes}
use Rattle.std.specs.Option.{option_map}
use Rattle.wef_base.specs.declared.tree.Element.{Element}
use Rattle.wef_elements.specs.Children.{with_text}
use Rattle.wef_elements.specs.Good.{AreGoodElements}
use Rattle.wef_elements.proofs.GoodTexts.{empty_text}
use Rattle.wef_elements.proofs.GoodTrees.{holder_good, leaf_good}
use Rattle.wef_ids.specs.declared.MessageId.{MessageId}
use Rattle.wef_xml.specs.Good.{IsGoodElement, IsLocalName, IsXmlText}
use Rattle.wef_xml.proofs.Ascii.{is_plain_name, is_plain_text, plain_name, plain_text}
use Rattle.wef_envelope.specs.Envelopes.{may_repeat}
use Rattle.wef_envelope.specs.Headers.{name_of, space_of}
use Rattle.wef_envelope.specs.Laws.{HasGoodParts}
use Rattle.wef_envelope.specs.Spaces.{addressing, eventing, machine, management, soap, windows}
use Rattle.wef_envelope.specs.Written.{Place, address_header, empty_header, part, places, standing, text_header, written}
use Rattle.wef_envelope.specs.declared.envelopes.Envelope.{Envelope}
use Rattle.wef_envelope.specs.declared.headers.Header.{Header}
use Rattle.wef_envelope.specs.declared.headers.Header.TheVariants as the
use Rattle.wef_envelope.proofs.Tables.{each_header}

-- ---- names and namespaces

pub soap_good : IsXmlText soap
unfolding soap
soap_good = plain_text soap refl

addressing_good : IsXmlText addressing
unfolding addressing
addressing_good = plain_text addressing refl

space_good : (h : Header) → IsXmlText (space_of h)
unfolding space_of addressing eventing machine management windows
space_good h = plain_text (space_of h) (each_header (λ x. is_plain_text (space_of x)) refl h)

-- each header that stands once has a name
name_good : (h : Header) → may_repeat h ≡ false → IsLocalName (name_of h)
unfolding name_of
name_good h once = plain_name (name_of h) (rw once at (each_header (λ x. may_repeat x || is_plain_name (name_of x)) refl h))

-- ---- places

-- what stands at a place, where something does, is good
abbrev IsGoodPlace : Option Element → ℕ → Type 0
IsGoodPlace o room = IfSome o (λ (e : Element). IsGoodElement e room)

text_good : (h : Header) (text : Option (List ℕ)) (room : ℕ) → may_repeat h ≡ false → IfSome text IsXmlText → IsGoodPlace (option_map (text_header h) text) (suc room)
text_good h None room once is = tt
text_good h (Some t) room once is = leaf_good (space_of h) (name_of h) t room (space_good h) (name_good h once) is

reply_good : (h : Header) (text : Option (List ℕ)) (room : ℕ) → may_repeat h ≡ false → IfSome text IsXmlText → IsGoodPlace (option_map (address_header h) text) (suc (suc room))
reply_good h None room once is = tt
reply_good h (Some t) room once is =
    holder_good (space_of h) (name_of h) (with_text addressing (codes "Address") t ∷ []) (suc room) (space_good h) (name_good h once)
    (leaf_good addressing (codes "Address") t room addressing_good (plain_name (codes "Address") refl) is, tt)

id_good : (h : Header) (id : Option MessageId) (room : ℕ) → may_repeat h ≡ false → IfSome id (λ (x : MessageId). IsXmlText x.text)
    → IsGoodPlace (option_map (λ (x : MessageId). text_header h x.text) id) (suc room)
id_good h None room once is = tt
id_good h (Some id) room once is = leaf_good (space_of h) (name_of h) id.text room (space_good h) (name_good h once) is

flag_good : (h : Header) (wanted : Bool) (room : ℕ) → may_repeat h ≡ false → IsGoodPlace (empty_header h wanted) (suc room)
flag_good h false room once = tt
flag_good h true room once = leaf_good (space_of h) (name_of h) [] room (space_good h) (name_good h once) empty_text

abbrev AreGoodPlaces : List Place → ℕ → Type 0
AreGoodPlaces [] room = Unit {0}
AreGoodPlaces (p ∷ ps) room = IsGoodPlace p.1 room × AreGoodPlaces ps room

standing_good : (ps : List Place) (room : ℕ) → AreGoodPlaces ps room → AreGoodElements (standing ps) room
standing_good [] room good = tt
standing_good ((h, None) ∷ ps) room good = standing_good ps room good.1
standing_good ((h, Some e) ∷ ps) room good = (good.0, standing_good ps room good.1)

places_good : (e : Envelope) (room : ℕ) → HasGoodParts e (suc (suc room)) → AreGoodPlaces (places e) (suc (suc room))
places_good e room good = (
  text_good the.To e.to (suc room) refl good.to,
  (
    text_good the.Resource e.resource (suc room) refl good.resource,
    (
      reply_good the.ReplyTo e.reply_to room refl good.reply_to,
      (
        leaf_good (space_of the.Action) (name_of the.Action) e.action (suc room) (space_good the.Action) (name_good the.Action refl) good.action,
        (
          leaf_good (space_of the.MessageId) (name_of the.MessageId) e.id.text (suc room) (space_good the.MessageId) (name_good the.MessageId refl) good.id,
          (
            id_good the.Relates e.relates (suc room) refl good.relates,
            (
              text_good the.Machine e.machine (suc room) refl good.machine,
              (
                text_good the.MaxSize e.max_size (suc room) refl good.max_size,
                (
                  text_good the.Identifier e.identifier (suc room) refl good.identifier,
                  (
                    good.bookmark,
                    (flag_good the.AckRequested e.ack_wanted (suc room) refl, tt),
                  ),
                ),
              ),
            ),
          ),
        ),
      ),
    ),
  ),
)

-- ---- the law

pub written_is_good : (e : Envelope) (room : ℕ) → HasGoodParts e (suc (suc room)) → IsGoodElement (written e) (suc (suc (suc (suc room))))
unfolding written
written_is_good e room good =
    let header : Element = part (codes "Header") (standing (places e)) in
    let body : Element = part (codes "Body") e.body in
    holder_good soap (codes "Envelope") (header ∷ body ∷ []) (suc (suc (suc room))) soap_good (plain_name (codes "Envelope") refl) (
      holder_good soap (codes "Header") (standing (places e)) (suc (suc room)) soap_good (plain_name (codes "Header") refl) (standing_good (places e) (suc (suc room)) (places_good e room good)),
      (holder_good soap (codes "Body") e.body (suc (suc room)) soap_good (plain_name (codes "Body") refl) good.body, tt),
    )
