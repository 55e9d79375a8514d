-- The tree of an envelope says it.
use Rattle.std.proofs.Common.{◌≡◌, ℕ, Bool, true, false, not, is_some, cond, List, [], ◌∷◌, refl, ap, ◌∙◌}
use Rattle.std.specs.Prelude.{Option, Some, None, Ok, IfSome, codes}
use Rattle.std.specs.List.{find}
use Rattle.std.specs.Option.{option_and_then, option_map, option_or}
use Rattle.wef_base.specs.declared.tree.Element.{Element}
use Rattle.wef_elements.specs.Children.{as_nodes, is_called, with_text}
use Rattle.wef_elements.specs.Texts.{only_text, said_in}
use Rattle.wef_elements.proofs.Again.{elements_again, said_again, wordless}
use Rattle.wef_ids.specs.IdTexts.{id_of}
use Rattle.wef_ids.specs.declared.MessageId.{MessageId}
use Rattle.wef_envelope.specs.Envelopes.{address_in, envelope_of, id_in, may_repeat, of_parts, only, parts_among, parts_of, said, text_of, unless_beyond, unless_repeated, with_required}
use Rattle.wef_envelope.specs.Headers.{header_of, name_of, space_of}
use Rattle.wef_envelope.specs.Laws.{IsPlain, IsSpelt, IsTrimmed}
use Rattle.wef_envelope.specs.Spaces.{addressing, soap}
use Rattle.wef_envelope.specs.Written.{address_header, empty_header, part, places, standing, text_header, written}
use Rattle.wef_envelope.specs.declared.envelopes.Envelope.{Envelope}
use Rattle.wef_envelope.specs.declared.headers.Header.{Header}
use Rattle.wef_envelope.specs.declared.headers.Header.TheVariants as the
use Rattle.wef_envelope.proofs.Places.{ArePlaced, at_place, first_at, named_is, none_repeated, only_at, understood}

-- ---- parts

parts_read : (headers body : List Element) → parts_of (part (codes "Envelope") (part (codes "Header") headers ∷ part (codes "Body") body ∷ [])) ≡ Some (headers, body)
unfolding parts_of soap
parts_read headers body =
    let header : Element = part (codes "Header") headers in
    let last : Element = part (codes "Body") body in
    (λ i. cond (not (wordless (header ∷ last ∷ []) i)) (parts_among (elements_again (header ∷ last ∷ []) i)) None)
    ∙ (λ i. Some (elements_again headers i, elements_again body i))

-- ---- places

text_placed : (h : Header) (text : Option (List ℕ)) → may_repeat h ≡ false → IfSome (option_map (text_header h) text) (λ e. header_of e ≡ Some h)
text_placed h None once = tt
text_placed h (Some t) once = named_is h (only_text t) once

address_placed : (h : Header) (text : Option (List ℕ)) → may_repeat h ≡ false → IfSome (option_map (address_header h) text) (λ e. header_of e ≡ Some h)
address_placed h None once = tt
address_placed h (Some t) once = named_is h (as_nodes (with_text addressing (codes "Address") t ∷ [])) once

id_placed : (h : Header) (id : Option MessageId) → may_repeat h ≡ false → IfSome (option_map (λ (x : MessageId). text_header h x.text) id) (λ e. header_of e ≡ Some h)
id_placed h None once = tt
id_placed h (Some id) once = named_is h (only_text id.text) once

empty_placed : (h : Header) (wanted : Bool) → may_repeat h ≡ false → IfSome (empty_header h wanted) (λ e. header_of e ≡ Some h)
empty_placed h false once = tt
empty_placed h true once = named_is h (only_text []) once

placed : (e : Envelope) → IsPlain e → ArePlaced (places e)
placed e plain = (
  text_placed the.To e.to refl,
  (
    text_placed the.Resource e.resource refl,
    (
      address_placed the.ReplyTo e.reply_to refl,
      (
        named_is the.Action (only_text e.action) refl,
        (
          named_is the.MessageId (only_text e.id.text) refl,
          (
            id_placed the.Relates e.relates refl,
            (
              text_placed the.Machine e.machine refl,
              (
                text_placed the.MaxSize e.max_size refl,
                (
                  text_placed the.Identifier e.identifier refl,
                  (
                    plain.bookmark,
                    (empty_placed the.AckRequested e.ack_wanted refl, tt),
                  ),
                ),
              ),
            ),
          ),
        ),
      ),
    ),
  ),
)

-- ---- fields

text_again : (h : Header) (text : Option (List ℕ)) → IfSome text IsTrimmed → option_map said_in (option_or (option_map (text_header h) text) None) ≡ text
text_again h None is = refl
text_again h (Some t) is = ap Some (said_again (space_of h) (name_of h) t is)

address_said : (h : Header) (t : List ℕ) → IsTrimmed t → address_in (address_header h t) ≡ Some t
unfolding addressing
address_said h t is =
    ap (λ es. option_map said_in (find (is_called addressing (codes "Address")) es)) (elements_again (with_text addressing (codes "Address") t ∷ []))
    ∙ ap Some (said_again addressing (codes "Address") t is)

address_again : (h : Header) (text : Option (List ℕ)) → IfSome text IsTrimmed → option_and_then address_in (option_or (option_map (address_header h) text) None) ≡ text
address_again h None is = refl
address_again h (Some t) is = address_said h t is

id_is : (id : MessageId) → IsSpelt id → id_of (said_in (text_header the.Relates id.text)) ≡ id
id_is id is =
    ap id_of (said_again (space_of the.Relates) (name_of the.Relates) id.text is.trimmed)
    ∙ (λ i. record { value = is.value i; text = id.text })

id_again : (id : Option MessageId) → IfSome id IsSpelt →
    option_map id_of (option_map said_in (option_or (option_map (λ (x : MessageId). text_header the.Relates x.text) id) None)) ≡ id
id_again None is = refl
id_again (Some id) is = ap Some (id_is id is)

same_element : (o : Option Element) → option_or o None ≡ o
same_element None = refl
same_element (Some e) = refl

wanted_again : (h : Header) (wanted : Bool) → is_some (option_or (empty_header h wanted) None) ≡ wanted
wanted_again h false = refl
wanted_again h true = refl

-- ---- the law

fields : (e : Envelope) → IsPlain e → envelope_of (standing (places e)) e.body e.action e.id.text ≡ e
fields e plain =
    let ps = places e in
    let there = placed e plain in
    let text : (h : Header) → text_of h (standing ps) ≡ option_map said_in (at_place h ps) = λ h. ap (option_map said_in) (first_at h ps there) in
    λ i. record {
      to = (text the.To ∙ text_again the.To e.to plain.to) i;
      resource = (text the.Resource ∙ text_again the.Resource e.resource plain.resource) i;
      reply_to = (ap (option_and_then address_in) (first_at the.ReplyTo ps there) ∙ address_again the.ReplyTo e.reply_to plain.reply_to) i;
      action = e.action;
      id = record { value = plain.id.value i; text = e.id.text };
      relates = (ap (option_map id_of) (text the.Relates) ∙ id_again e.relates plain.relates) i;
      machine = (text the.Machine ∙ text_again the.Machine e.machine plain.machine) i;
      max_size = (text the.MaxSize ∙ text_again the.MaxSize e.max_size plain.max_size) i;
      identifier = (text the.Identifier ∙ text_again the.Identifier e.identifier plain.identifier) i;
      bookmark = (first_at the.Bookmark ps there ∙ same_element e.bookmark) i;
      ack_wanted = (ap is_some (first_at the.AckRequested ps there) ∙ wanted_again the.AckRequested e.ack_wanted) i;
      body = e.body;
    }

required : (e : Envelope) → IsPlain e → with_required (standing (places e)) e.body (text_of the.Action (standing (places e))) (text_of the.MessageId (standing (places e))) ≡ Ok e
required e plain =
    let ps = places e in
    let there = placed e plain in
    let action : text_of the.Action (standing ps) ≡ Some e.action =
    ap (option_map said_in) (first_at the.Action ps there) ∙ ap Some (said_again (space_of the.Action) (name_of the.Action) e.action plain.action) in
    let id : text_of the.MessageId (standing ps) ≡ Some e.id.text =
    ap (option_map said_in) (first_at the.MessageId ps there) ∙ ap Some (said_again (space_of the.MessageId) (name_of the.MessageId) e.id.text plain.id.trimmed) in
    (λ i. with_required (standing ps) e.body (action i) (id i)) ∙ ap Ok (fields e plain)

pub written_is_read : (e : Envelope) → IsPlain e → said (written e) ≡ Ok e
unfolding written
written_is_read e plain =
    let ps = places e in
    let there = placed e plain in
    ap of_parts (parts_read (standing ps) e.body)
    ∙ ap (unless_repeated (standing ps) e.body) (none_repeated ps there refl)
    ∙ ap (unless_beyond (standing ps) e.body) (understood ps there)
    ∙ required e plain

-- the id that an answer to it relates to is its own
pub written_id_is_found : (e : Envelope) → IsPlain e → id_in (written e) ≡ Some e.id
unfolding written
written_id_is_found e plain =
    let ps = places e in
    ap (λ o. option_map (λ (x : Element). id_of (said_in x)) (option_and_then (λ (parts : List Element × List Element). only the.MessageId parts.0) o)) (parts_read (standing ps) e.body)
    ∙ ap (option_map (λ (x : Element). id_of (said_in x))) (only_at the.MessageId ps (placed e plain) refl)
    ∙ ap (λ t. Some (id_of t)) (said_again (space_of the.MessageId) (name_of the.MessageId) e.id.text plain.id.trimmed)
    ∙ (λ i. Some (record { value = plain.id.value i; text = e.id.text }))
