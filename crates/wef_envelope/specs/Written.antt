-- The tree that is written for an envelope: its headers in their order, and its body.
use Rattle.std.specs.Prelude.{ℕ, Bool, List, [], ◌∷◌, codes, Option, Some, None, if◌then◌else◌}
use Rattle.std.specs.List.{flat_map}
use Rattle.std.specs.Option.{option_map, option_to_list}
use Rattle.wef_base.specs.declared.tree.Element.{Element}
use Rattle.wef_elements.specs.Children.{with_elements, with_text}
use Rattle.wef_ids.specs.declared.MessageId.{MessageId}
use Rattle.wef_envelope.specs.Headers.{name_of, space_of}
use Rattle.wef_envelope.specs.Spaces.{addressing, soap}
use Rattle.wef_envelope.specs.declared.envelopes.Envelope.{Envelope}
use Rattle.wef_envelope.specs.declared.headers.Header.{Header}
use Rattle.wef_envelope.specs.declared.headers.Header.TheVariants as the

-- a header that says a text
abbrev pub text_header : Header → List ℕ → Element
text_header header text = with_text (space_of header) (name_of header) text

-- a header that holds an address
abbrev pub address_header : Header → List ℕ → Element
address_header header text = with_elements (space_of header) (name_of header) (with_text addressing (codes "Address") text ∷ [])

-- a header that says nothing, where it is wanted
abbrev pub empty_header : Header → Bool → Option Element
empty_header header wanted = if wanted then Some (text_header header []) else None

-- the place of a header, with what stands there
abbrev pub Place : Type 0
Place = Header × Option Element

-- the places of all headers, in the order in which they are written
abbrev pub places : Envelope → List Place
places e =
    (the.To, option_map (text_header the.To) e.to) ∷
    (the.Resource, option_map (text_header the.Resource) e.resource) ∷
    (the.ReplyTo, option_map (address_header the.ReplyTo) e.reply_to) ∷
    (the.Action, Some (text_header the.Action e.action)) ∷
    (the.MessageId, Some (text_header the.MessageId e.id.text)) ∷
    (the.Relates, option_map (λ (id : MessageId). text_header the.Relates id.text) e.relates) ∷
    (the.Machine, option_map (text_header the.Machine) e.machine) ∷
    (the.MaxSize, option_map (text_header the.MaxSize) e.max_size) ∷
    (the.Identifier, option_map (text_header the.Identifier) e.identifier) ∷
    (the.Bookmark, e.bookmark) ∷
    (the.AckRequested, empty_header the.AckRequested e.ack_wanted) ∷ []

-- what stands at places
abbrev pub standing : List Place → List Element
standing ps = flat_map (λ (p : Place). option_to_list p.1) ps

-- an element of SOAP that holds elements
abbrev pub part : List ℕ → List Element → Element
part name es = with_elements soap name es

-- the tree of an envelope
unfoldable pub written : Envelope → Element
written e = part (codes "Envelope") (part (codes "Header") (standing (places e)) ∷ part (codes "Body") e.body ∷ [])
