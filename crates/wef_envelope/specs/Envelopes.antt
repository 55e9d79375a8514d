-- What an envelope says (SOAP 1.2, 5): an element Envelope with at most one Header, and then one Body. The known headers are
-- told by name, and each but those of Windows stands once. A header that isn't known, and must be understood, is refused.
use Rattle.std.specs.Prelude.{◌≡◌, ℕ, ◌==◌, Bool, false, ◌&&◌, ◌||◌, not, is_some, List, [], ◌∷◌, codes, Option, Some, None, Result, if◌then◌else◌}
use Rattle.std.specs.List.{find, list_any}
use Rattle.std.specs.Option.{option_and_then, option_map}
use Rattle.std.specs.declared.result.Result.TheVariants.{Ok, Err}
use Rattle.wef_base.specs.Names.{same}
use Rattle.wef_base.specs.declared.tree.Attribute.{Attribute}
use Rattle.wef_base.specs.declared.tree.Element.{Element}
use Rattle.wef_elements.specs.Children.{elements_in, first_called, has_words, is_called}
use Rattle.wef_elements.specs.Texts.{said_in}
use Rattle.wef_ids.specs.IdTexts.{id_of}
use Rattle.wef_ids.specs.declared.MessageId.{MessageId}
use Rattle.wef_envelope.specs.Headers.{first, header_of, is_header, number_of}
use Rattle.wef_envelope.specs.Spaces.{addressing, soap}
use Rattle.wef_envelope.specs.declared.envelopes.Envelope.{Envelope}
use Rattle.wef_envelope.specs.declared.envelopes.EnvelopeFault.{EnvelopeFault}
use Rattle.wef_envelope.specs.declared.envelopes.EnvelopeFault.TheVariants.{NoMemory, NotSoap, MustUnderstand, HeaderRequired, RepeatedHeader}
use Rattle.wef_envelope.specs.declared.headers.Header.{Header}
use Rattle.wef_envelope.specs.declared.headers.Header.TheVariants as the

-- ---- headers

-- whether an element is a header of a kind
abbrev pub is_kind : Header → Element → Bool
is_kind header e = is_header header (header_of e)

-- Windows sends several headers of its own namespace; any other known one stands once
abbrev pub may_repeat : Header → Bool
may_repeat header = number_of header == number_of the.Private

-- whether a header that must stand once comes again among these
abbrev pub comes_again : Option Header → List Element → Bool
comes_again None headers = false
comes_again (Some header) headers = not (may_repeat header) && list_any (is_kind header) headers

-- the first header that comes again behind itself
abbrev pub repeated : List Element → Option Element
repeated [] = None
repeated (e ∷ es) = if comes_again (header_of e) es then Some e else repeated es

-- the attribute by which a sender asks that a header be understood (SOAP 1.2, 5.2.3)
abbrev pub is_demand : Attribute → Bool
is_demand a = same soap a.space && same (codes "mustUnderstand") a.name && (same (codes "true") a.value || same (codes "1") a.value)

-- a header that isn't known, and must be understood
abbrev pub is_beyond : Element → Bool
is_beyond e = not (is_some (header_of e)) && list_any is_demand e.attributes

-- what the first header of a kind says
abbrev pub text_of : Header → List Element → Option (List ℕ)
text_of header headers = option_map said_in (first header headers)

-- the address that a header holds
abbrev pub address_in : Element → Option (List ℕ)
address_in e = option_map said_in (first_called addressing (codes "Address") e.children)

-- ---- envelopes

-- an envelope with what each has that is written, and with no other header
abbrev pub plain_envelope : List ℕ → List ℕ → MessageId → List Element → Envelope
plain_envelope to action id body = record {
  to = Some to;
  resource = None;
  reply_to = None;
  action = action;
  id = id;
  relates = None;
  machine = None;
  max_size = None;
  identifier = None;
  bookmark = None;
  ack_wanted = false;
  body = body;
}

-- the envelope of these headers and elements, its action and its id
abbrev pub envelope_of : List Element → List Element → List ℕ → List ℕ → Envelope
envelope_of headers body action id = record {
  to = text_of the.To headers;
  resource = text_of the.Resource headers;
  reply_to = option_and_then address_in (first the.ReplyTo headers);
  action = action;
  id = id_of id;
  relates = option_map id_of (text_of the.Relates headers);
  machine = text_of the.Machine headers;
  max_size = text_of the.MaxSize headers;
  identifier = text_of the.Identifier headers;
  bookmark = first the.Bookmark headers;
  ack_wanted = is_some (first the.AckRequested headers);
  body = body;
}

-- the same, once it was looked for action and id; an envelope without them is refused, for the action first
abbrev pub with_required : List Element → List Element → Option (List ℕ) → Option (List ℕ) → Result Envelope EnvelopeFault
with_required headers body (Some action) (Some id) = Ok (envelope_of headers body action id)
with_required headers body (Some action) None = Err (HeaderRequired (codes "MessageID"))
with_required headers body None id = Err (HeaderRequired (codes "Action"))

-- the same, unless a header that isn't known must be understood
abbrev pub unless_beyond : List Element → List Element → Option Element → Result Envelope EnvelopeFault
unless_beyond headers body (Some e) = Err (MustUnderstand e.name)
unless_beyond headers body None = with_required headers body (text_of the.Action headers) (text_of the.MessageId headers)

-- the same, unless a header is repeated
abbrev pub unless_repeated : List Element → List Element → Option Element → Result Envelope EnvelopeFault
unless_repeated headers body (Some e) = Err (RepeatedHeader e.name)
unless_repeated headers body None = unless_beyond headers body (find is_beyond headers)

-- an element of SOAP
abbrev pub is_part : List ℕ → Element → Bool
is_part name e = is_called soap name e

-- the headers and the elements of the Body, where the parts of an envelope are good
abbrev pub parts_among : List Element → Option (List Element × List Element)
parts_among (body ∷ []) = if is_part (codes "Body") body then Some ([], elements_in body.children) else None
parts_among (header ∷ body ∷ []) =
    if is_part (codes "Header") header && is_part (codes "Body") body then Some (elements_in header.children, elements_in body.children) else None
parts_among _ = None

-- those of a tree, where it is an envelope
unfoldable pub parts_of : Element → Option (List Element × List Element)
parts_of root = if is_part (codes "Envelope") root && not (has_words root.children) then parts_among (elements_in root.children) else None

-- the envelope of headers and elements of a Body, where there are these
abbrev pub of_parts : Option (List Element × List Element) → Result Envelope EnvelopeFault
of_parts None = Err NotSoap
of_parts (Some parts) = unless_repeated parts.0 parts.1 (repeated parts.0)

-- The envelope that a tree says, or the first of these that holds: it is none; a header comes again; a header that isn't known
-- must be understood; there is no Action; there is no MessageID.
abbrev pub said : Element → Result Envelope EnvelopeFault
said root = of_parts (parts_of root)

-- What is read of a tree is what it says, but for want of memory.
abbrev pub Says : Result Envelope EnvelopeFault → Result Envelope EnvelopeFault → Type 0
Says (Ok envelope) given = given ≡ Ok envelope
Says (Err NoMemory) given = Unit {0}
Says (Err NotSoap) given = given ≡ Err NotSoap
Says (Err (MustUnderstand name)) given = given ≡ Err (MustUnderstand name)
Says (Err (HeaderRequired name)) given = given ≡ Err (HeaderRequired name)
Says (Err (RepeatedHeader name)) given = given ≡ Err (RepeatedHeader name)

-- ---- the id that an answer relates to, also where the envelope is refused

-- the header of a kind, where there is exactly one
abbrev pub only : Header → List Element → Option Element
only header [] = None
only header (e ∷ es) = if is_kind header e then (if list_any (is_kind header) es then None else Some e) else only header es

-- the id of an envelope that has exactly one
abbrev pub id_in : Element → Option MessageId
id_in root = option_map (λ e. id_of (said_in e)) (option_and_then (λ parts. only the.MessageId parts.0) (parts_of root))
