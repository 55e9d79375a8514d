-- What is written for an envelope says it, and is a good tree.
use Rattle.std.specs.Prelude.{◌≡◌, ℕ, suc, List, Some, IfSome}
use Rattle.std.specs.declared.result.Result.TheVariants.{Ok}
use Rattle.wef_base.specs.Names.{trimmed}
use Rattle.wef_elements.specs.Good.{AreGoodElements}
use Rattle.wef_ids.specs.IdTexts.{id_value}
use Rattle.wef_ids.specs.declared.MessageId.{MessageId}
use Rattle.wef_xml.specs.Good.{IsGoodElement, IsXmlText}
use Rattle.wef_envelope.specs.Envelopes.{id_in, said}
use Rattle.wef_envelope.specs.Headers.{header_of}
use Rattle.wef_envelope.specs.Written.{written}
use Rattle.wef_envelope.specs.declared.envelopes.Envelope.{Envelope}
use Rattle.wef_envelope.specs.declared.headers.Header.TheVariants as the

-- a text without spaces at both ends
abbrev pub IsTrimmed : List ℕ → Type 0
IsTrimmed text = trimmed text ≡ text

-- an id that is the one of its text
pub record IsSpelt (id : MessageId) : Type 0 where
  pub trimmed : IsTrimmed id.text
  pub value : id_value id.text ≡ id.value

-- An envelope whose texts are without spaces at both ends, whose ids are those of their texts, and whose bookmark is a header
-- Bookmark.
pub record IsPlain (e : Envelope) : Type 0 where
  pub to : IfSome e.to IsTrimmed
  pub resource : IfSome e.resource IsTrimmed
  pub reply_to : IfSome e.reply_to IsTrimmed
  pub action : IsTrimmed e.action
  pub id : IsSpelt e.id
  pub relates : IfSome e.relates IsSpelt
  pub machine : IfSome e.machine IsTrimmed
  pub max_size : IfSome e.max_size IsTrimmed
  pub identifier : IfSome e.identifier IsTrimmed
  pub bookmark : IfSome e.bookmark (λ header. header_of header ≡ Some the.Bookmark)

-- Such an envelope is what its tree says, and an answer to it relates to its id.
pub record WrittenIsRead : Type 0 where
  pub envelope : (e : Envelope) → IsPlain e → said (written e) ≡ Ok e
  pub id : (e : Envelope) → IsPlain e → id_in (written e) ≡ Some e.id

-- The texts of an envelope hold characters that XML allows, and its elements have so much room.
pub record HasGoodParts (e : Envelope) (room : ℕ) : Type 0 where
  pub to : IfSome e.to IsXmlText
  pub resource : IfSome e.resource IsXmlText
  pub reply_to : IfSome e.reply_to IsXmlText
  pub action : IsXmlText e.action
  pub id : IsXmlText e.id.text
  pub relates : IfSome e.relates (λ (id : MessageId). IsXmlText id.text)
  pub machine : IfSome e.machine IsXmlText
  pub max_size : IfSome e.max_size IsXmlText
  pub identifier : IfSome e.identifier IsXmlText
  pub bookmark : IfSome e.bookmark (λ header. IsGoodElement header room)
  pub body : AreGoodElements e.body room

-- The tree of such an envelope is good: it goes two elements deeper. The address in a header needs two itself.
abbrev pub WrittenIsGood : Type 0
WrittenIsGood = (e : Envelope) (room : ℕ) → HasGoodParts e (suc (suc room)) → IsGoodElement (written e) (suc (suc (suc (suc room))))
