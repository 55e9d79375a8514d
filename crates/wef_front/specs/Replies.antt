-- The replies of a collector as bytes, by what they say and the ids that they bear.
use Rattle.std.specs.Prelude.{◌≡◌, ℕ, ◌/◌, ◌%◌, true, List, length, Some, unwrap_or}
use Rattle.std.specs.List.{AllByRecursion}
use Rattle.wef_base.specs.declared.tree.Charset.TheVariants.{Utf8}
use Rattle.wef_bodies.specs.Laws.{IsPlainOffer, OfferCanStand}
use Rattle.wef_envelope.specs.Faults.{is_known}
use Rattle.wef_envelope.specs.Laws.{IsSpelt}
use Rattle.wef_eventing.specs.declared.offers.Offer.{Offer}
use Rattle.wef_front_collector.specs.Replies.{ack_envelope, drawn_ids, offers_envelope}
use Rattle.wef_ids.specs.declared.MessageId.{MessageId}
use Rattle.wef_ids.specs.declared.ids.Ids.{Ids}
use Rattle.wef_replies.specs.Replies.{answer_with, fault_envelope}
use Rattle.wef_source.specs.declared.messages.Reply as source
use Rattle.wef_source.specs.declared.messages.Reply.TheVariants as replies
use Rattle.wef_xml.specs.Good.{IsXmlText}

-- the ids of an end that drew this value last
abbrev pub ids_at : ℕ → Ids
ids_at value = record { boot = value / 18446744073709551616; drawn = value % 18446744073709551616 }

-- so the ids of the envelopes in offers are known from that of the answer
abbrev pub ids_nested_in : MessageId → List Offer → List MessageId
ids_nested_in id list = drawn_ids (length list) (ids_at (unwrap_or id.value 0))

-- the bytes of a reply to a source, under an id
abbrev pub reply_bytes : MessageId → MessageId → source.Reply → List ℕ
reply_bytes id relates replies.Ack = (answer_with 200 Utf8 (ack_envelope id (Some relates))).body
reply_bytes id relates (replies.Fault name) = (answer_with 500 Utf8 (fault_envelope name id (Some relates))).body

-- the bytes of the answer to an Enumerate with offers, under an id
abbrev pub offers_bytes : MessageId → MessageId → List Offer → List ℕ
offers_bytes id relates list = (answer_with 200 Utf8 (offers_envelope id (ids_nested_in id list) (Some relates) list)).body

-- An answer with offers that can be written and read again: its ids are those of their texts, which XML allows, and its offers
-- can stand in a message and are read as they were written.
pub record CanBeAnswered (own asked : MessageId) (list : List Offer) : Type 0 where
  pub id : IsSpelt own
  pub id_text : IsXmlText own.text
  pub relates : IsSpelt asked
  pub relates_text : IsXmlText asked.text
  pub nested : AllByRecursion IsSpelt (ids_nested_in own list)
  pub plain : AllByRecursion IsPlainOffer list
  pub stand : AllByRecursion OfferCanStand list

-- a reply that can be written: its fault has a name of the table
abbrev pub IsKnownReply : source.Reply → Type 0
IsKnownReply replies.Ack = Unit {0}
IsKnownReply (replies.Fault name) = is_known name ≡ true
