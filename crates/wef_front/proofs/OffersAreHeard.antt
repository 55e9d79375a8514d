-- What the collector offers, the source hears.
use Rattle.std.proofs.Common.{◌≡◌, ℕ, zero, suc, ◌+◌, ◌*◌, ◌/◌, ◌%◌, false, Bool, cond, List, [], ◌∷◌, length, refl, ap, sym, ◌∙◌, arith}
use Rattle.std.specs.Prelude.{Option, Some, None, Result, min, unwrap_or}
use Rattle.std.specs.List.{AllByRecursion}
use Rattle.std.specs.Option.{option_and_then, option_map}
use Rattle.std.specs.Result.{result_ok}
use Rattle.std.specs.Str.{chars}
use Rattle.std.proofs.Math.Utf8.{encode}
use Rattle.wef_base.specs.Names.{same}
use Rattle.wef_base.specs.declared.tree.Charset.TheVariants.{Utf8}
use Rattle.wef_base.specs.declared.tree.Element.{Element}
use Rattle.wef_bodies.proofs.GoodBodies.{answer_good}
use Rattle.wef_bodies.proofs.OffersAgain.{offers_again}
use Rattle.wef_bodies.specs.Offers.{offers_in}
use Rattle.wef_bodies.specs.Laws.{IsPlainOffer, IsXmlId, OfferCanStand}
use Rattle.wef_subscribes.specs.declared.faults.BodyFault.{BodyFault}
use Rattle.wef_bodies.specs.Written.{offers_element}
use Rattle.wef_elements.specs.Good.{AreGoodElements}
use Rattle.wef_envelope.specs.Envelopes.{said}
use Rattle.wef_envelope.specs.Laws.{IsSpelt, IsTrimmed}
use Rattle.wef_envelope.proofs.WrittenIsRead.{written_id_is_found}
use Rattle.wef_envelope.specs.Written.{written}
use Rattle.wef_envelope.specs.declared.actions.TheConstants.{ACK, ENUMERATE_RESPONSE}
use Rattle.wef_eventing.specs.declared.offers.Offer.{Offer}
use Rattle.wef_ids.specs.IdTexts.{id_of_value}
use Rattle.wef_ids.specs.Ids.{next_id, with_drawn}
use Rattle.wef_ids.specs.declared.FaultName.{FaultName}
use Rattle.wef_ids.specs.declared.MessageId.{MessageId}
use Rattle.wef_ids.specs.declared.ids.Ids.{Ids}
use Rattle.wef_ids.proofs.PlainIds.{id_text_good, id_text_trimmed}
use Rattle.wef_source.specs.declared.messages.Reply.TheVariants as replies
use Rattle.wef_tree.proofs.BoundPrefixes.{same_self}
use Rattle.wef_xml.proofs.Ascii.{plain_text}
use Rattle.wef_xml.specs.Canonical.{canonical, encoded}
use Rattle.wef_xml.specs.Good.{IsGoodTree, IsXmlText}
use Rattle.wef_front_collector.proofs.Draws.{drawn_texts}
use Rattle.wef_replies.specs.Faults.{fault_among}
use Rattle.wef_replies.proofs.RepliesAreGood.{reply_good}
use Rattle.wef_front.proofs.RepliesAreHeard.{reply_plain, reply_said, tree_again, tree_id, tree_told}
use Rattle.wef_front_source.specs.HeardReplies.{Offered, id_told, offers_told, offers_told_by, related, told, told_by, told_in}
use Rattle.wef_front.specs.Laws.{OffersAreHeard, OffersAreRead}
use Rattle.wef_front_collector.specs.Replies.{drawn_ids, nested_ids, offers_envelope}
use Rattle.wef_front.specs.Replies.{ids_at, ids_nested_in}

response_trimmed : IsTrimmed ENUMERATE_RESPONSE.now
unfolding chars encode
response_trimmed = refl

-- such an envelope is a good tree
pub offers_reply_good : (id : MessageId) (nested : List MessageId) (relates : MessageId) (list : List Offer) → IsXmlText id.text → IsXmlText relates.text → AreGoodElements (offers_element nested list ∷ []) 62
    → IsGoodTree (written (offers_envelope id nested (Some relates) list))
offers_reply_good id nested relates list spelt related good =
    reply_good ENUMERATE_RESPONSE.now (offers_element nested list ∷ []) id (Some relates) (plain_text ENUMERATE_RESPONSE.now refl) good spelt related

-- its action isn't that of an acknowledgement
no_ack : same ENUMERATE_RESPONSE.now ACK.now ≡ false
no_ack = refl

-- and there is no fault in it
no_fault : (nested : List MessageId) (list : List Offer) → fault_among (offers_element nested list ∷ []) ≡ None
no_fault nested list = refl

drawn_long : (count : ℕ) (ids : Ids) → length (drawn_ids count ids) ≡ count
drawn_long zero ids = refl
drawn_long (suc more) ids = ap suc (drawn_long more (with_drawn 1 ids))

-- ---- an answer with these ids

offers_root : (id : MessageId) (nested : List MessageId) (relates : MessageId) (list : List Offer) → IsXmlText id.text → IsXmlText relates.text → AllByRecursion IsXmlId nested → AllByRecursion OfferCanStand list
    → IsGoodTree (written (offers_envelope id nested (Some relates) list))
offers_root id nested relates list allowed related texts stand = offers_reply_good id nested relates list allowed related (answer_good nested list 52 texts stand, tt)

-- its bytes tell no reply
none_told : (id : MessageId) (nested : List MessageId) (relates : MessageId) (list : List Offer) → IsTrimmed id.text → IsXmlText id.text → IsSpelt relates → IsXmlText relates.text → AllByRecursion IsXmlId nested
    → AllByRecursion OfferCanStand list → told (encoded Utf8 (canonical (written (offers_envelope id nested (Some relates) list)))) ≡ None
unfolding written
none_told id nested relates list trimmed allowed spelt related texts stand =
    let body : List Element = offers_element nested list ∷ [] in
    tree_told (written (offers_envelope id nested (Some relates) list)) (offers_root id nested relates list allowed related texts stand)
    ∙ ap told_by (reply_said ENUMERATE_RESPONSE.now body id.text relates response_trimmed trimmed spelt)
    ∙ ap (λ (b : Bool). told_in (Some relates) (cond b (Some replies.Ack) (option_map replies.Fault (fault_among body)))) no_ack
    ∙ ap (λ (o : Option FaultName). told_in (Some relates) (option_map replies.Fault o)) (no_fault nested list)

-- they tell the offers
all_told : (now : ℕ) (id : MessageId) (nested : List MessageId) (relates : MessageId) (list : List Offer) → IsTrimmed id.text → IsXmlText id.text → IsSpelt relates → IsXmlText relates.text → AllByRecursion IsXmlId nested
    → length nested ≡ length list → AllByRecursion IsSpelt nested → AllByRecursion IsPlainOffer list → AllByRecursion OfferCanStand list
    → offers_told now (encoded Utf8 (canonical (written (offers_envelope id nested (Some relates) list)))) ≡ Some (relates, list)
unfolding written
all_told now id nested relates list trimmed allowed spelt there texts long own plain stand =
    let body : List Element = offers_element nested list ∷ [] in
    ap (option_and_then (λ (r : Element). offers_told_by now (said r))) (tree_again (written (offers_envelope id nested (Some relates) list)) (offers_root id nested relates list allowed there texts stand))
    ∙ ap (offers_told_by now) (reply_said ENUMERATE_RESPONSE.now body id.text relates response_trimmed trimmed spelt)
    ∙ ap (λ (b : Bool). cond b (related_to relates (offers_in now body)) None) (same_self ENUMERATE_RESPONSE.now)
    ∙ ap (related_to relates) (offers_again now nested list long own plain)
  where
    related_to : MessageId → Result (List Offer) BodyFault → Option Offered
    related_to relates read = related (Some relates) (result_ok read)

-- and say the id
id_said : (id : MessageId) (nested : List MessageId) (relates : MessageId) (list : List Offer) → IsSpelt id → IsXmlText id.text → IsSpelt relates → IsXmlText relates.text → AllByRecursion IsXmlId nested
    → AllByRecursion OfferCanStand list → id_told (encoded Utf8 (canonical (written (offers_envelope id nested (Some relates) list)))) ≡ Some id
id_said id nested relates list own allowed spelt related texts stand =
    tree_id (written (offers_envelope id nested (Some relates) list)) (offers_root id nested relates list allowed related texts stand)
    ∙ written_id_is_found (offers_envelope id nested (Some relates) list) (reply_plain ENUMERATE_RESPONSE.now (offers_element nested list ∷ []) id relates response_trimmed own spelt)

-- ---- what the collector answers

pub offers_are_heard : OffersAreHeard
offers_are_heard now ids relates list spelt related plain stand own =
    let id : MessageId = id_of_value (next_id ids) in
    let nested : List MessageId = nested_ids ids list in
    let trimmed = id_text_trimmed (next_id ids) in
    let allowed = id_text_good (next_id ids) in
    let texts = drawn_texts (length list) (with_drawn 1 ids) in
    let long = drawn_long (length list) (with_drawn 1 ids) in
    (none_told id nested relates list trimmed allowed spelt related texts stand, all_told now id nested relates list trimmed allowed spelt related texts long own.1 plain stand)

-- ---- ids behind an id

part : (boot number : ℕ) → (boot * 18446744073709551616 + min number 18446744073709551615) / 18446744073709551616 ≡ boot
part boot number = omega arith

rest : (boot number : ℕ) → (boot * 18446744073709551616 + min number 18446744073709551615) % 18446744073709551616 ≡ min number 18446744073709551615
rest boot number = omega arith

ids_behind_next : (ids : Ids) → ids_at (next_id ids) ≡ with_drawn 1 ids
ids_behind_next ids = λ i. record { boot = part ids.boot (ids.drawn + 1) i; drawn = rest ids.boot (ids.drawn + 1) i }

nested_is : (ids : Ids) (list : List Offer) → ids_nested_in (id_of_value (next_id ids)) list ≡ nested_ids ids list
nested_is ids list = ap (drawn_ids (length list)) (ids_behind_next ids)

pub offers_are_read : OffersAreRead
offers_are_read = record {
  written = λ ids relates list. ap (λ (nested : List MessageId). encoded Utf8 (canonical (written (offers_envelope (id_of_value (next_id ids)) nested (Some relates) list)))) (sym (nested_is ids list));
  nested = nested_is;
  told = λ id relates list can. none_told id (ids_nested_in id list) relates list can.id.trimmed can.id_text can.relates can.relates_text (texts_in id list) can.stand;
  offers = λ now id relates list can.
      all_told now id (ids_nested_in id list) relates list can.id.trimmed can.id_text can.relates can.relates_text (texts_in id list) (drawn_long (length list) (ids_of id)) can.nested can.plain can.stand;
  id = λ id relates list can. id_said id (ids_nested_in id list) relates list can.id can.id_text can.relates can.relates_text (texts_in id list) can.stand;
}
  where
    ids_of : MessageId → Ids
    ids_of id = ids_at (unwrap_or id.value 0)

    texts_in : (id : MessageId) (list : List Offer) → AllByRecursion IsXmlId (ids_nested_in id list)
    texts_in id list = drawn_texts (length list) (ids_of id)
