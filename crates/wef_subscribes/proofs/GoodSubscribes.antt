-- What is written for a Subscribe is a good tree.
use Rattle.std.proofs.Common.{◌≡◌, ℕ, suc, false, List, [], ◌∷◌, ◌++◌, refl}
use Rattle.std.specs.Prelude.{Option, Some, None, IfSome, codes}
use Rattle.std.specs.Fmt.{decimal}
use Rattle.std.specs.List.{AllByRecursion}
use Rattle.std.specs.Option.{option_map, option_to_list}
use Rattle.wef_base.specs.declared.tree.Element.{Element}
use Rattle.wef_bookmark.proofs.WrittenGood.{written_is_good as bookmark_good}
use Rattle.wef_elements.specs.Children.{with_text}
use Rattle.wef_elements.specs.Good.{AreGoodElements}
use Rattle.wef_elements.specs.Spaces.{management}
use Rattle.wef_elements.proofs.DecimalDigits.{number_text}
use Rattle.wef_elements.proofs.GoodTexts.{empty_text, management_good}
use Rattle.wef_elements.proofs.GoodTrees.{elements_good, holder_good, leaf_good, said_good}
use Rattle.wef_envelope.specs.Spaces.{addressing, eventing}
use Rattle.wef_eventing.specs.Kept.{HasKeptName}
use Rattle.wef_eventing.specs.Sending.{AreXmlQueries, HasXmlTexts}
use Rattle.wef_eventing.specs.declared.offers.Subscribe.{Subscribe}
use Rattle.wef_eventing.proofs.DurationTexts.{duration_good}
use Rattle.wef_eventing.proofs.QueryTexts.{queries_are_xml}
use Rattle.wef_query.specs.Writing.{query_element}
use Rattle.wef_query.specs.Items.{QueryItem}
use Rattle.wef_query.proofs.WrittenGood.{written_is_good as query_good}
use Rattle.wef_times.specs.Durations.{duration_text}
use Rattle.wef_xml.specs.Good.{IsGoodElement, IsGoodHead, IsLocalName, IsXmlText}
use Rattle.wef_xml.specs.Spaces.{is_xmlns}
use Rattle.wef_xml.proofs.Ascii.{plain_name, plain_text}
use Rattle.wef_subscribes.specs.Laws.{IsKeptSubscribe}
use Rattle.wef_subscribes.specs.Spaces.{batches, event_query}
use Rattle.wef_subscribes.specs.Written.{address_element, count_element, delivery_element, end_element, expires_element, filter_element, heartbeats_element, last_parts, marked_holder, notify_element, properties_element, size_element, subscribe_element, subscribe_parts}

-- ---- namespaces and fixed texts

addressing_good : IsXmlText addressing
unfolding addressing
addressing_good = plain_text addressing refl

pub eventing_good : IsXmlText eventing
unfolding eventing
eventing_good = plain_text eventing refl

batches_good : IsXmlText batches
unfolding batches
batches_good = plain_text batches refl

dialect_good : IsXmlText event_query
unfolding event_query
dialect_good = plain_text event_query refl

-- ---- elements with one attribute

-- a name of an attribute without a namespace
abbrev IsPlainName : List ℕ → Type 0
IsPlainName name = IsLocalName name × (is_xmlns name ≡ false)

head_good : (space name attribute value : List ℕ) → IsXmlText space → IsLocalName name → IsPlainName attribute → IsXmlText value
    → IsGoodHead space name (record { space = []; name = attribute; value = value } ∷ [])
head_good space name attribute value in_space named plain allowed = record {
  named = named;
  in_space = in_space;
  attributed = (record { name = plain.0; space = empty_text; value = allowed; no_declaration = plain.1 }, tt);
  different = refl;
}

marked_good : (space name attribute value : List ℕ) (es : List Element) (room : ℕ) → IsXmlText space → IsLocalName name → IsPlainName attribute → IsXmlText value → AreGoodElements es room
    → IsGoodElement (marked_holder space name attribute value es) (suc room)
marked_good space name attribute value es room in_space named plain allowed good =
    let inner = elements_good es room good in
    (head_good space name attribute value in_space named plain allowed, inner.0, inner.1)

mode_plain : IsPlainName (codes "Mode")
unfolding is_xmlns
mode_plain = (plain_name (codes "Mode") refl, refl)

dialect_plain : IsPlainName (codes "Dialect")
unfolding is_xmlns
dialect_plain = (plain_name (codes "Dialect") refl, refl)

policy_plain : IsPlainName (codes "Policy")
unfolding is_xmlns
policy_plain = (plain_name (codes "Policy") refl, refl)

-- ---- what may be absent

abbrev pub IsGoodPlace : Option Element → ℕ → Type 0
IsGoodPlace o room = IfSome o (λ (e : Element). IsGoodElement e room)

with_place : (o : Option Element) (es : List Element) (room : ℕ) → IsGoodPlace o room → AreGoodElements es room → AreGoodElements (option_to_list o ++ es) room
with_place None es room good rest = rest
with_place (Some e) es room good rest = (good, rest)

-- ---- a Subscribe

pub address_good : (text : List ℕ) (room : ℕ) → IsXmlText text → IsGoodElement (address_element text) (suc room)
address_good text room allowed = leaf_good addressing (codes "Address") text room addressing_good (plain_name (codes "Address") refl) allowed

end_good : (end : Option (List ℕ)) (room : ℕ) → IfSome end IsXmlText → IsGoodPlace (option_map end_element end) (suc (suc room))
end_good None room allowed = tt
end_good (Some text) room allowed =
    holder_good eventing (codes "EndTo") (address_element text ∷ []) (suc room) eventing_good (plain_name (codes "EndTo") refl) (address_good text room allowed, tt)

pub properties_good : (identifier : Option (List ℕ)) (room : ℕ) → IfSome identifier IsXmlText → IsGoodPlace (option_map properties_element identifier) (suc (suc room))
properties_good None room allowed = tt
properties_good (Some text) room allowed =
    holder_good addressing (codes "ReferenceProperties") (with_text eventing (codes "Identifier") text ∷ []) (suc room) addressing_good (plain_name (codes "ReferenceProperties") refl)
    (leaf_good eventing (codes "Identifier") text room eventing_good (plain_name (codes "Identifier") refl) allowed, tt)

properties_deeper : (o : Option Element) (room : ℕ) → IsGoodPlace o room → AreGoodElements (option_to_list o) room
properties_deeper None room good = tt
properties_deeper (Some e) room good = (good, tt)

notify_good : (s : Subscribe) (room : ℕ) → HasXmlTexts s → IsGoodElement (notify_element s) (suc (suc (suc room)))
notify_good s room has =
    holder_good eventing (codes "NotifyTo") (address_element s.notify_to ∷ option_to_list (option_map properties_element s.identifier)) (suc (suc room))
    eventing_good (plain_name (codes "NotifyTo") refl) (
      address_good s.notify_to (suc room) has.notify_to,
      properties_deeper (option_map properties_element s.identifier) (suc (suc room)) (properties_good s.identifier room has.identifier),
    )

size_good : (bytes room : ℕ) → IsGoodElement (size_element bytes) (suc room)
size_good bytes room =
    said_good management (codes "MaxEnvelopeSize") (record { space = []; name = codes "Policy"; value = codes "Notify" } ∷ []) (decimal bytes) room
    (head_good management (codes "MaxEnvelopeSize") (codes "Policy") (codes "Notify") management_good (plain_name (codes "MaxEnvelopeSize") refl) policy_plain (plain_text (codes "Notify") refl))
    (number_text bytes)

delivery_good : (s : Subscribe) (room : ℕ) → HasXmlTexts s → IsGoodElement (delivery_element s) (suc (suc (suc (suc room))))
delivery_good s room has =
    marked_good eventing (codes "Delivery") (codes "Mode") batches (heartbeats_element s.heartbeat ∷ notify_element s ∷ count_element s.max_items ∷ size_element s.max_bytes ∷ []) (suc (suc (suc room)))
    eventing_good (plain_name (codes "Delivery") refl) mode_plain batches_good (
      leaf_good management (codes "Heartbeats") (duration_text s.heartbeat) (suc (suc room)) management_good (plain_name (codes "Heartbeats") refl) (duration_good s.heartbeat),
      (
        notify_good s room has,
        (
          leaf_good management (codes "MaxElements") (decimal s.max_items) (suc (suc room)) management_good (plain_name (codes "MaxElements") refl) (number_text s.max_items),
          (size_good s.max_bytes (suc (suc room)), tt),
        ),
      ),
    )

pub expires_good : (expires : Option ℕ) (room : ℕ) → IsGoodPlace (option_map expires_element expires) (suc room)
expires_good None room = tt
expires_good (Some ms) room = leaf_good eventing (codes "Expires") (duration_text ms) room eventing_good (plain_name (codes "Expires") refl) (duration_good ms)

filter_good : (items : List QueryItem) (room : ℕ) → AllByRecursion HasKeptName items → AreXmlQueries items → IsGoodElement (filter_element items) (suc (suc (suc (suc room))))
filter_good items room kept texts =
    marked_good management (codes "Filter") (codes "Dialect") event_query (query_element items ∷ []) (suc (suc (suc room)))
    management_good (plain_name (codes "Filter") refl) dialect_plain dialect_good (query_good items room (queries_are_xml items kept texts), tt)

parts_good : (s : Subscribe) (room : ℕ) → HasXmlTexts s → IsKeptSubscribe s → AreGoodElements (subscribe_parts s) (suc (suc (suc (suc room))))
parts_good s room has kept =
    let room' = suc (suc (suc room)) in
    with_place (option_map end_element s.end_to) (delivery_element s ∷ (option_to_list (option_map expires_element s.expires) ++ last_parts s)) (suc room') (end_good s.end_to (suc (suc room)) has.end_to) (
      delivery_good s room has,
      with_place (option_map expires_element s.expires) (last_parts s) (suc room') (expires_good s.expires room') (
        filter_good s.query.items room kept.query has.query,
        (
          bookmark_good s.from (suc room) kept.entries kept.names,
          (leaf_good management (codes "SendBookmarks") [] room' management_good (plain_name (codes "SendBookmarks") refl) empty_text, tt),
        ),
      ),
    )

pub subscribe_good : (s : Subscribe) (room : ℕ) → HasXmlTexts s → IsKeptSubscribe s → IsGoodElement (subscribe_element s) (suc (suc (suc (suc (suc room)))))
unfolding subscribe_element
subscribe_good s room has kept =
    holder_good eventing (codes "Subscribe") (subscribe_parts s) (suc (suc (suc (suc room)))) eventing_good (plain_name (codes "Subscribe") refl) (parts_good s room has kept)
