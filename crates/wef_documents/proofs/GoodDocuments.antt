-- What is written for a subscription is a good tree.
use Rattle.std.proofs.Common.{◌≡◌, ℕ, suc, ◌+◌, true, false, List, [], ◌∷◌, ◌++◌, IsUtf8, refl, map}
use Rattle.std.specs.Prelude.{Some, codes}
use Rattle.std.specs.Fmt.{decimal}
use Rattle.std.specs.List.{AllByRecursion}
use Rattle.std.specs.Str.{chars}
use Rattle.std.proofs.lemmas.Str.{scalars-chars}
use Rattle.wef_base.specs.Names.{subscription_name}
use Rattle.wef_base.specs.declared.names.Letters.TheVariants.{Kept}
use Rattle.wef_base.specs.declared.tree.Element.{Element}
use Rattle.wef_base.proofs.Kept.{name_allowed}
use Rattle.wef_elements.specs.Good.{AreGoodElements}
use Rattle.wef_elements.proofs.DecimalDigits.{number_text}
use Rattle.wef_elements.proofs.GoodTexts.{all_allowed, empty_text, xml_text}
use Rattle.wef_elements.proofs.GoodTrees.{elements_good, holder_good, leaf_good, said_good}
use Rattle.wef_eventing.specs.Kept.{HasKeptName}
use Rattle.wef_eventing.specs.Sending.{AreXmlQueries}
use Rattle.wef_eventing.specs.declared.subscriptions.SourceAt.{SourceAt}
use Rattle.wef_eventing.specs.declared.subscriptions.SubKind.{SubKind}
use Rattle.wef_eventing.specs.declared.subscriptions.SubKind.TheVariants.{BySource, ByCollector}
use Rattle.wef_eventing.specs.declared.subscriptions.Subscription.{Subscription}
use Rattle.wef_eventing.proofs.DurationTexts.{duration_good}
use Rattle.wef_eventing.proofs.QueryTexts.{queries_are_xml}
use Rattle.wef_query.specs.Writing.{query_element}
use Rattle.wef_query.specs.Items.{QueryItem}
use Rattle.wef_query.proofs.WrittenGood.{written_is_good as query_good}
use Rattle.wef_times.specs.Durations.{duration_text}
use Rattle.wef_xml.specs.Good.{IsGoodElement, IsGoodHead, IsGoodTree, IsLocalName, IsXmlText}
use Rattle.wef_xml.specs.Spaces.{is_xmlns}
use Rattle.wef_xml.proofs.Ascii.{plain_name, plain_text}
use Rattle.wef_documents.specs.Laws.{HasKeptNames, HasXmlAddress, HasXmlTexts}
use Rattle.wef_documents.specs.Values.{space}
use Rattle.wef_documents.specs.Written.{batching_element, delivery_element, document_element, document_parts, heartbeat_element, holder, kind_text, last_parts, leaf, plain, push_element, queries_element, source_element, source_parts}

space_good : IsXmlText space
unfolding space
space_good = plain_text space refl

-- ---- texts

-- XML allows each character of a subscription's name
name_good : (name : List ℕ) → IsUtf8 name → subscription_name name ≡ Some name → IsXmlText name
unfolding subscription_name
name_good name utf8 named = xml_text name utf8 (all_allowed (chars name) (scalars-chars name utf8) (name_allowed Kept 128 name utf8 named))

kind_good : (kind : SubKind) → IsXmlText (kind_text kind)
kind_good BySource = plain_text (codes "SourceInitiated") refl
kind_good ByCollector = plain_text (codes "CollectorInitiated") refl

-- ---- elements

text_good : (name text : List ℕ) (room : ℕ) → IsLocalName name → IsXmlText text → IsGoodElement (leaf name text) (suc room)
text_good name text room named allowed = leaf_good space name text room space_good named allowed

parts_good : (name : List ℕ) (es : List Element) (room : ℕ) → IsLocalName name → AreGoodElements es room → IsGoodElement (holder name es) (suc room)
parts_good name es room named good = holder_good space name es room space_good named good

single_good : (name : List ℕ) (e : Element) (room : ℕ) → IsLocalName name → IsGoodElement e room → IsGoodElement (holder name (e ∷ [])) (suc room)
single_good name e room named good = parts_good name (e ∷ []) room named (good, tt)

-- what an element with one attribute, without a namespace, is apart from its children
head_good : (name attribute value : List ℕ) → IsLocalName name → IsLocalName attribute → is_xmlns attribute ≡ false → IsXmlText value
    → IsGoodHead space name (plain attribute value ∷ [])
head_good name attribute value named plainly different allowed = record {
  named = named;
  in_space = space_good;
  attributed = (record { name = plainly; space = empty_text; value = allowed; no_declaration = different }, tt);
  different = refl;
}

heartbeat_good : (ms room : ℕ) → IsGoodElement (heartbeat_element ms) (suc room)
unfolding is_xmlns
heartbeat_good ms room =
    said_good space (codes "Heartbeat") (plain (codes "Interval") (decimal ms) ∷ []) [] room
    (head_good (codes "Heartbeat") (codes "Interval") (decimal ms) (plain_name (codes "Heartbeat") refl) (plain_name (codes "Interval") refl) refl (number_text ms)) empty_text

delivery_parts_good : (items ms room : ℕ) → AreGoodElements (batching_element items ∷ push_element ms ∷ []) (suc (suc room))
delivery_parts_good items ms room = (
  single_good (codes "Batching") (leaf (codes "MaxItems") (decimal items)) (suc room) (plain_name (codes "Batching") refl)
      (text_good (codes "MaxItems") (decimal items) room (plain_name (codes "MaxItems") refl) (number_text items)),
  (single_good (codes "PushSettings") (heartbeat_element ms) (suc room) (plain_name (codes "PushSettings") refl) (heartbeat_good ms room), tt),
)

delivery_good : (items ms room : ℕ) → IsGoodElement (delivery_element items ms) (suc (suc (suc room)))
unfolding is_xmlns
delivery_good items ms room =
    let inner = elements_good (batching_element items ∷ push_element ms ∷ []) (suc (suc room)) (delivery_parts_good items ms room) in
    (head_good (codes "Delivery") (codes "Mode") (codes "Push") (plain_name (codes "Delivery") refl) (plain_name (codes "Mode") refl) refl (plain_text (codes "Push") refl), inner.0, inner.1)

-- ---- queries and sources

queries_good : (items : List QueryItem) (room : ℕ) → AllByRecursion HasKeptName items → AreXmlQueries items → IsGoodElement (queries_element items) (suc (suc (suc (suc room))))
queries_good items room kept texts =
    single_good (codes "Query") (query_element items) (suc (suc (suc room))) (plain_name (codes "Query") refl) (query_good items room (queries_are_xml items kept texts))

source_good : (s : SourceAt) (room : ℕ) → IsXmlText s.address → IsGoodElement (source_element s) (suc (suc room))
source_good s room allowed =
    single_good (codes "EventSource") (leaf (codes "Address") s.address) (suc room) (plain_name (codes "EventSource") refl)
    (text_good (codes "Address") s.address room (plain_name (codes "Address") refl) allowed)

sources_good : (sources : List SourceAt) (room : ℕ) → AllByRecursion HasXmlAddress sources → AreGoodElements (map source_element sources) (suc (suc room))
sources_good [] room texts = tt
sources_good (s ∷ sources) room texts = (source_good s room texts.0, sources_good sources room texts.1)

version_good : (version room : ℕ) → IsGoodElement (leaf (codes "Version") (decimal version)) (suc room)
version_good version room = text_good (codes "Version") (decimal version) room (plain_name (codes "Version") refl) (number_text version)

tail_good : (kind : SubKind) (sources : List SourceAt) (version room : ℕ) → AllByRecursion HasXmlAddress sources
    → AreGoodElements (source_parts kind sources ++ leaf (codes "Version") (decimal version) ∷ []) (suc (suc (suc room)))
tail_good BySource sources version room texts = (version_good version (suc (suc room)), tt)
tail_good ByCollector sources version room texts =
    (parts_good (codes "EventSources") (map source_element sources) (suc (suc room)) (plain_name (codes "EventSources") refl) (sources_good sources room texts), (version_good version (suc (suc room)), tt))

-- ---- a document

last_good : (s : Subscription) (room : ℕ) → HasKeptNames s → HasXmlTexts s → AreGoodElements (last_parts s) (suc (suc (suc (suc room))))
last_good s room kept has =
    let room' = suc (suc (suc room)) in (
      text_good (codes "MaxEnvelopeSize") (decimal s.max_bytes) room' (plain_name (codes "MaxEnvelopeSize") refl) (number_text s.max_bytes),
      (
        text_good (codes "Expires") (duration_text s.expires) room' (plain_name (codes "Expires") refl) (duration_good s.expires),
        (queries_good s.query.items room kept.query has.query, tail_good s.kind s.sources s.version (suc room) has.sources),
      ),
    )

document_parts_good : (s : Subscription) (room : ℕ) → HasKeptNames s → HasXmlTexts s → AreGoodElements (document_parts s) (suc (suc (suc (suc room))))
document_parts_good s room kept has =
    let room' = suc (suc (suc room)) in (
      text_good (codes "SubscriptionId") s.name room' (plain_name (codes "SubscriptionId") refl) (name_good s.name kept.utf8 kept.name),
      (
        text_good (codes "SubscriptionType") (kind_text s.kind) room' (plain_name (codes "SubscriptionType") refl) (kind_good s.kind),
        (
          text_good (codes "Enabled") (codes "true") room' (plain_name (codes "Enabled") refl) (plain_text (codes "true") refl),
          (delivery_good s.max_items s.heartbeat (suc room), last_good s room kept has),
        ),
      ),
    )

pub document_good : (s : Subscription) → HasKeptNames s → HasXmlTexts s → IsGoodTree (document_element s)
unfolding document_element
document_good s kept has = parts_good (codes "Subscription") (document_parts s) 63 (plain_name (codes "Subscription") refl) (document_parts_good s 59 kept has)
