-- The document that is written for a subscription: the parts that are read, in the order in which they are judged.
use Rattle.std.specs.Prelude.{ℕ, List, [], ◌∷◌, ◌++◌, codes, map}
use Rattle.std.specs.Fmt.{decimal}
use Rattle.wef_base.specs.declared.tree.Attribute.{Attribute}
use Rattle.wef_base.specs.declared.tree.Charset.TheVariants.{Utf8}
use Rattle.wef_base.specs.declared.tree.Element.{Element}
use Rattle.wef_elements.specs.Children.{as_nodes, with_attributes, with_elements, with_text}
use Rattle.wef_eventing.specs.declared.subscriptions.SourceAt.{SourceAt}
use Rattle.wef_eventing.specs.declared.subscriptions.SubKind.{SubKind}
use Rattle.wef_eventing.specs.declared.subscriptions.SubKind.TheVariants.{BySource, ByCollector}
use Rattle.wef_eventing.specs.declared.subscriptions.Subscription.{Subscription}
use Rattle.wef_query.specs.Writing.{query_element}
use Rattle.wef_query.specs.Items.{QueryItem}
use Rattle.wef_times.specs.Durations.{duration_text}
use Rattle.wef_xml.specs.Canonical.{canonical, encoded}
use Rattle.wef_documents.specs.Values.{space}

-- an element of the document's namespace that has a text, and one that has elements
abbrev pub leaf : List ℕ → List ℕ → Element
leaf name text = with_text space name text

abbrev pub holder : List ℕ → List Element → Element
holder name es = with_elements space name es

-- an attribute without a namespace
abbrev pub plain : List ℕ → List ℕ → Attribute
plain name value = record { space = []; name = name; value = value }

abbrev pub kind_text : SubKind → List ℕ
kind_text BySource = codes "SourceInitiated"
kind_text ByCollector = codes "CollectorInitiated"

-- ---- the delivery

abbrev pub batching_element : ℕ → Element
batching_element items = holder (codes "Batching") (leaf (codes "MaxItems") (decimal items) ∷ [])

-- its interval in milliseconds
abbrev pub heartbeat_element : ℕ → Element
heartbeat_element ms = with_attributes space (codes "Heartbeat") (plain (codes "Interval") (decimal ms) ∷ []) []

abbrev pub push_element : ℕ → Element
push_element ms = holder (codes "PushSettings") (heartbeat_element ms ∷ [])

abbrev pub delivery_element : ℕ → ℕ → Element
delivery_element items ms = record {
  space = space;
  name = codes "Delivery";
  attributes = plain (codes "Mode") (codes "Push") ∷ [];
  children = as_nodes (batching_element items ∷ push_element ms ∷ []);
}

-- ---- queries and sources

abbrev pub queries_element : List QueryItem → Element
queries_element items = holder (codes "Query") (query_element items ∷ [])

abbrev pub source_element : SourceAt → Element
source_element s = holder (codes "EventSource") (leaf (codes "Address") s.address ∷ [])

-- where the collector begins, its sources
abbrev pub source_parts : SubKind → List SourceAt → List Element
source_parts BySource sources = []
source_parts ByCollector sources = holder (codes "EventSources") (map source_element sources) ∷ []

-- ---- the document

-- the parts behind the delivery, and all
abbrev pub last_parts : Subscription → List Element
last_parts s =
    leaf (codes "MaxEnvelopeSize") (decimal s.max_bytes) ∷
    leaf (codes "Expires") (duration_text s.expires) ∷
    queries_element s.query.items ∷
    (source_parts s.kind s.sources ++ leaf (codes "Version") (decimal s.version) ∷ [])

abbrev pub document_parts : Subscription → List Element
document_parts s =
    leaf (codes "SubscriptionId") s.name ∷
    leaf (codes "SubscriptionType") (kind_text s.kind) ∷
    leaf (codes "Enabled") (codes "true") ∷
    delivery_element s.max_items s.heartbeat ∷
    last_parts s

unfoldable pub document_element : Subscription → Element
document_element s = holder (codes "Subscription") (document_parts s)

-- its text, in UTF-8
unfoldable pub document_text : Subscription → List ℕ
document_text s = encoded Utf8 (canonical (document_element s))
