-- What is written for a subscription is read as it.
use Rattle.std.proofs.Common.{◌≡◌, ℕ, zero, suc, ◌≤◌, nat_le, Bool, true, cond, List, [], ◌∷◌, ◌++◌, refl, ap, sym, ◌∙◌, arith}
use Rattle.std.specs.Prelude.{Option, Some, None, Ok, Err, Result, codes, find, map, slice_get}
use Rattle.std.specs.Fmt.{decimal}
use Rattle.std.specs.Option.{option_and_then, option_map}
use Rattle.std.proofs.lemmas.Bool.{and_from}
use Rattle.std.proofs.lemmas.Bool.Decides.{nat_tests}
use Rattle.wef_base.specs.Names.{same, subscription_name}
use Rattle.wef_base.specs.declared.numbers.TheConstants.{MAX}
use Rattle.wef_base.specs.declared.tree.Charset.TheVariants.{Utf8}
use Rattle.wef_base.specs.declared.tree.Element.{Element}
use Rattle.wef_elements.specs.Children.{as_nodes, elements_in, is_called}
use Rattle.wef_elements.specs.Texts.{said_in, text_inside}
use Rattle.wef_elements.proofs.Again.{elements_again, said_again, text_again}
use Rattle.wef_elements.proofs.DigitsRead.{digits_say}
use Rattle.wef_eventing.specs.declared.subscriptions.SourceAt.{SourceAt}
use Rattle.wef_eventing.specs.declared.subscriptions.SubKind.{SubKind}
use Rattle.wef_eventing.specs.declared.subscriptions.SubKind.TheVariants.{BySource, ByCollector}
use Rattle.wef_eventing.specs.declared.subscriptions.Subscription.{Subscription}
use Rattle.wef_eventing.proofs.AddressTexts.{printed_text}
use Rattle.wef_query.specs.Laws.{IsWritable}
use Rattle.wef_query.specs.Writing.{query_element}
use Rattle.wef_query.specs.Items.{QueryItem}
use Rattle.wef_query.proofs.WrittenRead.{written_is_read as query_read}
use Rattle.wef_times.specs.Durations.{duration_in, duration_text}
use Rattle.wef_times.specs.declared.durations.TheConstants.{LIMIT}
use Rattle.wef_times.proofs.DurationTexts.{reads_back}
use Rattle.wef_tree_reading.specs.Documents.{tree_of}
use Rattle.wef_xml.specs.Canonical.{canonical, encoded}
use Rattle.wef_documents.specs.Bytes.{document_in, subscription_or_none}
use Rattle.wef_documents.specs.Laws.{ArePlainSources, HasKeptNames, HasXmlTexts, IsPlain, IsWithin}
use Rattle.wef_documents.specs.Reading.{bad_query, queries_by, queries_in, queries_of, subscription_in, subscription_of, unless_refused}
use Rattle.wef_documents.specs.Sources.{nodes_of, some_source, sources_from, sources_in, sources_of}
use Rattle.wef_documents.specs.Steps.{and_then, must, needed}
use Rattle.wef_documents.specs.Values.{attribute, between, bytes_in, child, expires_by, expires_in, expires_said, heartbeat_in, inside, is_absent_or, is_enabled, is_pushed, items_in, kind_in, kind_said, limits_in, name_in, number_in, space, version_in}
use Rattle.wef_documents.specs.Written.{batching_element, delivery_element, document_element, document_parts, document_text, heartbeat_element, kind_text, leaf, push_element, queries_element, source_element, source_parts}
use Rattle.wef_documents.specs.declared.faults.DocumentFault.{DocumentFault}
use Rattle.wef_documents.specs.declared.faults.DocumentFault.TheVariants.{BadDocument}
use Rattle.wef_documents.specs.declared.faults.Part.{Part}
use Rattle.wef_documents.specs.declared.faults.Part.TheVariants as the
use Rattle.wef_documents.proofs.GoodDocuments.{document_good}
use Rattle.wef_documents.proofs.PlainUtf8.{charset_again, tree_again}
use Rattle.wef_documents.proofs.SourcesAgain.{among, sources_again}

-- ---- the parts of a document

-- the first part of a name
part_is : (name : List ℕ) (s : Subscription) (o : Option Element) → find (is_called space name) (document_parts s) ≡ o → child name (document_element s) ≡ o
unfolding document_element
part_is name s o found = among name (document_parts s) ∙ found

id_is : (s : Subscription) → child (codes "SubscriptionId") (document_element s) ≡ Some (leaf (codes "SubscriptionId") s.name)
unfolding space
id_is s = part_is (codes "SubscriptionId") s (Some (leaf (codes "SubscriptionId") s.name)) refl

type_is : (s : Subscription) → child (codes "SubscriptionType") (document_element s) ≡ Some (leaf (codes "SubscriptionType") (kind_text s.kind))
unfolding space
type_is s = part_is (codes "SubscriptionType") s (Some (leaf (codes "SubscriptionType") (kind_text s.kind))) refl

enabled_is : (s : Subscription) → child (codes "Enabled") (document_element s) ≡ Some (leaf (codes "Enabled") (codes "true"))
unfolding space
enabled_is s = part_is (codes "Enabled") s (Some (leaf (codes "Enabled") (codes "true"))) refl

delivery_is : (s : Subscription) → child (codes "Delivery") (document_element s) ≡ Some (delivery_element s.max_items s.heartbeat)
unfolding space
delivery_is s = part_is (codes "Delivery") s (Some (delivery_element s.max_items s.heartbeat)) refl

size_is : (s : Subscription) → child (codes "MaxEnvelopeSize") (document_element s) ≡ Some (leaf (codes "MaxEnvelopeSize") (decimal s.max_bytes))
unfolding space
size_is s = part_is (codes "MaxEnvelopeSize") s (Some (leaf (codes "MaxEnvelopeSize") (decimal s.max_bytes))) refl

expires_is : (s : Subscription) → child (codes "Expires") (document_element s) ≡ Some (leaf (codes "Expires") (duration_text s.expires))
unfolding space
expires_is s = part_is (codes "Expires") s (Some (leaf (codes "Expires") (duration_text s.expires))) refl

query_is : (s : Subscription) → child (codes "Query") (document_element s) ≡ Some (queries_element s.query.items)
unfolding space
query_is s = part_is (codes "Query") s (Some (queries_element s.query.items)) refl

version_found : (kind : SubKind) (sources : List SourceAt) (e : Element) → is_called space (codes "Version") e ≡ true
    → find (is_called space (codes "Version")) (source_parts kind sources ++ e ∷ []) ≡ Some e
unfolding space
version_found BySource sources e is = ap (λ (b : Bool). cond b (Some e) None) is
version_found ByCollector sources e is = ap (λ (b : Bool). cond b (Some e) None) is

version_is : (s : Subscription) → child (codes "Version") (document_element s) ≡ Some (leaf (codes "Version") (decimal s.version))
unfolding space
version_is s =
    part_is (codes "Version") s (Some (leaf (codes "Version") (decimal s.version))) (version_found s.kind s.sources (leaf (codes "Version") (decimal s.version)) refl)

-- ---- words

name_again : (s : Subscription) → HasKeptNames s → name_in (document_element s) ≡ Ok s.name
name_again s kept =
    ap (λ o. needed (BadDocument the.SubscriptionId) (option_and_then (λ e. subscription_name (text_inside e)) o)) (id_is s)
    ∙ ap (λ text. needed (BadDocument the.SubscriptionId) (subscription_name text)) (text_again s.name)
    ∙ ap (needed (BadDocument the.SubscriptionId)) kept.name

kind_says : (kind : SubKind) → kind_said (said_in (leaf (codes "SubscriptionType") (kind_text kind))) ≡ Some kind
kind_says BySource = ap kind_said (said_again space (codes "SubscriptionType") (codes "SourceInitiated") (printed_text (codes "SourceInitiated") refl).0)
kind_says ByCollector = ap kind_said (said_again space (codes "SubscriptionType") (codes "CollectorInitiated") (printed_text (codes "CollectorInitiated") refl).0)

kind_again : (s : Subscription) → kind_in (document_element s) ≡ Ok s.kind
kind_again s =
    ap (λ o. needed (BadDocument the.SubscriptionType) (option_and_then (λ e. kind_said (said_in e)) o)) (type_is s)
    ∙ ap (needed (BadDocument the.SubscriptionType)) (kind_says s.kind)

enabled_again : (s : Subscription) → is_enabled (document_element s) ≡ true
enabled_again s =
    ap (λ o. is_absent_or (codes "true") (option_map said_in o)) (enabled_is s)
    ∙ ap (λ text. same text (codes "true")) (said_again space (codes "Enabled") (codes "true") (printed_text (codes "true") refl).0)

pushed_again : (s : Subscription) → is_pushed (document_element s) ≡ true
pushed_again s = ap (λ o. is_absent_or (codes "Push") (attribute (codes "Mode") o)) (delivery_is s)

-- ---- numbers

within : (least greatest n : ℕ) → IsWithin least greatest n → between least greatest n ≡ Some n
within least greatest n is = ap (λ (b : Bool). cond b (Some n) None) (and_from (nat_le least n) (nat_le n greatest) (holds least n is.0) (holds n greatest is.1))
  where
    holds : (a b : ℕ) → a ≤ b → nat_le a b ≡ true
    holds a b le = grind (arith, nat_tests)

-- digits are read as the number that they were written for
number_again : (part : Part) (usual least greatest n : ℕ) → n ≤ MAX → IsWithin least greatest n → number_in part usual least greatest (Some (decimal n)) ≡ Ok n
number_again part usual least greatest n small is =
    ap (λ o. needed (BadDocument part) (option_and_then (between least greatest) o)) (digits_say n small)
    ∙ ap (needed (BadDocument part)) (within least greatest n is)

small_count : (n : ℕ) → n ≤ 86400000 → n ≤ MAX
small_count n le = omega arith

batching_is : (items ms : ℕ) → child (codes "Batching") (delivery_element items ms) ≡ Some (batching_element items)
unfolding space
batching_is items ms = among (codes "Batching") (batching_element items ∷ push_element ms ∷ [])

push_is : (items ms : ℕ) → child (codes "PushSettings") (delivery_element items ms) ≡ Some (push_element ms)
unfolding space
push_is items ms = among (codes "PushSettings") (batching_element items ∷ push_element ms ∷ [])

most_is : (items : ℕ) → child (codes "MaxItems") (batching_element items) ≡ Some (leaf (codes "MaxItems") (decimal items))
unfolding space
most_is items = among (codes "MaxItems") (leaf (codes "MaxItems") (decimal items) ∷ [])

beat_is : (ms : ℕ) → child (codes "Heartbeat") (push_element ms) ≡ Some (heartbeat_element ms)
unfolding space
beat_is ms = among (codes "Heartbeat") (heartbeat_element ms ∷ [])

items_again : (s : Subscription) → IsWithin 1 10_000 s.max_items → items_in (document_element s) ≡ Ok s.max_items
items_again s is =
    let high = is.1 in
    let read : Option Element → Result ℕ DocumentFault = λ o. number_in the.MaxItems 20 1 10_000 (option_map text_inside o) in
    ap (λ o. read (inside (codes "MaxItems") (inside (codes "Batching") o))) (delivery_is s)
    ∙ ap (λ o. read (inside (codes "MaxItems") o)) (batching_is s.max_items s.heartbeat)
    ∙ ap read (most_is s.max_items)
    ∙ ap (λ text. number_in the.MaxItems 20 1 10_000 (Some text)) (text_again (decimal s.max_items))
    ∙ number_again the.MaxItems 20 1 10_000 s.max_items (small_count s.max_items (omega arith)) is

heartbeat_again : (s : Subscription) → IsWithin 1 86_400_000 s.heartbeat → heartbeat_in (document_element s) ≡ Ok s.heartbeat
heartbeat_again s is =
    let read : Option Element → Result ℕ DocumentFault = λ o. number_in the.Heartbeat 900_000 1 86_400_000 (attribute (codes "Interval") o) in
    ap (λ o. read (inside (codes "Heartbeat") (inside (codes "PushSettings") o))) (delivery_is s)
    ∙ ap (λ o. read (inside (codes "Heartbeat") o)) (push_is s.max_items s.heartbeat)
    ∙ ap read (beat_is s.heartbeat)
    ∙ number_again the.Heartbeat 900_000 1 86_400_000 s.heartbeat (small_count s.heartbeat is.1) is

bytes_again : (s : Subscription) → IsWithin 8_192 4_194_304 s.max_bytes → bytes_in (document_element s) ≡ Ok s.max_bytes
bytes_again s is =
    let high = is.1 in
    ap (λ o. number_in the.MaxEnvelopeSize 512_000 8_192 4_194_304 (option_map text_inside o)) (size_is s)
    ∙ ap (λ text. number_in the.MaxEnvelopeSize 512_000 8_192 4_194_304 (Some text)) (text_again (decimal s.max_bytes))
    ∙ number_again the.MaxEnvelopeSize 512_000 8_192 4_194_304 s.max_bytes (small_count s.max_bytes (omega arith)) is

version_again : (s : Subscription) → IsWithin 1 MAX s.version → version_in (document_element s) ≡ Ok s.version
version_again s is =
    ap (λ o. number_in the.Version 1 1 MAX (option_map text_inside o)) (version_is s)
    ∙ ap (λ text. number_in the.Version 1 1 MAX (Some text)) (text_again (decimal s.version))
    ∙ number_again the.Version 1 1 MAX s.version is.1 is

duration_again : (ms : ℕ) → IsWithin 1 LIMIT ms → expires_by (duration_in (duration_text ms)) ≡ Ok ms
duration_again zero is = let low = is.0 in let bad : ⊥ = omega arith in absurd bad
duration_again (suc ms) is = ap expires_by (reads_back (suc ms) is.1)

expires_again : (s : Subscription) → IsWithin 1 LIMIT s.expires → expires_in (document_element s) ≡ Ok s.expires
expires_again s is =
    ap (λ o. expires_said (option_map text_inside o)) (expires_is s)
    ∙ ap (λ text. expires_by (duration_in text)) (text_again (duration_text s.expires))
    ∙ duration_again s.expires is

limits_again : (s : Subscription) → IsPlain s
    → limits_in (document_element s) ≡ Ok (record { max_items = s.max_items; heartbeat = s.heartbeat; max_bytes = s.max_bytes; expires = s.expires })
limits_again s is =
    let items = items_again s is.max_items in
    let beats = heartbeat_again s is.heartbeat in
    let bytes = bytes_again s is.max_bytes in
    let expires = expires_again s is.expires in
    λ i. and_then (items i) (λ max_items. and_then (beats i) (λ heartbeat. and_then (bytes i) (λ max_bytes. and_then (expires i) (λ expires.
    Ok (record { max_items = max_items; heartbeat = heartbeat; max_bytes = max_bytes; expires = expires })))))

-- ---- queries and sources

query_again : (items : List QueryItem) → IsWritable items → queries_of (queries_element items) ≡ Ok (record { items = items })
query_again items is =
    ap (λ es. queries_by (slice_get es 0) (said_in (queries_element items))) (elements_again (query_element items ∷ []))
    ∙ ap unless_refused (query_read items is)

queries_again : (s : Subscription) → IsWritable s.query.items → queries_in (document_element s) ≡ Ok s.query
queries_again s is = ap (λ o. and_then (needed bad_query o) (λ e. queries_of e)) (query_is s) ∙ query_again s.query.items is

-- the sources are found in the document of a subscription that the collector begins
holder_found : (kind : SubKind) (sources : List SourceAt) (e : Element) → kind ≡ ByCollector
    → find (is_called space (codes "EventSources")) (source_parts kind sources ++ e ∷ []) ≡ Some (record { space = space; name = codes "EventSources"; attributes = []; children = as_nodes (map source_element sources) })
unfolding space
holder_found BySource sources e is = let bad : ⊥ = cc in absurd bad
holder_found ByCollector sources e is = refl

holder_is : (s : Subscription) → s.kind ≡ ByCollector
    → child (codes "EventSources") (document_element s) ≡ Some (record { space = space; name = codes "EventSources"; attributes = []; children = as_nodes (map source_element s.sources) })
unfolding space
holder_is s is =
    part_is (codes "EventSources") s (Some (record { space = space; name = codes "EventSources"; attributes = []; children = as_nodes (map source_element s.sources) }))
    (holder_found s.kind s.sources (leaf (codes "Version") (decimal s.version)) is)

named_again : (s : Subscription) → s.kind ≡ ByCollector → ArePlainSources ByCollector s.sources → sources_in (document_element s) ≡ Ok s.sources
named_again s kind is =
    ap (λ o. and_then (sources_from [] (elements_in (nodes_of o))) (λ found. some_source found)) (holder_is s kind) ∙ sources_again s.sources is.0 is.1 is.2

sources_there : (kind : SubKind) (s : Subscription) → s.kind ≡ kind → ArePlainSources kind s.sources → sources_of kind (document_element s) ≡ Ok s.sources
sources_there BySource s same is = ap Ok (sym is)
sources_there ByCollector s same is = named_again s same is

-- ---- a subscription

parts_again : (s : Subscription) → HasKeptNames s → IsPlain s → subscription_of (document_element s) ≡ Ok s
parts_again s kept is =
    let root = document_element s in
    let name = name_again s kept in
    let kind = kind_again s in
    let enabled = enabled_again s in
    let pushed = pushed_again s in
    let limits = limits_again s is in
    let queries = queries_again s is.query in
    let version = version_again s is.version in
    (λ i. and_then (name i) (λ n. and_then (kind i) (λ k. and_then (must (BadDocument the.Enabled) (enabled i)) (λ _. and_then (must (BadDocument the.Delivery) (pushed i)) (λ _. and_then (limits i) (λ l. and_then (queries i) (λ q.
    and_then (sources_of k root) (λ sources. and_then (version i) (λ v.
    Ok (record { name = n; kind = k; query = q; max_items = l.max_items; max_bytes = l.max_bytes; heartbeat = l.heartbeat; expires = l.expires; sources = sources; version = v })))))))))
    )
    ∙ ap (λ o. and_then o (λ sources. Ok (record { name = s.name; kind = s.kind; query = s.query; max_items = s.max_items; max_bytes = s.max_bytes; heartbeat = s.heartbeat; expires = s.expires; sources = sources; version = s.version })))
    (sources_there s.kind s refl is.sources)

root_is : (s : Subscription) → is_called space (codes "Subscription") (document_element s) ≡ true
unfolding document_element space
root_is s = refl

pub subscription_again : (s : Subscription) → HasKeptNames s → IsPlain s → subscription_in (document_element s) ≡ Ok s
unfolding subscription_in
subscription_again s kept is =
    ap (λ (b : Bool). cond b (subscription_of (document_element s)) (Err (BadDocument the.Subscription))) (root_is s) ∙ parts_again s kept is

-- so is the text
pub text_read_again : (s : Subscription) → HasKeptNames s → HasXmlTexts s → IsPlain s → document_in (document_text s) ≡ Some s
unfolding document_in document_text
text_read_again s kept has is =
    let root = document_element s in
    ap (λ charset. option_and_then (λ r. subscription_or_none (subscription_in r)) (tree_of charset (encoded Utf8 (canonical root)))) (charset_again root)
    ∙ ap (option_and_then (λ r. subscription_or_none (subscription_in r))) (tree_again root (document_good s kept has))
    ∙ ap subscription_or_none (subscription_again s kept is)
