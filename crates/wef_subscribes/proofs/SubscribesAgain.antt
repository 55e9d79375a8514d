-- What is written for a Subscribe is read as it.
use Rattle.std.proofs.Common.{◌≡◌, ℕ, zero, suc, ◌≤◌, nat_le, Bool, true, false, ◌&&◌, is_some, cond, List, [], ◌∷◌, ◌++◌, length, take, drop, refl, ap, ◌∙◌, arith}
use Rattle.std.specs.Prelude.{Option, Some, None, Ok, IfSome, codes, find, slice_get}
use Rattle.std.specs.Fmt.{decimal}
use Rattle.std.specs.FinMap as map
use Rattle.std.specs.List.{list_all}
use Rattle.std.specs.Option.{option_and_then, option_map, option_or, option_to_list}
use Rattle.std.proofs.lemmas.Bool.{and_parts}
use Rattle.wef_base.specs.Names.{same}
use Rattle.wef_base.specs.Numbers.{value_from}
use Rattle.wef_base.specs.declared.numbers.TheConstants.{MAX}
use Rattle.wef_base.specs.declared.tree.Element.{Element}
use Rattle.wef_bookmark.specs.Nodes.{bookmark_element, header_of}
use Rattle.wef_bookmark.proofs.WrittenRead.{written_is_read as bookmark_read}
use Rattle.wef_elements.specs.Children.{as_nodes, first_called, is_called, with_elements, with_text}
use Rattle.wef_elements.specs.Spaces.{management}
use Rattle.wef_elements.specs.Texts.{said_in}
use Rattle.wef_elements.proofs.Again.{elements_again, said_again, text_again}
use Rattle.wef_elements.proofs.DecimalDigits.{decimal_trimmed}
use Rattle.wef_elements.proofs.DigitsRead.{decimal_parts}
use Rattle.wef_envelope.specs.Envelopes.{address_in}
use Rattle.wef_envelope.specs.Laws.{IsTrimmed}
use Rattle.wef_envelope.specs.Spaces.{addressing, eventing}
use Rattle.wef_eventing.specs.Addresses.{has_path, has_segments, is_address, is_delivery, is_printed, scheme, subscription_in}
use Rattle.wef_eventing.specs.declared.offers.Subscribe.{Subscribe}
use Rattle.wef_eventing.proofs.AddressTexts.{printed_text}
use Rattle.wef_query.specs.Laws.{IsWritable}
use Rattle.wef_query.specs.Reading.{query_in}
use Rattle.wef_query.specs.Writing.{query_element}
use Rattle.wef_query.specs.Items.{QueryItem}
use Rattle.wef_query.proofs.WrittenRead.{written_is_read as query_read}
use Rattle.wef_times.specs.Durations.{duration_in, duration_text}
use Rattle.wef_times.specs.Expiry.{expiry_in, expiry_of, until}
use Rattle.wef_times.specs.Instants.{instant_in}
use Rattle.wef_times.specs.declared.durations.TheConstants.{LIMIT}
use Rattle.wef_times.proofs.DurationTexts.{reads_back}
use Rattle.wef_subscribes.specs.Addresses.{end_in, identifier_among, identifier_in, passing, target_in}
use Rattle.wef_subscribes.specs.Laws.{IsAddress, IsPlainSubscribe, IsWithin}
use Rattle.wef_subscribes.specs.Limits.{count_in, duration_near, heartbeats_in, nearest, number_near}
use Rattle.wef_subscribes.specs.Spaces.{batches, event_query}
use Rattle.wef_subscribes.specs.Steps.{and_then, needed}
use Rattle.wef_subscribes.specs.Subscribes.{bookmark_of, bytes_in, delivery_in, expires_of, filter_in, in_dialect, in_eventing, in_management, in_mode, items_in, subscribe_in, subscribe_of, subscribe_with, unless_refused}
use Rattle.wef_subscribes.specs.Written.{address_element, count_element, delivery_element, end_element, expires_element, filter_element, heartbeats_element, last_parts, notify_element, properties_element, size_element, subscribe_element, subscribe_parts}
use Rattle.wef_subscribes.specs.declared.faults.BodyFault.TheVariants.{BadBody, BadMode, BadFilter, BadExpires}
use Rattle.wef_subscribes.specs.declared.faults.Part.{Part}
use Rattle.wef_subscribes.specs.declared.faults.Part.TheVariants as the

-- ---- children

-- the first of a name among elements that stand in another
pub among : (space name : List ℕ) (es : List Element) → first_called space name (as_nodes es) ≡ find (is_called space name) es
among space name es = ap (find (is_called space name)) (elements_again es)

-- ---- what a Subscribe holds

end_found : (end : Option (List ℕ)) (s : Subscribe) → find (is_called eventing (codes "EndTo")) (option_to_list (option_map end_element end) ++ (delivery_element s ∷ (option_to_list (option_map expires_element s.expires) ++ last_parts s))) ≡ option_map end_element end
unfolding eventing
end_found (Some a) s = refl
end_found None s = by_expires s.expires (map.entries s.from)
  where
    by_entries : (es : List (List ℕ × ℕ)) → find (is_called eventing (codes "EndTo")) (filter_element s.query.items ∷ header_of es ∷ with_text management (codes "SendBookmarks") [] ∷ []) ≡ None
    by_entries [] = refl
    by_entries (e ∷ es) = refl

    by_expires : (expires : Option ℕ) (es : List (List ℕ × ℕ))
        → find (is_called eventing (codes "EndTo")) (option_to_list (option_map expires_element expires) ++ (filter_element s.query.items ∷ header_of es ∷ with_text management (codes "SendBookmarks") [] ∷ [])) ≡ None
    by_expires None es = by_entries es
    by_expires (Some ms) es = by_entries es

delivery_found : (end : Option (List ℕ)) (s : Subscribe) (es : List Element) → find (is_called eventing (codes "Delivery")) (option_to_list (option_map end_element end) ++ (delivery_element s ∷ es)) ≡ Some (delivery_element s)
unfolding eventing
delivery_found None s es = refl
delivery_found (Some a) s es = refl

-- a search that passes EndTo and Delivery goes on behind them
expires_found : (end : Option (List ℕ)) (s : Subscribe) → find (is_called eventing (codes "Expires")) (option_to_list (option_map end_element end) ++ (delivery_element s ∷ (option_to_list (option_map expires_element s.expires) ++ last_parts s))) ≡ option_map expires_element s.expires
unfolding eventing
expires_found end s = by_end end s.expires (map.entries s.from)
  where
    by_entries : (es : List (List ℕ × ℕ)) → find (is_called eventing (codes "Expires")) (filter_element s.query.items ∷ header_of es ∷ with_text management (codes "SendBookmarks") [] ∷ []) ≡ None
    by_entries [] = refl
    by_entries (e ∷ es) = refl

    by_expires : (expires : Option ℕ) (es : List (List ℕ × ℕ))
        → find (is_called eventing (codes "Expires")) (option_to_list (option_map expires_element expires) ++ (filter_element s.query.items ∷ header_of es ∷ with_text management (codes "SendBookmarks") [] ∷ [])) ≡ option_map expires_element expires
    by_expires None es = by_entries es
    by_expires (Some ms) es = refl

    by_end : (o : Option (List ℕ)) (expires : Option ℕ) (es : List (List ℕ × ℕ))
        → find (is_called eventing (codes "Expires")) (option_to_list (option_map end_element o) ++ (delivery_element s ∷ (option_to_list (option_map expires_element expires) ++ (filter_element s.query.items ∷ header_of es ∷ with_text management (codes "SendBookmarks") [] ∷ [])))) ≡ option_map expires_element expires
    by_end None expires es = by_expires expires es
    by_end (Some a) expires es = by_expires expires es

filter_found : (end : Option (List ℕ)) (s : Subscribe) (expires : Option ℕ) (es : List Element) → find (is_called management (codes "Filter")) (option_to_list (option_map end_element end) ++ (delivery_element s ∷ (option_to_list (option_map expires_element expires) ++ (filter_element s.query.items ∷ es)))) ≡ Some (filter_element s.query.items)
unfolding management
filter_found None s None es = refl
filter_found None s (Some ms) es = refl
filter_found (Some a) s None es = refl
filter_found (Some a) s (Some ms) es = refl

bookmark_found : (end : Option (List ℕ)) (s : Subscribe) (expires : Option ℕ) (items : List QueryItem) (entries : List (List ℕ × ℕ)) (es : List Element)
    → find (is_called management (codes "Bookmark")) (option_to_list (option_map end_element end) ++ (delivery_element s ∷ (option_to_list (option_map expires_element expires) ++ (filter_element items ∷ header_of entries ∷ es)))) ≡ Some (header_of entries)
unfolding management
bookmark_found None s None items [] es = refl
bookmark_found None s None items (e ∷ entries) es = refl
bookmark_found None s (Some ms) items [] es = refl
bookmark_found None s (Some ms) items (e ∷ entries) es = refl
bookmark_found (Some a) s None items [] es = refl
bookmark_found (Some a) s None items (e ∷ entries) es = refl
bookmark_found (Some a) s (Some ms) items [] es = refl
bookmark_found (Some a) s (Some ms) items (e ∷ entries) es = refl

-- ---- addresses

-- what is known of an address
address_trimmed : (text : List ℕ) → is_address text ≡ true → IsTrimmed text
address_trimmed text is =
    (printed_text text (and_parts (same (take (length scheme) text) scheme && has_path (drop (length scheme) text)) (list_all is_printed text) is).1).0

delivery_address : (text : List ℕ) → is_delivery text ≡ true → is_address text ≡ true
delivery_address text is =
    (and_parts (is_address text) (has_segments text) (and_parts (is_address text && has_segments text) (is_some (subscription_in text)) is).0).0

address_again : (space name text : List ℕ) (es : List Element) → IsTrimmed text → address_in (record { space = space; name = name; attributes = []; children = as_nodes (address_element text ∷ es) }) ≡ Some text
unfolding addressing
address_again space name text es is =
    ap (option_map said_in) (among addressing (codes "Address") (address_element text ∷ es)) ∙ ap Some (said_again addressing (codes "Address") text is)

passed : (test : List ℕ → Bool) (text : List ℕ) → test text ≡ true → passing test text ≡ Some text
passed test text is = ap (λ (b : Bool). cond b (Some text) None) is

target_again : (s : Subscribe) → is_delivery s.notify_to ≡ true → target_in (notify_element s) ≡ Ok s.notify_to
target_again s is =
    ap (λ o. needed (BadBody the.NotifyTo) (option_and_then (passing is_delivery) o))
    (address_again eventing (codes "NotifyTo") s.notify_to (option_to_list (option_map properties_element s.identifier)) (address_trimmed s.notify_to (delivery_address s.notify_to is)))
    ∙ ap (needed (BadBody the.NotifyTo)) (passed is_delivery s.notify_to is)

end_again : (end : Option (List ℕ)) → IfSome end IsAddress → end_in (option_map end_element end) ≡ Ok end
end_again None is = refl
end_again (Some a) is =
    ap (λ o. needed (BadBody the.EndTo) (option_map (λ text. Some text) (option_and_then (passing is_address) o))) (address_again eventing (codes "EndTo") a [] (address_trimmed a is))
    ∙ ap (λ o. needed (BadBody the.EndTo) (option_map (λ text. Some text) o)) (passed is_address a is)

pub identifier_again : (name address : List ℕ) (identifier : Option (List ℕ)) → IfSome identifier IsTrimmed →
    identifier_in (with_elements eventing name (address_element address ∷ option_to_list (option_map properties_element identifier))) ≡ identifier
unfolding addressing eventing
identifier_again name address None is =
    (λ i. option_or
    (option_map said_in (option_and_then (λ (e : Element). first_called eventing (codes "Identifier") e.children) (among addressing (codes "ReferenceProperties") (address_element address ∷ []) i)))
    (option_map said_in (option_and_then (λ (e : Element). first_called eventing (codes "Identifier") e.children) (among addressing (codes "ReferenceParameters") (address_element address ∷ []) i))))
identifier_again name address (Some text) is =
    let reference : Element = with_elements eventing name (address_element address ∷ properties_element text ∷ []) in
    ap (λ o. option_or (option_map said_in (option_and_then (λ (e : Element). first_called eventing (codes "Identifier") e.children) o)) (identifier_among (codes "ReferenceParameters") reference))
    (among addressing (codes "ReferenceProperties") (address_element address ∷ properties_element text ∷ []))
    ∙ ap (λ o. option_or (option_map said_in o) (identifier_among (codes "ReferenceParameters") reference)) (among eventing (codes "Identifier") (with_text eventing (codes "Identifier") text ∷ []))
    ∙ ap Some (said_again eventing (codes "Identifier") text is)

-- ---- limits

near_itself : (least greatest n : ℕ) → IsWithin least greatest n → nearest least greatest n ≡ n
near_itself least greatest n is = let low = is.0 in let high = is.1 in omega arith

value_is : (b : Bool) (v n : ℕ) → cond b (Some v) None ≡ Some n → v ≡ n
value_is true v n e = cc
value_is false v n e = let bad : ⊥ = cc in absurd bad

-- digits are read as the number that they were written for
count_again : (part : Part) (usual least greatest n : ℕ) (name : List ℕ) (e : Element) → said_in e ≡ decimal n → n ≤ MAX → IsWithin least greatest n → count_in part usual least greatest (Some e) ≡ Ok n
count_again part usual least greatest n name e says small is =
    let parts = decimal_parts n small in
    let value : value_from 0 (decimal n) ≡ n = value_is (nat_le (value_from 0 (decimal n)) MAX) (value_from 0 (decimal n)) n parts.1 in
    ap (λ text. needed (BadBody part) (number_near least greatest text)) says
    ∙ (λ i. needed (BadBody part) (cond (parts.0 i) (Some (nearest least greatest (value i))) None))
    ∙ ap Ok (near_itself least greatest n is)

small_count : (n : ℕ) → n ≤ 4194304 → n ≤ MAX
small_count n le = omega arith

items_again : (s : Subscribe) → IsWithin 1 10_000 s.max_items → items_in (delivery_element s) ≡ Ok s.max_items
unfolding management
items_again s is =
    let high = is.1 in
    ap (count_in the.MaxElements 20 1 10_000) (among management (codes "MaxElements") (heartbeats_element s.heartbeat ∷ notify_element s ∷ count_element s.max_items ∷ size_element s.max_bytes ∷ []))
    ∙ count_again the.MaxElements 20 1 10_000 s.max_items (codes "MaxElements") (count_element s.max_items)
    (said_again management (codes "MaxElements") (decimal s.max_items) (decimal_trimmed s.max_items)) (small_count s.max_items (omega arith)) is

bytes_again : (s : Subscribe) → IsWithin 8_192 4_194_304 s.max_bytes → bytes_in (delivery_element s) ≡ Ok s.max_bytes
unfolding management
bytes_again s is =
    ap (count_in the.MaxEnvelopeSize 512_000 8_192 4_194_304) (among management (codes "MaxEnvelopeSize") (heartbeats_element s.heartbeat ∷ notify_element s ∷ count_element s.max_items ∷ size_element s.max_bytes ∷ []))
    ∙ count_again the.MaxEnvelopeSize 512_000 8_192 4_194_304 s.max_bytes (codes "MaxEnvelopeSize") (size_element s.max_bytes)
    (said_again management (codes "MaxEnvelopeSize") (decimal s.max_bytes) (decimal_trimmed s.max_bytes)) (small_count s.max_bytes is.1) is

within_limit : (ms : ℕ) → ms ≤ 86400000 → ms ≤ LIMIT
within_limit ms le = omega arith

heartbeats_again : (s : Subscribe) → IsWithin 1 86_400_000 s.heartbeat → heartbeats_in (in_management (codes "Heartbeats") (delivery_element s)) ≡ Ok s.heartbeat
unfolding management
heartbeats_again s is =
    ap heartbeats_in (among management (codes "Heartbeats") (heartbeats_element s.heartbeat ∷ notify_element s ∷ count_element s.max_items ∷ size_element s.max_bytes ∷ []))
    ∙ ap (λ text. needed (BadBody the.Heartbeats) (duration_near 1 86_400_000 (duration_in text))) (text_again (duration_text s.heartbeat))
    ∙ ap (λ r. needed (BadBody the.Heartbeats) (duration_near 1 86_400_000 r)) (reads_back s.heartbeat (within_limit s.heartbeat is.1))
    ∙ ap Ok (near_itself 1 86_400_000 s.heartbeat is)

-- ---- the expiry

expiry_again : (now ms : ℕ) → IsWithin 1 LIMIT ms → expiry_in now (duration_text ms) ≡ Some ms
unfolding expiry_in
expiry_again now zero is = let low = is.0 in let bad : ⊥ = omega arith in absurd bad
expiry_again now (suc ms) is = ap (λ r. expiry_of r (until now (instant_in (duration_text (suc ms))))) (reads_back (suc ms) is.1)

pub expires_again : (now : ℕ) (expires : Option ℕ) → IfSome expires (IsWithin 1 LIMIT) → expires_of now (option_map expires_element expires) ≡ Ok expires
expires_again now None is = refl
expires_again now (Some ms) is =
    ap (λ text. and_then (needed BadExpires (expiry_in now text)) (λ found. Ok (Some found))) (text_again (duration_text ms))
    ∙ ap (λ o. and_then (needed BadExpires o) (λ found. Ok (Some found))) (expiry_again now ms is)

-- ---- the mode and the filter

mode_again : (s : Subscribe) → in_mode (delivery_element s) ≡ Ok (delivery_element s)
unfolding batches
mode_again s = refl

dialect_again : (items : List QueryItem) → IsWritable items → in_dialect (filter_element items) ≡ Ok (record { items = items })
unfolding event_query
dialect_again items is =
    ap (λ es. and_then (needed BadFilter (slice_get es 0)) (λ e. unless_refused (query_in e))) (elements_again (query_element items ∷ []))
    ∙ ap unless_refused (query_read items is)

-- ---- a Subscribe

delivery_again : (s : Subscribe) → delivery_in (subscribe_element s) ≡ Ok (delivery_element s)
unfolding subscribe_element
delivery_again s =
    ap (λ o. and_then (needed BadMode o) (λ e. in_mode e)) (among eventing (codes "Delivery") (subscribe_parts s) ∙ delivery_found s.end_to s (option_to_list (option_map expires_element s.expires) ++ last_parts s))
    ∙ mode_again s

filter_again : (s : Subscribe) → IsWritable s.query.items → filter_in (subscribe_element s) ≡ Ok s.query
unfolding subscribe_element
filter_again s is =
    ap (λ o. and_then (needed BadFilter o) (λ e. in_dialect e))
    (among management (codes "Filter") (subscribe_parts s) ∙ filter_found s.end_to s s.expires (bookmark_element s.from ∷ with_text management (codes "SendBookmarks") [] ∷ []))
    ∙ dialect_again s.query.items is

expires_there : (now : ℕ) (s : Subscribe) → IfSome s.expires (IsWithin 1 LIMIT) → expires_of now (in_eventing (codes "Expires") (subscribe_element s)) ≡ Ok s.expires
unfolding subscribe_element
expires_there now s is = ap (expires_of now) (among eventing (codes "Expires") (subscribe_parts s) ∙ expires_found s.end_to s) ∙ expires_again now s.expires is

end_there : (s : Subscribe) → IfSome s.end_to IsAddress → end_in (in_eventing (codes "EndTo") (subscribe_element s)) ≡ Ok s.end_to
unfolding subscribe_element
end_there s is = ap end_in (among eventing (codes "EndTo") (subscribe_parts s) ∙ end_found s.end_to s) ∙ end_again s.end_to is

notify_there : (s : Subscribe) → in_eventing (codes "NotifyTo") (delivery_element s) ≡ Some (notify_element s)
unfolding eventing
notify_there s = among eventing (codes "NotifyTo") (heartbeats_element s.heartbeat ∷ notify_element s ∷ count_element s.max_items ∷ size_element s.max_bytes ∷ [])

bookmark_there : (s : Subscribe) → IsPlainSubscribe s → bookmark_of (in_management (codes "Bookmark") (subscribe_element s)) ≡ Ok s.from
unfolding subscribe_element
bookmark_there s is =
    ap bookmark_of (among management (codes "Bookmark") (subscribe_parts s)
    ∙ bookmark_found s.end_to s s.expires s.query.items (map.entries s.from) (with_text management (codes "SendBookmarks") [] ∷ []))
    ∙ ap (needed (BadBody the.Bookmark)) (bookmark_read s.from is.from)

parts_again : (now : ℕ) (s : Subscribe) → IsPlainSubscribe s → subscribe_with (subscribe_element s) (delivery_element s) s.query s.expires (notify_element s) ≡ Ok s
parts_again now s is =
    let target = target_again s is.notify_to in
    let end = end_there s is.end_to in
    let items = items_again s is.max_items in
    let bytes = bytes_again s is.max_bytes in
    let beats = heartbeats_again s is.heartbeat in
    let bookmark = bookmark_there s is in
    let named = identifier_again (codes "NotifyTo") s.notify_to s.identifier is.identifier in
    λ i. and_then (target i) (λ notify_to. and_then (end i) (λ end_to. and_then (items i) (λ max_items. and_then (bytes i) (λ max_bytes. and_then (beats i) (λ heartbeat. and_then (bookmark i) (λ from.
    Ok (record { notify_to = notify_to; end_to = end_to; identifier = named i; query = s.query; max_items = max_items; max_bytes = max_bytes; heartbeat = heartbeat; expires = s.expires; from = from })))))))

element_again : (now : ℕ) (s : Subscribe) → IsPlainSubscribe s → subscribe_of now (subscribe_element s) ≡ Ok s
element_again now s is =
    let e = subscribe_element s in
    let delivery = delivery_again s in
    let filter = filter_again s is.query in
    let expires = expires_there now s is.expires in
    (λ i. and_then (delivery i) (λ d. and_then (filter i) (λ query. and_then (expires i) (λ x. and_then (needed (BadBody the.NotifyTo) (in_eventing (codes "NotifyTo") d)) (λ notify. subscribe_with e d query x notify)))))
    ∙ ap (λ o. and_then (needed (BadBody the.NotifyTo) o) (λ notify. subscribe_with e (delivery_element s) s.query s.expires notify)) (notify_there s)
    ∙ parts_again now s is

subscribe_found : (s : Subscribe) → find (is_called eventing (codes "Subscribe")) (subscribe_element s ∷ []) ≡ Some (subscribe_element s)
unfolding subscribe_element eventing
subscribe_found s = refl

pub subscribe_again : (now : ℕ) (s : Subscribe) → IsPlainSubscribe s → subscribe_in now (subscribe_element s ∷ []) ≡ Ok s
subscribe_again now s is = ap (λ o. and_then (needed (BadBody the.Subscribe) o) (λ e. subscribe_of now e)) (subscribe_found s) ∙ element_again now s is
