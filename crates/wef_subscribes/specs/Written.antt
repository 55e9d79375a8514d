-- The element that is written for a Subscribe.
use Rattle.std.specs.Prelude.{ℕ, List, [], ◌∷◌, ◌++◌, codes}
use Rattle.std.specs.Fmt.{decimal}
use Rattle.std.specs.Option.{option_map, option_to_list}
use Rattle.wef_base.specs.declared.tree.Element.{Element}
use Rattle.wef_bookmark.specs.Nodes.{bookmark_element}
use Rattle.wef_elements.specs.Children.{as_nodes, with_attributes, with_elements, with_text}
use Rattle.wef_elements.specs.Spaces.{management}
use Rattle.wef_envelope.specs.Spaces.{addressing, eventing}
use Rattle.wef_eventing.specs.declared.offers.Subscribe.{Subscribe}
use Rattle.wef_query.specs.Writing.{query_element}
use Rattle.wef_query.specs.Items.{QueryItem}
use Rattle.wef_times.specs.Durations.{duration_text}
use Rattle.wef_subscribes.specs.Spaces.{batches, event_query}

-- an element that has one attribute, without a namespace, and elements
abbrev pub marked_holder : List ℕ → List ℕ → List ℕ → List ℕ → List Element → Element
marked_holder space name attribute value es =
    record { space = space; name = name; attributes = record { space = []; name = attribute; value = value } ∷ []; children = as_nodes es }

abbrev pub address_element : List ℕ → Element
address_element address = with_text addressing (codes "Address") address

abbrev pub end_element : List ℕ → Element
end_element address = with_elements eventing (codes "EndTo") (address_element address ∷ [])

-- the element by which messages to a reference bear an identifier
abbrev pub properties_element : List ℕ → Element
properties_element identifier = with_elements addressing (codes "ReferenceProperties") (with_text eventing (codes "Identifier") identifier ∷ [])

abbrev pub notify_element : Subscribe → Element
notify_element s = with_elements eventing (codes "NotifyTo") (address_element s.notify_to ∷ option_to_list (option_map properties_element s.identifier))

abbrev pub heartbeats_element : ℕ → Element
heartbeats_element ms = with_text management (codes "Heartbeats") (duration_text ms)

abbrev pub count_element : ℕ → Element
count_element items = with_text management (codes "MaxElements") (decimal items)

-- the limit of an envelope, which a source must be told of where it is passed
abbrev pub size_element : ℕ → Element
size_element bytes = with_attributes management (codes "MaxEnvelopeSize") (record { space = []; name = codes "Policy"; value = codes "Notify" } ∷ []) (decimal bytes)

abbrev pub delivery_element : Subscribe → Element
delivery_element s =
    marked_holder eventing (codes "Delivery") (codes "Mode") batches (
    heartbeats_element s.heartbeat ∷
    notify_element s ∷
    count_element s.max_items ∷
    size_element s.max_bytes ∷ [])

abbrev pub expires_element : ℕ → Element
expires_element ms = with_text eventing (codes "Expires") (duration_text ms)

abbrev pub filter_element : List QueryItem → Element
filter_element items = marked_holder management (codes "Filter") (codes "Dialect") event_query (query_element items ∷ [])

-- the children of a Subscribe: those behind the Delivery, and all
abbrev pub last_parts : Subscribe → List Element
last_parts s = filter_element s.query.items ∷ bookmark_element s.from ∷ with_text management (codes "SendBookmarks") [] ∷ []

abbrev pub subscribe_parts : Subscribe → List Element
subscribe_parts s = option_to_list (option_map end_element s.end_to) ++ (delivery_element s ∷ (option_to_list (option_map expires_element s.expires) ++ last_parts s))

unfoldable pub subscribe_element : Subscribe → Element
subscribe_element s = with_elements eventing (codes "Subscribe") (subscribe_parts s)
