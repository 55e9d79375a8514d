-- A Subscribe (WS-Eventing, 3.1, with the parts that WS-Management adds): where batches of events go, of which events, and
-- how. Each part is the first element of its name; other elements don't matter, nor does the order. The mode is judged first,
-- then the filter and the expiry, and then the parts of the delivery.
use Rattle.std.specs.Prelude.{ℕ, Bool, false, List, [], codes, find, slice_get, Option, Some, None, Result, if◌then◌else◌}
use Rattle.std.specs.FinMap as map
use Rattle.std.specs.declared.result.Result.TheVariants.{Ok, Err}
use Rattle.wef_base.specs.Names.{same}
use Rattle.wef_base.specs.declared.tree.Element.{Element}
use Rattle.wef_bookmark.specs.Nodes.{bookmark_in}
use Rattle.wef_bookmark.specs.Order.{Marks}
use Rattle.wef_elements.specs.Children.{elements_in, first_called, is_called}
use Rattle.wef_elements.specs.Spaces.{management}
use Rattle.wef_elements.specs.Texts.{text_inside}
use Rattle.wef_elements.specs.Values.{value_of}
use Rattle.wef_envelope.specs.Spaces.{eventing}
use Rattle.wef_eventing.specs.declared.offers.Subscribe.{Subscribe}
use Rattle.wef_query.specs.Reading.{query_in}
use Rattle.wef_query.specs.declared.QueryList.{QueryList}
use Rattle.wef_query.specs.declared.reading.QueryFault.{QueryFault}
use Rattle.wef_times.specs.Expiry.{expiry_in}
use Rattle.wef_subscribes.specs.Addresses.{end_in, identifier_in, target_in}
use Rattle.wef_subscribes.specs.Limits.{count_in, heartbeats_in}
use Rattle.wef_subscribes.specs.Spaces.{batches, event_query}
use Rattle.wef_subscribes.specs.Steps.{and_then, needed}
use Rattle.wef_subscribes.specs.declared.faults.BodyFault.{BodyFault}
use Rattle.wef_subscribes.specs.declared.faults.BodyFault.TheVariants.{BadBody, BadMode, BadFilter, BadExpires}
use Rattle.wef_subscribes.specs.declared.faults.Part.TheVariants as the

-- the first child of WS-Eventing, and of WS-Management, that has a local name
abbrev pub in_eventing : List ℕ → Element → Option Element
in_eventing name e = first_called eventing name e.children

abbrev pub in_management : List ℕ → Element → Option Element
in_management name e = first_called management name e.children

-- whether an attribute without a namespace says a text
abbrev pub says : List ℕ → Option (List ℕ) → Bool
says text None = false
says text (Some value) = same text value

abbrev pub has_attribute : List ℕ → List ℕ → Element → Bool
has_attribute name text e = says text (value_of [] name e.attributes)

-- ---- the mode

-- an element Delivery, in the mode of batches
abbrev pub in_mode : Element → Result Element BodyFault
in_mode delivery = if has_attribute (codes "Mode") batches delivery then Ok delivery else Err BadMode

abbrev pub delivery_in : Element → Result Element BodyFault
delivery_in subscribe = and_then (needed BadMode (in_eventing (codes "Delivery") subscribe)) (λ e. in_mode e)

-- ---- the filter

abbrev pub unless_refused : Result QueryList QueryFault → Result QueryList BodyFault
unless_refused (Ok query) = Ok query
unless_refused (Err fault) = Err BadFilter

-- the queries of a filter, which are its first element
abbrev pub queries_in : Element → Result QueryList BodyFault
queries_in filter = and_then (needed BadFilter (slice_get (elements_in filter.children) 0)) (λ e. unless_refused (query_in e))

-- those of a filter in the dialect of queries
abbrev pub in_dialect : Element → Result QueryList BodyFault
in_dialect filter = if has_attribute (codes "Dialect") event_query filter then queries_in filter else Err BadFilter

abbrev pub filter_in : Element → Result QueryList BodyFault
filter_in subscribe = and_then (needed BadFilter (in_management (codes "Filter") subscribe)) (λ e. in_dialect e)

-- ---- the expiry

-- in how many milliseconds from now it expires, if it says so
abbrev pub expires_of : ℕ → Option Element → Result (Option ℕ) BodyFault
expires_of now None = Ok None
expires_of now (Some e) = and_then (needed BadExpires (expiry_in now (text_inside e))) (λ ms. Ok (Some ms))

-- ---- the bookmark

-- how far the events were read; nothing where it isn't said
abbrev pub bookmark_of : Option Element → Result Marks BodyFault
bookmark_of None = Ok map.empty
bookmark_of (Some e) = needed (BadBody the.Bookmark) (bookmark_in e)

-- ---- a Subscribe

-- what an element says of how much a batch holds
abbrev pub items_in : Element → Result ℕ BodyFault
items_in delivery = count_in the.MaxElements 20 1 10_000 (in_management (codes "MaxElements") delivery)

abbrev pub bytes_in : Element → Result ℕ BodyFault
bytes_in delivery = count_in the.MaxEnvelopeSize 512_000 8_192 4_194_304 (in_management (codes "MaxEnvelopeSize") delivery)

-- what is asked for of these queries, with this expiry, by an element and its Delivery, whose NotifyTo is at hand
abbrev pub subscribe_with : Element → Element → QueryList → Option ℕ → Element → Result Subscribe BodyFault
subscribe_with subscribe delivery query expires notify =
    and_then (target_in notify) (λ notify_to.
    and_then (end_in (in_eventing (codes "EndTo") subscribe)) (λ end_to.
    and_then (items_in delivery) (λ max_items.
    and_then (bytes_in delivery) (λ max_bytes.
    and_then (heartbeats_in (in_management (codes "Heartbeats") delivery)) (λ heartbeat.
    and_then (bookmark_of (in_management (codes "Bookmark") subscribe)) (λ from.
    Ok (record {
      notify_to = notify_to;
      end_to = end_to;
      identifier = identifier_in notify;
      query = query;
      max_items = max_items;
      max_bytes = max_bytes;
      heartbeat = heartbeat;
      expires = expires;
      from = from;
    })))))))

-- what an element Subscribe asks for
abbrev pub subscribe_of : ℕ → Element → Result Subscribe BodyFault
subscribe_of now subscribe =
    and_then (delivery_in subscribe) (λ delivery.
    and_then (filter_in subscribe) (λ query.
    and_then (expires_of now (in_eventing (codes "Expires") subscribe)) (λ expires.
    and_then (needed (BadBody the.NotifyTo) (in_eventing (codes "NotifyTo") delivery)) (λ notify.
    subscribe_with subscribe delivery query expires notify))))

-- The wish that the elements of a Body say, at a moment in milliseconds since 1970.
abbrev pub subscribe_in : ℕ → List Element → Result Subscribe BodyFault
subscribe_in now body = and_then (needed (BadBody the.Subscribe) (find (is_called eventing (codes "Subscribe")) body)) (λ e. subscribe_of now e)
