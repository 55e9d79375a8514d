-- What a tree says as a subscription document (Windows' schema of subscriptions). The root is called Subscription; the parts
-- are judged in this order, and the first that isn't good is told by its name: SubscriptionId, SubscriptionType, Enabled,
-- Delivery, MaxItems, Heartbeat, MaxEnvelopeSize, Expires, Query, Address, Version.
use Rattle.std.specs.Prelude.{ℕ, List, codes, slice_get, Option, Some, None, Result, if◌then◌else◌}
use Rattle.std.specs.declared.result.Result.TheVariants.{Ok, Err}
use Rattle.wef_base.specs.declared.tree.Charset.TheVariants.{Utf8}
use Rattle.wef_base.specs.declared.tree.Element.{Element}
use Rattle.wef_elements.specs.Children.{elements_in, is_called}
use Rattle.wef_elements.specs.Texts.{said_in}
use Rattle.wef_eventing.specs.declared.subscriptions.Subscription.{Subscription}
use Rattle.wef_query.specs.Reading as query
use Rattle.wef_query.specs.declared.QueryList.{QueryList}
use Rattle.wef_query.specs.declared.reading.QueryFault.{QueryFault}
use Rattle.wef_tree_reading.specs.Documents.{tree_of}
use Rattle.wef_documents.specs.Sources.{sources_of}
use Rattle.wef_documents.specs.Steps.{and_then, must, needed}
use Rattle.wef_documents.specs.Values.{child, is_enabled, is_pushed, kind_in, limits_in, name_in, space, version_in}
use Rattle.wef_documents.specs.declared.faults.DocumentFault.{DocumentFault}
use Rattle.wef_documents.specs.declared.faults.DocumentFault.TheVariants.{BadDocument}
use Rattle.wef_documents.specs.declared.faults.Part.TheVariants as the

-- ---- the queries

abbrev pub bad_query : DocumentFault
bad_query = BadDocument the.Query

abbrev pub unless_refused : Result QueryList QueryFault → Result QueryList DocumentFault
unless_refused (Ok queries) = Ok queries
unless_refused (Err fault) = Err bad_query

-- the list of queries that an element says
abbrev pub queries_said : Element → Result QueryList DocumentFault
queries_said list = unless_refused (query.query_in list)

-- the list that the root of a document says, where there is one
abbrev pub queries_at : Option Element → Result QueryList DocumentFault
queries_at root = and_then (needed bad_query root) (λ list. queries_said list)

-- the list in an element Query: its first element, or where it has none the document that its text is
abbrev pub queries_by : Option Element → List ℕ → Result QueryList DocumentFault
queries_by (Some list) text = queries_said list
queries_by None text = queries_at (tree_of Utf8 text)

abbrev pub queries_of : Element → Result QueryList DocumentFault
queries_of e = queries_by (slice_get (elements_in e.children) 0) (said_in e)

abbrev pub queries_in : Element → Result QueryList DocumentFault
queries_in root = and_then (needed bad_query (child (codes "Query") root)) (λ e. queries_of e)

-- ---- a subscription

-- the subscription that an element Subscription says
abbrev pub subscription_of : Element → Result Subscription DocumentFault
subscription_of root =
    and_then (name_in root) (λ name.
    and_then (kind_in root) (λ kind.
    and_then (must (BadDocument the.Enabled) (is_enabled root)) (λ enabled.
    and_then (must (BadDocument the.Delivery) (is_pushed root)) (λ pushed.
    and_then (limits_in root) (λ limits.
    and_then (queries_in root) (λ queries.
    and_then (sources_of kind root) (λ sources.
    and_then (version_in root) (λ version.
    Ok (record {
      name = name;
      kind = kind;
      query = queries;
      max_items = limits.max_items;
      max_bytes = limits.max_bytes;
      heartbeat = limits.heartbeat;
      expires = limits.expires;
      sources = sources;
      version = version;
    })))))))))

-- The subscription that a root says, or the first of its parts that isn't good.
unfoldable pub subscription_in : Element → Result Subscription DocumentFault
subscription_in root = if is_called space (codes "Subscription") root then subscription_of root else Err (BadDocument the.Subscription)
