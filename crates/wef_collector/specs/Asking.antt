-- The next request of the collector to a source, by the rows and by what it remembers.
use Rattle.std.specs.Prelude.{ℕ, List, Option, Some, None, IfSome}
use Rattle.std.specs.Option.{option_map}
use Rattle.wef_bodies.specs.Laws.{CanBeWritten}
use Rattle.wef_bodies.specs.declared.bodies.Body.{Body}
use Rattle.wef_bodies.specs.declared.bodies.Body.TheVariants as body
use Rattle.wef_eventing.specs.declared.subscriptions.Subscription.{Subscription}
use Rattle.wef_ids.specs.IdTexts.{id_of_value}
use Rattle.wef_ids.specs.Ids.{next_id}
use Rattle.wef_ids.specs.declared.MessageId.{MessageId}
use Rattle.wef_ids.specs.declared.ids.Ids.{Ids}
use Rattle.wef_keeper.specs.Rows.{Rows}
use Rattle.wef_xml.specs.Good.{IsXmlText}
use Rattle.wef_collector_rows.specs.Bookmarks.{bookmark_of}
use Rattle.wef_collector_leases.specs.Next.{next_due}
use Rattle.wef_collector_leases.specs.declared.leases.Wants.{Wants}
use Rattle.wef_collector_leases.specs.declared.leases.Wants.TheVariants.{Subscribes, Renews, Unsubscribes}
use Rattle.wef_collector_leases.specs.declared.next.Due.{Due}
use Rattle.wef_collector_leases.specs.declared.waiting.Waiting.{Waiting}
use Rattle.wef_collector.specs.Offers.{subscribe_from}
use Rattle.wef_collector.specs.declared.asking.Request.{Request}

-- what names the session that a wish is about
abbrev pub identifier_of : Wants → Option (List ℕ)
identifier_of Subscribes = None
identifier_of (Renews identifier) = Some identifier
identifier_of (Unsubscribes identifier) = Some identifier

-- a wish as the body of a message: a subscription asks for the events above the bookmark that is kept, for as long as it
-- expires, and goes on for as long again
abbrev pub body_for : Rows → List ℕ → Subscription → List ℕ → Wants → Body
body_for rows host about s Subscribes = body.Subscribe (subscribe_from (bookmark_of rows about.name s) s host about (Some about.expires))
body_for rows host about s (Renews identifier) = body.Renew about.expires
body_for rows host about s (Unsubscribes identifier) = body.Unsubscribe

-- the request for what is due, under an id
abbrev pub request_for : Rows → List ℕ → MessageId → Due → Request
request_for rows host id due = record {
  id = id;
  sub = due.subscription.name;
  source = due.source;
  identifier = identifier_of due.wants;
  body = body_for rows host due.subscription due.source.name due.wants;
}

-- the next request, under the next id, where something is due; events come to the host
abbrev pub next_request : Rows → List Waiting → Ids → List ℕ → ℕ → Option Request
next_request rows waiting ids host now = option_map (request_for rows host (id_of_value (next_id ids))) (next_due rows waiting now)

-- the wish in a request
abbrev pub wants_named : List ℕ → Body → Wants
wants_named identifier body.Unsubscribe = Unsubscribes identifier
wants_named identifier _ = Renews identifier

abbrev pub wants_by : Option (List ℕ) → Body → Wants
wants_by None asks = Subscribes
wants_by (Some identifier) asks = wants_named identifier asks

abbrev pub value_of : Option ℕ → ℕ
value_of None = 0
value_of (Some value) = value

-- a request as it waits for its answer
abbrev pub waiting_of : Request → Waiting
waiting_of r = record { sub = r.sub; source = r.source.name; id = value_of r.id.value; wants = wants_by r.identifier r.body }

-- a request that can be written: its texts hold characters that XML allows
pub record CanBeRequested (r : Request) : Type 0 where
  pub address : IsXmlText r.source.address
  pub id : IsXmlText r.id.text
  pub identifier : IfSome r.identifier IsXmlText
  pub body : CanBeWritten r.body
