-- What a message asks of the collector, by where it came to and by its tree; or why it is refused, where nothing that is kept
-- decides that.
use Rattle.std.specs.Option.{option_and_then}
use Rattle.std.specs.Prelude.{◌≡◌, ℕ, Bool, true, false, not, IfSome, List, Option, Some, None, Result, if◌then◌else◌}
use Rattle.std.specs.declared.result.Result.TheVariants.{Ok, Err}
use Rattle.wef_base.specs.Names.{same, source_name, subscription_name}
use Rattle.wef_base.specs.declared.tree.Charset.{Charset}
use Rattle.wef_base.specs.declared.tree.Element.{Element}
use Rattle.wef_batch.specs.Numbers.{AreNumbered}
use Rattle.wef_batch.specs.Reading.{batch_of}
use Rattle.wef_batch.specs.declared.items.Batch.{Batch}
use Rattle.wef_batch.specs.declared.reading.BatchFault.{BatchFault}
use Rattle.wef_envelope.specs.Envelopes.{id_in, said}
use Rattle.wef_envelope.specs.Faults.{is_known}
use Rattle.wef_bodies.specs.Leases.{Ended, ended_in}
use Rattle.wef_bodies.specs.Reading.{has_enumerate}
use Rattle.wef_envelope.specs.declared.actions.TheConstants.{ENUMERATE, EVENTS, HEARTBEAT, SUBSCRIPTION_END, SUBSCRIPTIONS}
use Rattle.wef_envelope.specs.declared.envelopes.Envelope.{Envelope}
use Rattle.wef_envelope.specs.declared.envelopes.EnvelopeFault.{EnvelopeFault}
use Rattle.wef_ids.specs.declared.FaultName.{FaultName}
use Rattle.wef_ids.specs.declared.FaultName.TheVariants as the
use Rattle.wef_ids.specs.declared.MessageId.{MessageId}
use Rattle.wef_replies.specs.Refusals.{HearsBytes, envelope_refused, is_nameless}
use Rattle.wef_subscribes.specs.declared.faults.BodyFault.{BodyFault}
use Rattle.wef_xml.specs.Good.{IsXmlText}
use Rattle.wef_front_collector.specs.declared.hearing.Asked.{Asked}
use Rattle.wef_front_collector.specs.declared.hearing.Asked.TheVariants as asked
use Rattle.wef_front_collector.specs.declared.hearing.Asked.TheVariants.{Refused, Enumerate, Unread, Take, Heartbeat, UnreadEnd}
use Rattle.wef_front_collector.specs.declared.hearing.Heard.{Heard}
use Rattle.wef_http_heads.specs.declared.targets.Target.{Target}
use Rattle.wef_http_heads.specs.declared.targets.Target.TheVariants.{Manager, Delivery, Root}

-- ---- batches

-- A batch for a subscription: one that isn't good, or comes from no source's name, is refused by the subscription that
-- it is for. No subscription has a name that isn't one.
abbrev pub events_asked : Option (List ℕ) → Option (List ℕ) → Result Batch BatchFault → Asked
events_asked None source batch = Refused the.DestinationUnreachable
events_asked (Some u) None batch = Unread u
events_asked (Some u) (Some s) (Err fault) = Unread u
events_asked (Some u) (Some s) (Ok batch) = Take u s batch

-- the batch that an envelope says
abbrev pub batch_in : Envelope → Result Batch BatchFault
batch_in e = batch_of e.bookmark e.ack_wanted e.body

-- ---- heartbeats

-- A heartbeat for a subscription: its body says nothing. One from no source's name is refused by the subscription that it is for.
abbrev pub heartbeat_asked : Option (List ℕ) → Option (List ℕ) → Bool → Asked
heartbeat_asked None source ack = Refused the.DestinationUnreachable
heartbeat_asked (Some u) None ack = Unread u
heartbeat_asked (Some u) (Some s) ack = Heartbeat u s ack

-- ---- ends of subscriptions

-- the end of a subscription that the collector began, by the identifier that it has at the source; told from no source's name,
-- or in a body that isn't good, it is refused by the subscription that it is about
abbrev pub end_asked : Option (List ℕ) → Option (List ℕ) → Result Ended BodyFault → Asked
end_asked None source end = Refused the.DestinationUnreachable
end_asked (Some u) None end = UnreadEnd u
end_asked (Some u) (Some s) (Err fault) = UnreadEnd u
end_asked (Some u) (Some s) (Ok end) = asked.Ended u s end.0

-- ---- subscriptions

-- a resource other than the subscriptions of a collector; one that isn't named counts as this one
abbrev pub is_elsewhere : Option (List ℕ) → Bool
is_elsewhere None = false
is_elsewhere (Some resource) = not (same resource SUBSCRIPTIONS.now)

-- a source's wish for its subscriptions, by the name that it gives
abbrev pub named_asked : Option (List ℕ) → Asked
named_asked None = Refused the.InvalidMessage
named_asked (Some s) = Enumerate s

-- what an Enumerate asks (WS-Enumeration, 3.1)
abbrev pub enumerate_asked : Envelope → Asked
enumerate_asked e =
    if is_elsewhere e.resource then Refused the.DestinationUnreachable
    else (if has_enumerate e.body then named_asked (option_and_then source_name e.machine) else Refused the.InvalidMessage)

-- ---- actions

-- what an envelope asks where a source delivers, by its action
abbrev pub delivery_asked : List ℕ → List ℕ → Envelope → Asked
delivery_asked sub source e =
    if same e.action EVENTS.now then events_asked (subscription_name sub) (source_name source) (batch_in e)
    else (if same e.action HEARTBEAT.now then heartbeat_asked (subscription_name sub) (source_name source) e.ack_wanted
    else (if same e.action SUBSCRIPTION_END.now then end_asked (subscription_name sub) (source_name source) (ended_in e.body) else Refused the.ActionNotSupported))

-- what an envelope asks of the collector itself, by its action
abbrev pub manager_asked : Envelope → Asked
manager_asked e = if same e.action ENUMERATE.now then enumerate_asked e else Refused the.ActionNotSupported

-- what it asks at a target; no action is one of a source yet
abbrev pub asked_at : Target → Envelope → Asked
asked_at Manager e = manager_asked e
asked_at (Delivery sub source) e = delivery_asked sub source e
asked_at Root e = Refused the.ActionNotSupported

abbrev pub asked_by : Target → Envelope → Asked
asked_by target e = if is_nameless e then Refused the.MessageInformationHeaderRequired else asked_at target e

-- ---- trees and documents

abbrev pub asked_of : Target → Result Envelope EnvelopeFault → Asked
asked_of target (Ok e) = asked_by target e
asked_of target (Err fault) = Refused (envelope_refused fault)

-- what a tree asks, and the id that the answer relates to
abbrev pub heard_in : Target → Element → Heard
heard_in target root = record { relates = id_in root; asked = asked_of target (said root) }

-- what is heard of a document that is no tree
abbrev pub unheard : FaultName → Heard
unheard name = record { relates = None; asked = Refused name }

-- What is heard of bytes in a charset at a target.
abbrev pub Hears : Target → Charset → List ℕ → Heard → Type 0
Hears target charset bytes heard = HearsBytes (heard_in target) unheard charset bytes heard

-- ---- what is known of what was heard

-- a fault that is answered has a name of the table, and a batch has numbers of records
abbrev pub IsSoundAsk : Asked → Type 0
IsSoundAsk (Refused name) = is_known name ≡ true
IsSoundAsk (Enumerate s) = Unit {0}
IsSoundAsk (Unread u) = Unit {0}
IsSoundAsk (Take u s batch) = AreNumbered batch.items
IsSoundAsk (Heartbeat u s ack) = Unit {0}
IsSoundAsk (UnreadEnd u) = Unit {0}
IsSoundAsk (asked.Ended u s identifier) = Unit {0}

-- and the id that the answer relates to can be written
pub record IsSound (heard : Heard) : Type 0 where
  pub asked : IsSoundAsk heard.asked
  pub relates : IfSome heard.relates (λ (id : MessageId). IsXmlText id.text)
