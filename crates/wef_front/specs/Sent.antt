-- What the bytes of a source say to a collector: a wish for subscriptions, and a delivery.
use Rattle.std.specs.Prelude.{◌≡◌, ℕ, List, Option, Some, None, Result, Ok, Err, if◌then◌else◌}
use Rattle.std.specs.Option.{option_and_then}
use Rattle.std.specs.Result.{result_ok}
use Rattle.std.specs.Str.{IsUtf8}
use Rattle.wef_eventing.specs.Addresses.{IsHost}
use Rattle.wef_ids.specs.declared.MessageId.{MessageId}
use Rattle.wef_base.specs.Names.{same, source_name, subscription_name}
use Rattle.wef_base.specs.declared.tree.Charset.TheVariants.{Utf8}
use Rattle.wef_base.specs.declared.tree.Element.{Element}
use Rattle.wef_batch.specs.declared.items.Batch.{Batch}
use Rattle.wef_batch.specs.declared.reading.BatchFault.{BatchFault}
use Rattle.wef_envelope.specs.Envelopes.{said}
use Rattle.wef_envelope.specs.Laws.{IsSpelt}
use Rattle.wef_envelope.specs.declared.actions.TheConstants.{EVENTS}
use Rattle.wef_envelope.specs.declared.envelopes.Envelope.{Envelope}
use Rattle.wef_source.specs.declared.messages.Delivery as source
use Rattle.wef_tree_reading.specs.Documents.{tree_of}
use Rattle.wef_xml.specs.Good.{IsXmlText}
use Rattle.wef_front_collector.specs.Heard.{Hears, batch_in, heard_in}
use Rattle.wef_front_collector.specs.declared.hearing.Asked.{Asked}
use Rattle.wef_front_collector.specs.declared.hearing.Asked.TheVariants.{Enumerate, Take}
use Rattle.wef_http_heads.specs.declared.targets.Target.TheVariants.{Delivery, Manager}
use Rattle.wef_front_source.specs.Sending.{CanBeSent, delivery_bytes, enumerate_bytes}

-- ---- the wish for subscriptions

-- What a source asks with, the collector hears: the wish of this source for its subscriptions, and its id. The name must be
-- one that a source's name is kept as.
abbrev pub EnumeratesAreHeard : Type 0
EnumeratesAreHeard =
    (host s : List ℕ) (id : MessageId) → IsHost host → IsUtf8 s → source_name s ≡ Some s → IsSpelt id → IsXmlText id.text →
    Hears Manager Utf8 (enumerate_bytes host s id) (record { relates = Some id; asked = Enumerate s })

-- Who asks for its subscriptions, and by which message.
pub record Wish : Type 0 where
  pub source : List ℕ
  pub id : MessageId

-- what is heard, where it is such a wish and has an id
abbrev pub wish_by : Option MessageId → Asked → Option Wish
wish_by (Some id) (Enumerate s) = Some (record { source = s; id = id })
wish_by _ _ = None

-- the wish that bytes in UTF-8 are, where they come to a collector
abbrev pub wish_in : List ℕ → Option Wish
wish_in bytes = option_and_then (λ (root : Element). wish_by (heard_in Manager root).relates (heard_in Manager root).asked) (tree_of Utf8 bytes)

-- a wish that can be sent: its id is that of its text, which XML allows, and its name one that a source's name is kept as
pub record CanBeAsked (wish : Wish) : Type 0 where
  pub utf8 : IsUtf8 wish.source
  pub named : source_name wish.source ≡ Some wish.source
  pub spelt : IsSpelt wish.id
  pub id : IsXmlText wish.id.text

-- The wish that its bytes are is itself.
abbrev pub EnumeratesAreRead : Type 0
EnumeratesAreRead = (host : List ℕ) (wish : Wish) → IsHost host → CanBeAsked wish → wish_in (enumerate_bytes host wish.source wish.id) ≡ Some wish

-- ---- the delivery that bytes are

-- the envelope that bytes in UTF-8 say
abbrev pub envelope_in : List ℕ → Option Envelope
envelope_in bytes = option_and_then (λ (root : Element). result_ok (said root)) (tree_of Utf8 bytes)

-- the delivery of a batch that came to an address, where the batch is good
abbrev pub delivery_by : List ℕ → Envelope → Result Batch BatchFault → Option source.Delivery
delivery_by address e (Ok batch) = Some (record { id = e.id; notify_to = address; identifier = e.identifier; batch = batch })
delivery_by address e (Err fault) = None

-- the delivery that an envelope is, by its action
abbrev pub delivery_said : List ℕ → Envelope → Option source.Delivery
delivery_said address e = if same e.action EVENTS.now then delivery_by address e (batch_in e) else None

-- the delivery that bytes are which came to an address, whatever their header To says
abbrev pub delivery_in : List ℕ → List ℕ → Option source.Delivery
delivery_in address bytes = option_and_then (delivery_said address) (envelope_in bytes)

-- What a source sends, the collector hears: its batch for the subscription and the source of the path, and its id.
abbrev pub DeliveriesAreHeard : Type 0
DeliveriesAreHeard =
    (d : source.Delivery) (sub source u s : List ℕ) → CanBeSent d → subscription_name sub ≡ Some u → source_name source ≡ Some s →
    Hears (Delivery sub source) Utf8 (delivery_bytes d) (record { relates = Some d.id; asked = Take u s d.batch })

-- The delivery that its bytes are, at the address that they go to, is itself.
abbrev pub DeliveriesAreRead : Type 0
DeliveriesAreRead = (d : source.Delivery) → CanBeSent d → delivery_in d.notify_to (delivery_bytes d) ≡ Some d
