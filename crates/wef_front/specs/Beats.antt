-- What the bytes of a heartbeat of a source say to a collector.
use Rattle.std.specs.Prelude.{◌≡◌, ℕ, true, List, Option, Some, None, if◌then◌else◌}
use Rattle.std.specs.Option.{option_and_then}
use Rattle.wef_base.specs.Names.{same, source_name, subscription_name}
use Rattle.wef_base.specs.declared.tree.Charset.TheVariants.{Utf8}
use Rattle.wef_envelope.specs.declared.actions.TheConstants.{HEARTBEAT}
use Rattle.wef_envelope.specs.declared.envelopes.Envelope.{Envelope}
use Rattle.wef_heartbeat.specs.declared.messages.Heartbeat.{Heartbeat}
use Rattle.wef_front.specs.Sent.{envelope_in}
use Rattle.wef_front_collector.specs.Heard.{Hears}
use Rattle.wef_front_collector.specs.declared.hearing.Asked.TheVariants as asked
use Rattle.wef_front_source.specs.Sending.{BeatCanBeSent, beat_bytes}
use Rattle.wef_http_heads.specs.declared.targets.Target.TheVariants.{Delivery}

-- the heartbeat that an envelope is which came to an address, by its action
abbrev pub beat_said : List ℕ → Envelope → Option Heartbeat
beat_said address e = if same e.action HEARTBEAT.now then Some (record { id = e.id; notify_to = address; identifier = e.identifier }) else None

-- the heartbeat that bytes are which came to an address, whatever their header To and their body say
abbrev pub beat_in : List ℕ → List ℕ → Option Heartbeat
beat_in address bytes = option_and_then (beat_said address) (envelope_in bytes)

-- What a source sends where it has nothing to send, the collector hears: that the source of the path is there, for the
-- subscription of the path, its id, and that it wants to be told so.
abbrev pub BeatsAreHeard : Type 0
BeatsAreHeard =
    (beat : Heartbeat) (sub source u s : List ℕ) → BeatCanBeSent beat → subscription_name sub ≡ Some u → source_name source ≡ Some s →
    Hears (Delivery sub source) Utf8 (beat_bytes beat) (record { relates = Some beat.id; asked = asked.Heartbeat u s true })

-- The heartbeat that its bytes are, at the address that they go to, is itself.
abbrev pub BeatsAreRead : Type 0
BeatsAreRead = (beat : Heartbeat) → BeatCanBeSent beat → beat_in beat.notify_to (beat_bytes beat) ≡ Some beat
