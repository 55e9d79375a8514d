-- What a source sends where it has nothing to send, the collector hears.
use Rattle.std.proofs.Common.{◌≡◌, ℕ, true, false, Bool, ◌&&◌, cond, List, refl, ap, sym, ◌∙◌}
use Rattle.std.specs.Prelude.{Option, Some, None, Result, Ok}
use Rattle.std.specs.Option.{option_and_then}
use Rattle.std.specs.Result.{result_ok}
use Rattle.std.proofs.Math.Utf8.{encode}
use Rattle.std.specs.Str.{chars}
use Rattle.wef_base.specs.Names.{same, source_name, subscription_name}
use Rattle.wef_base.specs.declared.tree.Charset.TheVariants.{Utf8}
use Rattle.wef_base.specs.declared.tree.Element.{Element}
use Rattle.wef_bodies.specs.Leases.{ended_in}
use Rattle.wef_envelope.specs.Envelopes.{id_in, said}
use Rattle.wef_envelope.specs.Laws.{IsPlain, IsTrimmed}
use Rattle.wef_envelope.specs.Written.{written}
use Rattle.wef_envelope.specs.declared.actions.TheConstants.{ENUMERATE, EVENTS, HEARTBEAT, SUBSCRIPTION_END}
use Rattle.wef_envelope.specs.declared.envelopes.Envelope.{Envelope}
use Rattle.wef_envelope.specs.declared.envelopes.EnvelopeFault.{EnvelopeFault}
use Rattle.wef_envelope.proofs.WrittenIsRead.{written_id_is_found, written_is_read}
use Rattle.wef_heartbeat.specs.Messages.{heartbeat_envelope}
use Rattle.wef_heartbeat.specs.declared.messages.Heartbeat as heartbeat
use Rattle.wef_tree.proofs.BoundPrefixes.{same_self}
use Rattle.wef_tree.proofs.SpellsAgain.{spells_again}
use Rattle.wef_xml.specs.Good.{IsGoodTree}
use Rattle.wef_front_source.proofs.BeatsAreGood.{beat_can_be_written, beat_good}
use Rattle.wef_front.proofs.DeliveriesAreHeard.{first_part}
use Rattle.wef_front.proofs.RepliesAreHeard.{anonymous_trimmed, tree_again}
use Rattle.wef_front_collector.specs.Heard.{asked_by, asked_of, batch_in, delivery_asked, end_asked, events_asked, heartbeat_asked}
use Rattle.wef_front_source.specs.Sending.{BeatCanBeSent}
use Rattle.wef_front.specs.Beats.{BeatsAreHeard, BeatsAreRead, beat_said}
use Rattle.wef_front_collector.specs.declared.hearing.Asked.TheVariants.{Heartbeat, Refused}
use Rattle.wef_http_heads.specs.declared.targets.Target.TheVariants.{Delivery}
use Rattle.wef_ids.specs.declared.FaultName.TheVariants as fault

-- ---- the envelope

heartbeat_trimmed : IsTrimmed HEARTBEAT.now
unfolding chars encode
heartbeat_trimmed = refl

plain_beat : (beat : heartbeat.Heartbeat) → BeatCanBeSent beat → IsPlain (heartbeat_envelope beat)
plain_beat beat can = record {
  to = can.notify_to.0;
  resource = tt;
  reply_to = anonymous_trimmed;
  action = heartbeat_trimmed;
  id = can.spelt;
  relates = tt;
  machine = tt;
  max_size = tt;
  identifier = first_part beat.identifier can.identifier;
  bookmark = tt;
}

tree_good : (beat : heartbeat.Heartbeat) → BeatCanBeSent beat → IsGoodTree (written (heartbeat_envelope beat))
tree_good beat can = beat_good beat (beat_can_be_written beat can)

-- ---- what it asks

-- the action is neither that of an Enumerate nor that of a batch
no_enumerate : (same HEARTBEAT.now ENUMERATE.now && true) ≡ false
no_enumerate = refl

no_events : same HEARTBEAT.now EVENTS.now ≡ false
no_events = refl

asked_is : (beat : heartbeat.Heartbeat) (sub source u s : List ℕ) → subscription_name sub ≡ Some u → source_name source ≡ Some s
    → asked_by (Delivery sub source) (heartbeat_envelope beat) ≡ Heartbeat u s true
asked_is beat sub source u s named from =
    let e : Envelope = heartbeat_envelope beat in
    let asked = heartbeat_asked (subscription_name sub) (source_name source) true in
    let other = cond (same HEARTBEAT.now SUBSCRIPTION_END.now) (end_asked (subscription_name sub) (source_name source) (ended_in e.body)) (Refused fault.ActionNotSupported) in
    ap (λ (b : Bool). cond b (Refused fault.MessageInformationHeaderRequired) (delivery_asked sub source e)) no_enumerate
    ∙ ap (λ (b : Bool). cond b (events_asked (subscription_name sub) (source_name source) (batch_in e)) (cond (same HEARTBEAT.now HEARTBEAT.now) asked other)) no_events
    ∙ ap (λ (b : Bool). cond b asked other) (same_self HEARTBEAT.now)
    ∙ (λ i. heartbeat_asked (named i) (from i) true)

pub beats_are_heard : BeatsAreHeard
beats_are_heard beat sub source u s can named from =
    let e : Envelope = heartbeat_envelope beat in
    let plain = plain_beat beat can in
    let id : id_in (written e) ≡ Some beat.id = written_id_is_found e plain in
    let asked : asked_of (Delivery sub source) (said (written e)) ≡ Heartbeat u s true =
    ap (asked_of (Delivery sub source)) (written_is_read e plain) ∙ asked_is beat sub source u s named from in
    let heard : record { relates = id_in (written e); asked = asked_of (Delivery sub source) (said (written e)) } ≡ record { relates = Some beat.id; asked = Heartbeat u s true } =
    λ i. record { relates = id i; asked = asked i } in
    (Ok (written e), spells_again Utf8 (written e) (tree_good beat can), sym heard)

-- ---- what it is

-- the heartbeat of the envelope is itself
said_again : (beat : heartbeat.Heartbeat) → beat_said beat.notify_to (heartbeat_envelope beat) ≡ Some beat
said_again beat = ap (λ (b : Bool). cond b (Some beat) None) (same_self HEARTBEAT.now)

pub beats_are_read : BeatsAreRead
beats_are_read beat can =
    ap (λ (o : Option Element). option_and_then (beat_said beat.notify_to) (option_and_then (λ (r : Element). result_ok (said r)) o))
    (tree_again (written (heartbeat_envelope beat)) (tree_good beat can))
    ∙ ap (λ (r : Result Envelope EnvelopeFault). option_and_then (beat_said beat.notify_to) (result_ok r)) (written_is_read (heartbeat_envelope beat) (plain_beat beat can))
    ∙ said_again beat
