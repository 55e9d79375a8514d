-- The trees of heartbeats are good.
use Rattle.std.proofs.Common.{[], refl}
use Rattle.std.specs.Prelude.{codes}
use Rattle.wef_elements.proofs.GoodTexts.{management_good}
use Rattle.wef_elements.proofs.GoodTrees.{holder_good}
use Rattle.wef_elements.specs.Spaces.{management}
use Rattle.wef_envelope.specs.Written.{written}
use Rattle.wef_envelope.specs.declared.actions.TheConstants.{ANONYMOUS, HEARTBEAT}
use Rattle.wef_envelope.proofs.WrittenIsGood.{written_is_good}
use Rattle.wef_heartbeat.specs.Messages.{heartbeat_envelope}
use Rattle.wef_heartbeat.specs.declared.messages.Heartbeat.{Heartbeat}
use Rattle.wef_xml.proofs.Ascii.{plain_name, plain_text}
use Rattle.wef_xml.specs.Good.{IsGoodTree}
use Rattle.wef_front_source.specs.Sending.{BeatCanBeSent, BeatCanBeWritten}
use Rattle.wef_front_source.proofs.DeliveriesAreGood.{other_part}

pub beat_good : (beat : Heartbeat) → BeatCanBeWritten beat → IsGoodTree (written (heartbeat_envelope beat))
beat_good beat can =
    written_is_good (heartbeat_envelope beat) 60 (record {
      to = can.notify_to;
      resource = tt;
      reply_to = plain_text ANONYMOUS.now refl;
      action = plain_text HEARTBEAT.now refl;
      id = can.id;
      relates = tt;
      machine = tt;
      max_size = tt;
      identifier = can.identifier;
      bookmark = tt;
      body = (holder_good management (codes "Events") [] 61 management_good (plain_name (codes "Events") refl) tt, tt);
    })

-- what can be sent can be written
pub beat_can_be_written : (beat : Heartbeat) → BeatCanBeSent beat → BeatCanBeWritten beat
beat_can_be_written beat sent = record { id = sent.id; notify_to = sent.notify_to.1; identifier = other_part beat.identifier sent.identifier }
