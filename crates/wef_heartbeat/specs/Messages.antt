-- A heartbeat as it is written.
use Rattle.std.specs.Prelude.{true, [], ◌∷◌, codes, Some, None}
use Rattle.wef_base.specs.declared.tree.Element.{Element}
use Rattle.wef_elements.specs.Children.{with_elements}
use Rattle.wef_elements.specs.Spaces.{management}
use Rattle.wef_envelope.specs.declared.actions.TheConstants.{ANONYMOUS, HEARTBEAT}
use Rattle.wef_envelope.specs.declared.envelopes.Envelope.{Envelope}
use Rattle.wef_heartbeat.specs.declared.messages.Heartbeat.{Heartbeat}

-- the element that holds the items of a batch, and holds none
abbrev pub no_events : Element
no_events = with_elements management (codes "Events") []

-- it goes to the address of the session, with the session's identifier, and is to be acknowledged
abbrev pub heartbeat_envelope : Heartbeat → Envelope
heartbeat_envelope beat = record {
  to = Some beat.notify_to;
  resource = None;
  reply_to = Some ANONYMOUS.now;
  action = HEARTBEAT.now;
  id = beat.id;
  relates = None;
  machine = None;
  max_size = None;
  identifier = beat.identifier;
  bookmark = None;
  ack_wanted = true;
  body = no_events ∷ [];
}
