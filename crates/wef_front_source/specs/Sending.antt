-- What a source sends, as it is written.
use Rattle.std.specs.Prelude.{ℕ, false, List, [], ◌∷◌, ◌++◌, codes, Some, None, IfSome}
use Rattle.std.specs.List.{AllByRecursion}
use Rattle.wef_bodies.specs.Written.{ended_element, enumerate_element}
use Rattle.wef_ids.specs.declared.MessageId.{MessageId}
use Rattle.wef_base.specs.declared.tree.Charset.TheVariants.{Utf8}
use Rattle.wef_batch.specs.Elements.{batch_element}
use Rattle.wef_batch.specs.Laws.{IsKept, IsPlain}
use Rattle.wef_batch.specs.Numbers.{AreNumbered}
use Rattle.wef_bookmark.specs.Entries.{AreEntries}
use Rattle.wef_bookmark.specs.Nodes.{AreTexts, bookmark_element}
use Rattle.wef_envelope.specs.Laws.{IsSpelt, IsTrimmed}
use Rattle.wef_envelope.specs.Written.{written}
use Rattle.wef_envelope.specs.declared.actions.TheConstants.{ANONYMOUS, ENUMERATE, EVENTS, SUBSCRIPTIONS, SUBSCRIPTION_END}
use Rattle.wef_envelope.specs.declared.envelopes.Envelope.{Envelope}
use Rattle.wef_heartbeat.specs.Messages.{heartbeat_envelope}
use Rattle.wef_heartbeat.specs.declared.messages.Heartbeat.{Heartbeat}
use Rattle.wef_source.specs.declared.messages.Delivery as source
use Rattle.wef_source.specs.declared.messages.EndNote.{EndNote}
use Rattle.wef_xml.specs.Canonical.{canonical, encoded}
use Rattle.wef_xml.specs.Good.{IsXmlText}
use Rattle.wef_http_heads.specs.declared.targets.TheConstants.{MANAGER_PATH}

-- the envelope of a delivery: it goes to the address that the offer gave
abbrev pub delivery_envelope : source.Delivery → Envelope
delivery_envelope d = record {
  to = Some d.notify_to;
  resource = None;
  reply_to = Some ANONYMOUS.now;
  action = EVENTS.now;
  id = d.id;
  relates = None;
  machine = None;
  max_size = None;
  identifier = d.identifier;
  bookmark = Some (bookmark_element d.batch.to);
  ack_wanted = d.batch.ack_wanted;
  body = batch_element d.batch.items ∷ [];
}

-- its bytes
abbrev pub delivery_bytes : source.Delivery → List ℕ
delivery_bytes d = encoded Utf8 (canonical (written (delivery_envelope d)))

-- ---- the wish for subscriptions

-- where a collector offers subscriptions at a host
unfoldable pub manager_address : List ℕ → List ℕ
manager_address host = codes "http://" ++ host ++ MANAGER_PATH.now

-- the envelope in which a source asks the collector at a host for its subscriptions (WS-Enumeration, 3.1); the header MachineID
-- names the source
abbrev pub enumerate_envelope : List ℕ → List ℕ → MessageId → Envelope
enumerate_envelope host s id = record {
  to = Some (manager_address host);
  resource = Some SUBSCRIPTIONS.now;
  reply_to = Some ANONYMOUS.now;
  action = ENUMERATE.now;
  id = id;
  relates = None;
  machine = Some s;
  max_size = None;
  identifier = None;
  bookmark = None;
  ack_wanted = false;
  body = enumerate_element ∷ [];
}

abbrev pub enumerate_bytes : List ℕ → List ℕ → MessageId → List ℕ
enumerate_bytes host s id = encoded Utf8 (canonical (written (enumerate_envelope host s id)))

-- ---- what can be sent

-- a text that a header says as it is
abbrev pub IsPlainText : List ℕ → Type 0
IsPlainText text = IsTrimmed text × IsXmlText text

-- A delivery that can be sent: its id is that of its text, texts are such as headers say, and its batch is one that can be
-- written and read.
pub record CanBeSent (d : source.Delivery) : Type 0 where
  pub spelt : IsSpelt d.id
  pub id : IsXmlText d.id.text
  pub notify_to : IsPlainText d.notify_to
  pub identifier : IfSome d.identifier IsPlainText
  pub plain : AllByRecursion IsPlain d.batch.items
  pub kept : AllByRecursion IsKept d.batch.items
  pub entries : AreEntries d.batch.to
  pub names : AreTexts d.batch.to

-- A delivery that can be written: its texts hold characters that XML allows, and its items have numbers such as records have.
-- What else its items and its bookmark need, their types keep.
pub record CanBeWritten (d : source.Delivery) : Type 0 where
  pub id : IsXmlText d.id.text
  pub notify_to : IsXmlText d.notify_to
  pub identifier : IfSome d.identifier IsXmlText
  pub numbered : AreNumbered d.batch.items

-- ---- heartbeats

-- the bytes of a heartbeat
abbrev pub beat_bytes : Heartbeat → List ℕ
beat_bytes beat = encoded Utf8 (canonical (written (heartbeat_envelope beat)))

-- A heartbeat that can be sent: its id is that of its text, and its texts are such as headers say.
pub record BeatCanBeSent (beat : Heartbeat) : Type 0 where
  pub spelt : IsSpelt beat.id
  pub id : IsXmlText beat.id.text
  pub notify_to : IsPlainText beat.notify_to
  pub identifier : IfSome beat.identifier IsPlainText

-- A heartbeat that can be written: its texts hold characters that XML allows.
pub record BeatCanBeWritten (beat : Heartbeat) : Type 0 where
  pub id : IsXmlText beat.id.text
  pub notify_to : IsXmlText beat.notify_to
  pub identifier : IfSome beat.identifier IsXmlText

-- ---- the end of a session

-- the envelope in which a collector is told that a session ended (WS-Eventing, 3.5): it goes where the collector wants to be told
abbrev pub end_envelope : EndNote → Envelope
end_envelope note = record {
  to = Some note.end_to;
  resource = None;
  reply_to = Some ANONYMOUS.now;
  action = SUBSCRIPTION_END.now;
  id = note.id;
  relates = None;
  machine = None;
  max_size = None;
  identifier = None;
  bookmark = None;
  ack_wanted = false;
  body = ended_element note.identifier note.status ∷ [];
}

abbrev pub end_bytes : EndNote → List ℕ
end_bytes note = encoded Utf8 (canonical (written (end_envelope note)))
