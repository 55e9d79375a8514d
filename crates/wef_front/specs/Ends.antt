-- What the bytes in which a source tells of the end of a session say to a collector.
use Rattle.std.specs.Prelude.{◌≡◌, ℕ, ◌≤◌, List, Option, Some, None, Result, Ok}
use Rattle.std.specs.List.{AllByRecursion}
use Rattle.std.specs.Option.{option_and_then}
use Rattle.wef_base.specs.Names.{source_name, subscription_name}
use Rattle.wef_base.specs.declared.tree.Charset.TheVariants.{Utf8}
use Rattle.wef_bodies.specs.Reading.{body_in}
use Rattle.wef_bodies.specs.declared.bodies.Body.{Body}
use Rattle.wef_bodies.specs.declared.bodies.Body.TheVariants.{Ended}
use Rattle.wef_envelope.specs.Laws.{IsSpelt}
use Rattle.wef_envelope.specs.declared.envelopes.Envelope.{Envelope}
use Rattle.wef_eventing.specs.Addresses.{AreNames, delivery_address, source_in, subscription_in}
use Rattle.wef_ids.specs.declared.MessageId.{MessageId}
use Rattle.wef_source.specs.Answers.{Shuts}
use Rattle.wef_source.specs.Machine.{End}
use Rattle.wef_source.specs.Serving.{NoteCanBeSent}
use Rattle.wef_source.specs.declared.messages.EndNote.{EndNote}
use Rattle.wef_subscribes.specs.declared.faults.BodyFault.{BodyFault}
use Rattle.wef_front.specs.Sent.{envelope_in}
use Rattle.wef_front_collector.specs.Heard.{Hears}
use Rattle.wef_front_collector.specs.declared.hearing.Asked.TheVariants as asked
use Rattle.wef_front_collector.specs.declared.hearing.Heard.{Heard}
use Rattle.wef_front_source.specs.Sending.{end_bytes}
use Rattle.wef_http_heads.specs.declared.targets.Target.TheVariants.{Delivery}

-- the note that an envelope tells of, which goes to an address and has an id
abbrev pub note_by : Option (List ℕ) → MessageId → Result Body BodyFault → Option EndNote
note_by (Some end_to) id (Ok (Ended identifier status)) = Some (record { id = id; end_to = end_to; identifier = identifier; status = status })
note_by _ _ _ = None

abbrev pub note_said : ℕ → Envelope → Option EndNote
note_said now e = note_by e.to e.id (body_in now e)

-- the note that bytes in UTF-8 tell of, at a moment in milliseconds since 1970
abbrev pub note_in : ℕ → List ℕ → Option EndNote
note_in now bytes = option_and_then (note_said now) (envelope_in bytes)

-- its bytes tell of the note itself
abbrev pub IsReadAgain : ℕ → EndNote → Type 0
IsReadAgain now note = note_in now (end_bytes note) ≡ Some note

-- what is heard of a note, for a subscription and a source
abbrev pub ended_by : EndNote → List ℕ → List ℕ → Heard
ended_by note u s = record { relates = Some note.id; asked = asked.Ended u s note.identifier }

-- What a source sends of the end of a session, the collector hears: the end of the subscription and the source of the path, by the
-- identifier of the session, and its id. So it does where the note goes to the address that a collector wishes for, which leads to
-- that path.
pub record EndsAreHeard : Type 0 where
  pub path :
      (note : EndNote) (sub source u s : List ℕ) → NoteCanBeSent note → IsSpelt note.id → subscription_name sub ≡ Some u → source_name source ≡ Some s →
      Hears (Delivery sub source) Utf8 (end_bytes note) (ended_by note u s)
  pub address :
      (note : EndNote) (host u s : List ℕ) → NoteCanBeSent note → IsSpelt note.id → AreNames u s → note.end_to ≡ delivery_address host u s →
      (subscription_in note.end_to ≡ Some u) × (source_in note.end_to ≡ Some s) × Hears (Delivery u s) Utf8 (end_bytes note) (ended_by note u s)

-- What a source sends of the end of a session, a collector reads as it was meant; so it reads each of the notes of a source that
-- ends the sessions which collectors began.
pub record EndsAreRead : Type 0 where
  pub note : (now : ℕ) (note : EndNote) → NoteCanBeSent note → IsSpelt note.id → IsReadAgain now note
  pub shut :
      (now : ℕ) (end end' : End) (notes : List EndNote) → end.boot ≤ 18446744073709551615 → Shuts end end' notes → AllByRecursion NoteCanBeSent notes →
      AllByRecursion (IsReadAgain now) notes
