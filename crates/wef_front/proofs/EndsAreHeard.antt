-- What a source sends of the end of a session, the collector hears.
use Rattle.std.proofs.Common.{◌≡◌, ℕ, true, false, Bool, ◌&&◌, cond, List, refl, ap, sym, ◌∙◌}
use Rattle.std.specs.Prelude.{Some, Ok}
use Rattle.wef_base.specs.Names.{same, source_name, subscription_name}
use Rattle.wef_base.specs.declared.tree.Charset.TheVariants.{Utf8}
use Rattle.wef_bodies.proofs.LeasesAgain.{ended_again}
use Rattle.wef_bodies.specs.Leases.{ended_in}
use Rattle.wef_envelope.proofs.WrittenIsRead.{written_id_is_found, written_is_read}
use Rattle.wef_envelope.specs.Envelopes.{id_in, said}
use Rattle.wef_envelope.specs.Laws.{IsSpelt}
use Rattle.wef_envelope.specs.Written.{written}
use Rattle.wef_envelope.specs.declared.actions.TheConstants.{ENUMERATE, EVENTS, SUBSCRIPTION_END}
use Rattle.wef_envelope.specs.declared.envelopes.Envelope.{Envelope}
use Rattle.wef_eventing.proofs.AddressesBack.{addresses_read_back}
use Rattle.wef_eventing.specs.Addresses.{AreNames, delivery_address, source_in, subscription_in}
use Rattle.wef_front.proofs.EndsAreRead.{plain_end}
use Rattle.wef_front.specs.Ends.{EndsAreHeard, ended_by}
use Rattle.wef_front_collector.specs.Heard.{Hears, asked_by, asked_of, batch_in, delivery_asked, end_asked, events_asked}
use Rattle.wef_front_collector.specs.declared.hearing.Asked.TheVariants.{Refused, Ended}
use Rattle.wef_front_source.proofs.EndsAreGood.{end_good}
use Rattle.wef_front_source.specs.Sending.{end_bytes, end_envelope}
use Rattle.wef_http_heads.specs.declared.targets.Target.TheVariants.{Delivery}
use Rattle.wef_ids.specs.declared.FaultName.TheVariants as fault
use Rattle.wef_source.specs.Serving.{NoteCanBeSent}
use Rattle.wef_source.specs.declared.messages.EndNote.{EndNote}
use Rattle.wef_tree.proofs.BoundPrefixes.{same_self}
use Rattle.wef_tree.proofs.SpellsAgain.{spells_again}

-- the action is neither that of an Enumerate nor that of a batch
no_enumerate : (same SUBSCRIPTION_END.now ENUMERATE.now && true) ≡ false
no_enumerate = refl

no_events : same SUBSCRIPTION_END.now EVENTS.now ≡ false
no_events = refl

asked_is : (note : EndNote) (sub source u s : List ℕ) → NoteCanBeSent note → subscription_name sub ≡ Some u → source_name source ≡ Some s
    → asked_by (Delivery sub source) (end_envelope note) ≡ Ended u s note.identifier
asked_is note sub source u s can named from =
    let e : Envelope = end_envelope note in
    ap (λ (b : Bool). cond b (Refused fault.MessageInformationHeaderRequired) (delivery_asked sub source e)) no_enumerate
    ∙ ap (λ (b : Bool). cond b (events_asked (subscription_name sub) (source_name source) (batch_in e))
    (cond (same SUBSCRIPTION_END.now SUBSCRIPTION_END.now) (end_asked (subscription_name sub) (source_name source) (ended_in e.body)) (Refused fault.ActionNotSupported))) no_events
    ∙ ap (λ (b : Bool). cond b (end_asked (subscription_name sub) (source_name source) (ended_in e.body)) (Refused fault.ActionNotSupported)) (same_self SUBSCRIPTION_END.now)
    ∙ (λ i. end_asked (named i) (from i) (ended_again note.identifier note.status can.trimmed i))

heard_at_path : (note : EndNote) (sub source u s : List ℕ) → NoteCanBeSent note → IsSpelt note.id → subscription_name sub ≡ Some u → source_name source ≡ Some s
    → Hears (Delivery sub source) Utf8 (end_bytes note) (ended_by note u s)
heard_at_path note sub source u s can spelt named from =
    let e : Envelope = end_envelope note in
    let plain = plain_end note can spelt in
    let id : id_in (written e) ≡ Some note.id = written_id_is_found e plain in
    let asked : asked_of (Delivery sub source) (said (written e)) ≡ Ended u s note.identifier =
    ap (asked_of (Delivery sub source)) (written_is_read e plain) ∙ asked_is note sub source u s can named from in
    let heard : record { relates = id_in (written e); asked = asked_of (Delivery sub source) (said (written e)) } ≡ ended_by note u s =
    λ i. record { relates = id i; asked = asked i } in
    (Ok (written e), spells_again Utf8 (written e) (end_good note can), sym heard)

heard_at_address : (note : EndNote) (host u s : List ℕ) → NoteCanBeSent note → IsSpelt note.id → AreNames u s → note.end_to ≡ delivery_address host u s
    → (subscription_in note.end_to ≡ Some u) × (source_in note.end_to ≡ Some s) × Hears (Delivery u s) Utf8 (end_bytes note) (ended_by note u s)
heard_at_address note host u s can spelt names is =
    let back = addresses_read_back host u s names.sub_utf8 names.sub_reads_back names.source_utf8 names.source_reads_back in
    (ap subscription_in is ∙ back.0, ap source_in is ∙ back.1, heard_at_path note u s u s can spelt names.sub_reads_back names.source_reads_back)

pub ends_are_heard : EndsAreHeard
ends_are_heard = record { path = heard_at_path; address = heard_at_address }
