-- What a source asks for its subscriptions with, the collector hears.
use Rattle.std.proofs.Common.{◌≡◌, ℕ, true, false, Bool, ◌&&◌, cond, List, [], ◌∷◌, refl, ap, sym, ◌∙◌}
use Rattle.std.specs.Prelude.{Some, Ok}
use Rattle.std.specs.Option.{option_and_then}
use Rattle.std.specs.Str.{IsUtf8, chars}
use Rattle.std.proofs.Math.Utf8.{encode}
use Rattle.wef_base.specs.Names.{source_name}
use Rattle.wef_base.specs.declared.tree.Charset.TheVariants.{Utf8}
use Rattle.wef_base.specs.declared.tree.Element.{Element}
use Rattle.wef_bodies.proofs.GoodBodies.{enumerate_good as enumerate_good_element}
use Rattle.wef_bodies.specs.Reading.{has_enumerate}
use Rattle.wef_bodies.specs.Written.{enumerate_element}
use Rattle.wef_envelope.specs.Envelopes.{id_in, said}
use Rattle.wef_envelope.specs.Laws.{IsPlain, IsSpelt, IsTrimmed}
use Rattle.wef_envelope.specs.Spaces.{enumeration}
use Rattle.wef_envelope.specs.Written.{written}
use Rattle.wef_envelope.specs.declared.actions.TheConstants.{ENUMERATE, SUBSCRIPTIONS}
use Rattle.wef_envelope.specs.declared.envelopes.Envelope.{Envelope}
use Rattle.wef_envelope.proofs.WrittenIsRead.{written_id_is_found, written_is_read}
use Rattle.wef_eventing.proofs.AddressTexts.{printed_text}
use Rattle.wef_eventing.specs.Addresses.{IsHost}
use Rattle.wef_ids.specs.declared.FaultName.TheVariants as fault
use Rattle.wef_ids.specs.declared.MessageId.{MessageId}
use Rattle.wef_tree.proofs.BoundPrefixes.{same_self}
use Rattle.wef_tree.proofs.SpellsAgain.{spells_again}
use Rattle.wef_xml.specs.Good.{IsXmlText}
use Rattle.wef_front.proofs.RepliesAreHeard.{anonymous_trimmed, tree_again}
use Rattle.wef_front_source.proofs.EnumeratesAreGood.{enumerate_good, manager_printed}
use Rattle.wef_front_source.proofs.SourceNames.{trimmed_source}
use Rattle.wef_front_collector.specs.Heard.{Hears, asked_by, asked_of, enumerate_asked, heard_in, named_asked}
use Rattle.wef_front.specs.Sent.{EnumeratesAreRead, wish_by}
use Rattle.wef_front_source.specs.Sending.{enumerate_bytes, enumerate_envelope, manager_address}
use Rattle.wef_front_collector.specs.declared.hearing.Asked.TheVariants.{Enumerate, Refused}
use Rattle.wef_http_heads.specs.declared.targets.Target.TheVariants.{Manager}

-- ---- the envelope

subscriptions_trimmed : IsTrimmed SUBSCRIPTIONS.now
unfolding chars encode
subscriptions_trimmed = refl

enumerate_trimmed : IsTrimmed ENUMERATE.now
unfolding chars encode
enumerate_trimmed = refl

plain_enumerate : (host s : List ℕ) (id : MessageId) → IsHost host → IsUtf8 s → source_name s ≡ Some s → IsSpelt id → IsPlain (enumerate_envelope host s id)
plain_enumerate host s id is utf8 named spelt = record {
  to = (printed_text (manager_address host) (manager_printed host is.1)).0;
  resource = subscriptions_trimmed;
  reply_to = anonymous_trimmed;
  action = enumerate_trimmed;
  id = spelt;
  relates = tt;
  machine = trimmed_source s utf8 named;
  max_size = tt;
  identifier = tt;
  bookmark = tt;
}

-- ---- what it asks

enumerates : has_enumerate (enumerate_element ∷ []) ≡ true
unfolding enumeration
enumerates = refl

asked_is : (host s : List ℕ) (id : MessageId) → source_name s ≡ Some s → asked_by Manager (enumerate_envelope host s id) ≡ Enumerate s
asked_is host s id named =
    let e : Envelope = enumerate_envelope host s id in
    ap (λ (b : Bool). cond (b && false) (Refused fault.MessageInformationHeaderRequired) (cond b (enumerate_asked e) (Refused fault.ActionNotSupported))) (same_self ENUMERATE.now)
    ∙ ap (λ (b : Bool). cond (cond b false true) (Refused fault.DestinationUnreachable) (cond (has_enumerate e.body) (named_asked (option_and_then source_name e.machine)) (Refused fault.InvalidMessage)))
    (same_self SUBSCRIPTIONS.now)
    ∙ ap (λ (b : Bool). cond b (named_asked (source_name s)) (Refused fault.InvalidMessage)) enumerates
    ∙ ap named_asked named

-- the id and what is asked, as they are read in its tree
id_found : (host s : List ℕ) (id : MessageId) → IsPlain (enumerate_envelope host s id) → id_in (written (enumerate_envelope host s id)) ≡ Some id
id_found host s id plain = written_id_is_found (enumerate_envelope host s id) plain

asked_again : (host s : List ℕ) (id : MessageId) → source_name s ≡ Some s → IsPlain (enumerate_envelope host s id) → asked_of Manager (said (written (enumerate_envelope host s id))) ≡ Enumerate s
asked_again host s id named plain = ap (asked_of Manager) (written_is_read (enumerate_envelope host s id) plain) ∙ asked_is host s id named

pub enumerates_are_heard : (host s : List ℕ) (id : MessageId) → IsHost host → IsUtf8 s → source_name s ≡ Some s → IsSpelt id → IsXmlText id.text
    → Hears Manager Utf8 (enumerate_bytes host s id) (record { relates = Some id; asked = Enumerate s })
enumerates_are_heard host s id is utf8 named spelt allowed =
    let e : Envelope = enumerate_envelope host s id in
    let plain = plain_enumerate host s id is utf8 named spelt in
    let found = id_found host s id plain in
    let asked = asked_again host s id named plain in
    let heard : record { relates = id_in (written e); asked = asked_of Manager (said (written e)) } ≡ record { relates = Some id; asked = Enumerate s } =
    λ i. record { relates = found i; asked = asked i } in
    (Ok (written e), spells_again Utf8 (written e) (enumerate_good host s id is utf8 named allowed (enumerate_good_element 60, tt)), sym heard)

pub enumerates_are_read : EnumeratesAreRead
enumerates_are_read host wish is can =
    let e : Envelope = enumerate_envelope host wish.source wish.id in
    let plain = plain_enumerate host wish.source wish.id is can.utf8 can.named can.spelt in
    let found = id_found host wish.source wish.id plain in
    let asked = asked_again host wish.source wish.id can.named plain in
    ap (option_and_then (λ (root : Element). wish_by (heard_in Manager root).relates (heard_in Manager root).asked))
    (tree_again (written e) (enumerate_good host wish.source wish.id is can.utf8 can.named can.id (enumerate_good_element 60, tt)))
    ∙ (λ i. wish_by (found i) (asked i))
