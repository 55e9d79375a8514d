-- The trees of messages that tell of ends are good.
use Rattle.std.proofs.Common.{◌≡◌, ℕ, true, ◌&&◌, List, take, drop, length, refl, subst, sym}
use Rattle.std.proofs.lemmas.Bool.{and_parts}
use Rattle.std.specs.List.{list_all}
use Rattle.wef_base.specs.Names.{same, trimmed}
use Rattle.wef_bodies.proofs.GoodBodies.{ended_good}
use Rattle.wef_envelope.specs.Written.{written}
use Rattle.wef_envelope.specs.declared.actions.TheConstants.{ANONYMOUS, SUBSCRIPTION_END}
use Rattle.wef_envelope.proofs.WrittenIsGood.{written_is_good}
use Rattle.wef_eventing.proofs.AddressTexts.{printed_text}
use Rattle.wef_eventing.specs.Addresses.{has_path, is_address, is_printed, scheme}
use Rattle.wef_front_source.specs.Sending.{end_envelope}
use Rattle.wef_ids.proofs.PlainIds.{id_text_good}
use Rattle.wef_ids.specs.declared.MessageId.{MessageId}
use Rattle.wef_source.specs.Serving.{NoteCanBeSent}
use Rattle.wef_source.specs.declared.messages.EndNote.{EndNote}
use Rattle.wef_xml.proofs.Ascii.{plain_text}
use Rattle.wef_xml.specs.Good.{IsGoodTree, IsXmlText}

-- an address of HTTP has no spaces at its ends, and XML allows it
pub address_text : (text : List ℕ) → is_address text ≡ true → (trimmed text ≡ text) × IsXmlText text
address_text text is = printed_text text (and_parts (same (take (length scheme) text) scheme && has_path (drop (length scheme) text)) (list_all is_printed text) is).1

-- the id of a note is written as XML allows
pub note_id_good : (note : EndNote) → NoteCanBeSent note → IsXmlText note.id.text
note_id_good note can = subst (λ (id : MessageId). IsXmlText id.text) (sym can.id.1) (id_text_good can.id.0)

pub end_good : (note : EndNote) → NoteCanBeSent note → IsGoodTree (written (end_envelope note))
end_good note can =
    written_is_good (end_envelope note) 60 (record {
      to = (address_text note.end_to can.end_to).1;
      resource = tt;
      reply_to = plain_text ANONYMOUS.now refl;
      action = plain_text SUBSCRIPTION_END.now refl;
      id = note_id_good note can;
      relates = tt;
      machine = tt;
      max_size = tt;
      identifier = tt;
      bookmark = tt;
      body = (ended_good note.identifier note.status 58 can.identifier, tt);
    })
