-- The trees of deliveries are good.
use Rattle.std.proofs.Common.{ℕ, List, refl}
use Rattle.std.specs.Prelude.{Option, Some, None, IfSome}
use Rattle.std.specs.List.{AllByRecursion}
use Rattle.wef_batch.proofs.WrittenGood as batch
use Rattle.wef_batch.specs.Laws.{IsKept}
use Rattle.wef_bookmark.specs.Entries.{AreEntries}
use Rattle.wef_bookmark.specs.Nodes.{AreTexts}
use Rattle.wef_bookmark.proofs.WrittenGood as bookmark
use Rattle.wef_envelope.specs.Written.{written}
use Rattle.wef_envelope.specs.declared.actions.TheConstants.{ANONYMOUS, EVENTS}
use Rattle.wef_envelope.proofs.WrittenIsGood.{written_is_good}
use Rattle.wef_source.specs.declared.messages.Delivery as source
use Rattle.wef_xml.specs.Good.{IsGoodTree, IsXmlText}
use Rattle.wef_xml.proofs.Ascii.{plain_text}
use Rattle.wef_replies.proofs.Numbered.{plain_numbered}
use Rattle.wef_front_source.specs.Sending.{CanBeSent, CanBeWritten, IsPlainText, delivery_envelope}
use Rattle.wef_http_heads.specs.declared.targets.Target.TheVariants.{Delivery}

pub other_part : (o : Option (List ℕ)) → IfSome o IsPlainText → IfSome o IsXmlText
other_part None plain = tt
other_part (Some t) plain = plain.1

pub written_good : (d : source.Delivery) → CanBeWritten d → AllByRecursion IsKept d.batch.items → AreEntries d.batch.to → AreTexts d.batch.to → IsGoodTree (written (delivery_envelope d))
written_good d can kept entries names =
    written_is_good (delivery_envelope d) 60 (record {
      to = can.notify_to;
      resource = tt;
      reply_to = plain_text ANONYMOUS.now refl;
      action = plain_text EVENTS.now refl;
      id = can.id;
      relates = tt;
      machine = tt;
      max_size = tt;
      identifier = can.identifier;
      bookmark = bookmark.written_is_good d.batch.to 59 entries names;
      body = (batch.written_is_good d.batch.items 60 kept, tt);
    })

-- what can be sent can be written
pub can_be_written : (d : source.Delivery) → CanBeSent d → CanBeWritten d
can_be_written d sent = record {
  id = sent.id;
  notify_to = sent.notify_to.1;
  identifier = other_part d.identifier sent.identifier;
  numbered = plain_numbered d.batch.items sent.plain;
}
