-- The trees of acknowledgements are good.
use Rattle.std.proofs.Common.{[], refl}
use Rattle.std.specs.Prelude.{Option, IfSome}
use Rattle.wef_envelope.specs.Written.{written}
use Rattle.wef_envelope.specs.declared.actions.TheConstants.{ACK}
use Rattle.wef_ids.specs.declared.MessageId.{MessageId}
use Rattle.wef_xml.specs.Good.{IsGoodTree, IsXmlText}
use Rattle.wef_xml.proofs.Ascii.{plain_text}
use Rattle.wef_replies.proofs.RepliesAreGood.{reply_good}
use Rattle.wef_front_collector.specs.Replies.{ack_envelope}

pub ack_reply_good : (id : MessageId) (relates : Option MessageId) → IsXmlText id.text → IfSome relates (λ (x : MessageId). IsXmlText x.text)
    → IsGoodTree (written (ack_envelope id relates))
ack_reply_good id relates spelt related = reply_good ACK.now [] id relates (plain_text ACK.now refl) tt spelt related
