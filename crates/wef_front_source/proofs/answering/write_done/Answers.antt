use Rattle.std.proofs.Common.{sym, subst}
use Rattle.std.specs.Prelude.{option_copied}
use Rattle.wef_envelope.specs.Written.{written}
use Rattle.wef_envelope.specs.declared.envelopes.Envelope.{Envelope}
use Rattle.wef_replies.proofs.RepliesAreGood.{reply_good}
use Rattle.wef_xml.specs.Good.{IsGoodTree, IsXmlText}
use Rattle.wef_front_source.proofs.Texts.{action_good}
use Rattle.wef_front_source.proofs.answering.write_done.Goals as goal

pub write_answer-requires : goal.write_answer-requires
write_answer-requires c =
    subst (λ (e : Envelope). IsGoodTree (written e)) (sym c.in_ok-envelope.ensures)
    (reply_good c.action.result.now c.in_ok-body.body c.args.id (option_copied c.args.relates) (subst IsXmlText (sym c.action.ensures) (action_good c.args.answer.now))
    (c.in_ok-body.ensures.good c.requires.answer) c.requires.id c.requires.relates)
