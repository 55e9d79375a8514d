use Rattle.std.proofs.Common.{refl, sym, subst}
use Rattle.std.specs.Prelude.{option_copied}
use Rattle.wef_envelope.specs.Written.{written}
use Rattle.wef_envelope.specs.declared.actions.TheConstants.{ENUMERATE_RESPONSE}
use Rattle.wef_envelope.specs.declared.envelopes.Envelope.{Envelope}
use Rattle.wef_xml.proofs.Ascii.{plain_text}
use Rattle.wef_xml.specs.Good.{IsGoodTree}
use Rattle.wef_replies.proofs.RepliesAreGood.{reply_good}
use Rattle.wef_front_collector.proofs.answering.write_offered.Goals as goal

pub write_answer-requires : goal.write_answer-requires
write_answer-requires c =
    subst (λ (e : Envelope). IsGoodTree (written e)) (sym c.in_ok-envelope.ensures)
    (reply_good ENUMERATE_RESPONSE.now c.in_ok-body.body c.args.id (option_copied c.args.relates) (plain_text ENUMERATE_RESPONSE.now refl) (c.in_ok-body.ensures.good c.requires.offers c.requires.nested) c.requires.id c.requires.relates)
