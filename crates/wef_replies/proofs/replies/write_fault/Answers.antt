use Rattle.std.proofs.Common.{sym, subst}
use Rattle.std.specs.Prelude.{option_copied}
use Rattle.wef_envelope.specs.Written.{written}
use Rattle.wef_envelope.specs.declared.envelopes.Envelope.{Envelope}
use Rattle.wef_xml.specs.Good.{IsGoodTree}
use Rattle.wef_replies.proofs.RepliesAreGood.{fault_reply_good}
use Rattle.wef_replies.proofs.replies.write_fault.Goals as goal

pub write_answer-requires : goal.write_answer-requires
write_answer-requires c =
    subst (λ (e : Envelope). IsGoodTree (written e)) (sym c.in_ok-envelope.ensures)
    (fault_reply_good c.args.name.now c.args.id (option_copied c.args.relates) c.requires.known c.requires.id c.requires.relates)
