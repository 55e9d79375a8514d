use Rattle.std.proofs.Common.{◌≡◌, ap, sym, ◌∙◌, subst}
use Rattle.std.specs.Prelude.{option_copied}
use Rattle.wef_envelope.specs.Written.{written}
use Rattle.wef_envelope.specs.declared.actions.TheConstants.{ACK}
use Rattle.wef_envelope.specs.declared.envelopes.Envelope.{Envelope}
use Rattle.wef_xml.specs.Good.{IsGoodTree}
use Rattle.wef_front_collector.specs.Replies.{ack_envelope}
use Rattle.wef_replies.specs.Replies.{envelope_with}
use Rattle.wef_front_collector.proofs.AcksAreGood.{ack_reply_good}
use Rattle.wef_front_collector.proofs.answering.write_ack.Goals as goal

pub write_answer-requires : goal.write_answer-requires
write_answer-requires c =
    let relates = option_copied c.args.relates in
    let is : c.in_ok-envelope.envelope ≡ ack_envelope c.args.id relates = c.in_ok-envelope.ensures ∙ ap (λ body. envelope_with ACK.now body c.args.id relates) c.new.ensures in
    subst (λ (e : Envelope). IsGoodTree (written e)) (sym is) (ack_reply_good c.args.id relates c.requires.id c.requires.relates)
