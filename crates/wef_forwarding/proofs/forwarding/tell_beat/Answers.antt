use Rattle.wef_forwarding.proofs.forwarding.tell_beat.Goals as goal

pub returns-clause-exchanged : goal.returns-clause-exchanged
returns-clause-exchanged g c = record {
  answer = c.reply_to_beat-answer.result;
  exchanged = c.reply_to_beat-answer.ensures.replied;
  ends = c.settle.ensures.ends;
}
