use Rattle.wef_forwarding.proofs.forwarding.deliver.Goals as goal

pub returns-clause-exchanged : goal.returns-clause-exchanged
returns-clause-exchanged g c = record {
  answer = c.reply_to_delivery-answer.result;
  exchanged = c.reply_to_delivery-answer.ensures.replied;
  ends = rw c.count_of.ensures at c.settle.ensures.ends;
}
