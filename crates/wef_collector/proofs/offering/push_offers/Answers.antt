use Rattle.std.proofs.Common.{rules, arith}
use Rattle.std.proofs.lemmas.Grind.{common_steps}
use Rattle.wef_collector.proofs.offering.push_offers.Goals as goal

pub loop-listed-preserved : goal.loop-listed-preserved
loop-listed-preserved g c = record {
  read = search rules;
  rest = first_of (search rules, grind (arith, common_steps));
  formed = first_of (search rules, grind (arith, common_steps));
  texts = λ host all. c.in_ok-push_offer.ensures.texts host (c.loop-listed.invariant.texts host all);
}
