use Rattle.wef_front_collector.proofs.SaidOfCalls.{offers_judged}
use Rattle.wef_front_collector.proofs.saying.offer.Goals as goal

pub returns-clause-judged : goal.returns-clause-judged
returns-clause-judged g c =
    offers_judged c.args.host.now c.args.source.now c.offers.result c.said_of_offers.result (g.K.Keeper.store c.args.collector.now.keeper) (g.K.Keeper.store c.offers.new.self.keeper)
    c.offers.ensures.call c.offers.ensures.judged c.said_of_offers.ensures.said
