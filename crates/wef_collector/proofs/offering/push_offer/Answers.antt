use Rattle.std.proofs.Common.{sym, subst}
use Rattle.std.proofs.lemmas.List.Elements.{All-push}
use Rattle.wef_eventing.specs.Sending.{CanBeOffered}
use Rattle.wef_collector.specs.Offers.{CanAllBeOffered}
use Rattle.wef_collector.proofs.offering.push_offer.Goals as goal

pub returns-clause-texts : goal.returns-clause-texts
returns-clause-texts g c host all =
    subst CanAllBeOffered (sym c.in_ok-push.ensures.ok) (All-push CanBeOffered c.args.offers.now c.in_ok-offer.offer all (c.in_ok-offer.ensures.texts host))
