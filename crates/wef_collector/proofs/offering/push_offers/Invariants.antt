use Rattle.std.proofs.Common.{◌≡◌, ◌++◌, drop, IfSome}
use Rattle.std.specs.List.{filter_map, list_all}
use Rattle.wef_keeper.specs.Access.{HasRead}
use Rattle.wef_collector.specs.Judged.{is_offer_formed}
use Rattle.wef_collector.specs.Offers.{CanAllBeOffered, offer_of}
use Rattle.wef_eventing.specs.Addresses.{IsHost}
use Rattle.wef_collector.proofs.offering.push_offers.Given as goal

abbrev pub invariant-loop-listed : goal.invariant-loop-listed
invariant-loop-listed g l = record {
  read : HasRead (g.K.Keeper.store l.fn.keeper) (g.K.Keeper.store l.keeper);
  rest : IfSome (g.K.Keeper.store l.keeper).rows (λ rows. l.offers ++ filter_map (offer_of rows l.source l.host) (drop l.listed-index l.subscriptions) ≡ l.fn.offers ++ filter_map (offer_of rows l.source l.host) l.subscriptions);
  formed : IfSome (g.K.Keeper.store l.keeper).rows (λ rows. list_all (is_offer_formed rows l.source) (drop l.listed-index l.subscriptions) ≡ list_all (is_offer_formed rows l.source) l.subscriptions);
  texts : IsHost l.host → CanAllBeOffered l.fn.offers → CanAllBeOffered l.offers;
}
