use Rattle.std.proofs.Common.{◌≡◌, drop, IfSome}
use Rattle.wef_keeper.specs.Access.{HasRead}
use Rattle.wef_building.specs.Building.{candidates_in}
use Rattle.wef_building.specs.Drafting.{IsNumberedDraft, with_items}
use Rattle.wef_building.proofs.Judging.{AreJudgedTo}
use Rattle.wef_building.proofs.drafting.Draft.take_channels.Given as goal

abbrev pub invariant-loop-channel : goal.invariant-loop-channel
invariant-loop-channel g l = record {
  read : HasRead (g.K.Keeper.store l.fn.log.keeper) (g.K.Keeper.store l.log.keeper);
  numbered : IsNumberedDraft l.self;
  judged : IfSome (g.K.Keeper.store l.log.keeper).rows (λ rows. AreJudgedTo rows l.session l.fn.self.left l.self.left (drop l.channel-index l.channels) l.channels);
  rest : IfSome (g.K.Keeper.store l.log.keeper).rows (λ rows. with_items l.self (candidates_in rows l.session (drop l.channel-index l.channels))
      ≡ with_items l.fn.self (candidates_in rows l.session l.channels));
}
