use Rattle.std.proofs.Common.{◌≡◌, drop, IfSome}
use Rattle.std.specs.FinMap as map
use Rattle.std.specs.Option.{option_to_list}
use Rattle.wef_keeper.specs.Access.{HasRead}
use Rattle.wef_building.specs.Building.{reaches, with_reaches}
use Rattle.wef_building.specs.Reading.{ReadsAbove}
use Rattle.wef_building.proofs.building.reached.Given as goal

abbrev pub invariant-loop-channel : goal.invariant-loop-channel
invariant-loop-channel g l = record {
  read : HasRead (g.K.Keeper.store l.fn.log.keeper) (g.K.Keeper.store l.log.keeper);
  above : ReadsAbove l.session.positions l.channels l.to;
  rest : IfSome (g.K.Keeper.store l.log.keeper).rows (λ rows. with_reaches l.session.positions l.to (reaches rows (drop l.channel-index l.channels) (option_to_list l.left))
      ≡ with_reaches l.session.positions map.empty (reaches rows l.channels (option_to_list l.left)));
}
