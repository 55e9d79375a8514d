use Rattle.std.proofs.Common.{◌≡◌, ◌++◌, drop, true, IfSome}
use Rattle.std.specs.List.{flat_map, list_all}
use Rattle.wef_batch.specs.WellFormed.{is_in_order}
use Rattle.wef_keeper.specs.Access.{HasRead}
use Rattle.wef_collector.specs.Judged.{AreReachedFormed}
use Rattle.wef_collector.specs.Taken.{channel_changes}
use Rattle.wef_collector.proofs.changes.push_all_changes.Given as goal

abbrev pub invariant-loop-channel : goal.invariant-loop-channel
invariant-loop-channel g l = record {
  read : HasRead (g.K.Keeper.store l.fn.keeper) (g.K.Keeper.store l.keeper);
  rest : IfSome (g.K.Keeper.store l.keeper).rows (λ rows. l.changes ++ flat_map (channel_changes rows l.sub l.source l.batch) (drop l.channel-index l.channels) ≡ l.fn.changes ++ flat_map (channel_changes rows l.sub l.source l.batch) l.channels);
  order : list_all (is_in_order l.batch) (drop l.channel-index l.channels) ≡ true;
  formed : IfSome (g.K.Keeper.store l.keeper).rows (λ rows. AreReachedFormed rows l.sub l.source l.batch (drop l.channel-index l.channels) → AreReachedFormed rows l.sub l.source l.batch l.channels);
}
