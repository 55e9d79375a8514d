use Rattle.std.proofs.Common.{None, ◌≡◌, ◌-◌, ◌≤◌, IfSome}
use Rattle.std.specs.List.{filter_map}
use Rattle.wef_keeper.specs.Access.{HasRead}
use Rattle.wef_building.specs.Building.{first_number, item_of}
use Rattle.wef_building.specs.Drafting.{IsNumberedDraft, with_items}
use Rattle.wef_building.specs.Judged.{AreSound}
use Rattle.wef_source_log.specs.LogWindow.{records_after}
use Rattle.wef_building.proofs.drafting.Draft.take_records.Given as goal

abbrev pub invariant-loop-log : goal.invariant-loop-log
invariant-loop-log g l = record {
  read : HasRead (g.K.Keeper.store l.fn.log.keeper) (g.K.Keeper.store l.log.keeper);
  page : 1 ≤ l.max;
  numbered : IsNumberedDraft l.self;
  judged : l.fn.self.left ≡ None → IfSome (g.K.Keeper.store l.log.keeper).rows (λ rows. AreSound l.channel l.position l.after rows × IfSome l.self.left (λ i. first_number i ≤ l.after));
  rest : IfSome (g.K.Keeper.store l.log.keeper).rows (λ rows. with_items l.self (filter_map (item_of l.query l.room) (records_after rows l.channel l.after))
      ≡ with_items l.fn.self (filter_map (item_of l.query l.room) (records_after rows l.channel l.position)));
}

abbrev pub decreases-loop-log : goal.decreases-loop-log
decreases-loop-log g l = 18446744073709551616 - l.after
