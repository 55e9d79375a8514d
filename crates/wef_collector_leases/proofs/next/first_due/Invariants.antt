use Rattle.std.proofs.Common.{◌≡◌, drop, IfSome}
use Rattle.wef_keeper.specs.Access.{HasRead}
use Rattle.wef_collector_leases.specs.Judged.{AreJudgedUntil}
use Rattle.wef_collector_leases.specs.Next.{first_of_rows}
use Rattle.wef_collector_leases.proofs.next.first_due.Given as goal

abbrev pub invariant-loop-row : goal.invariant-loop-row
invariant-loop-row g l = record {
  read : HasRead (g.K.Keeper.store l.fn.keeper) (g.K.Keeper.store l.keeper);
  rest : IfSome (g.K.Keeper.store l.keeper).rows (λ rows. first_of_rows rows l.waiting l.now (drop l.row-index l.subscriptions) ≡ first_of_rows rows l.waiting l.now l.subscriptions);
  judged : IfSome (g.K.Keeper.store l.keeper).rows (λ rows. AreJudgedUntil rows l.waiting l.now (drop l.row-index l.subscriptions) → AreJudgedUntil rows l.waiting l.now l.subscriptions);
}
