use Rattle.std.proofs.Common.{◌≡◌, drop, IfSome, None}
use Rattle.wef_keeper.specs.Access.{HasRead}
use Rattle.wef_collector_leases.specs.Judged.{AreAsked}
use Rattle.wef_collector_leases.specs.Next as spec
use Rattle.wef_collector_leases.proofs.next.least_due.Given as goal

abbrev pub invariant-loop-source : goal.invariant-loop-source
invariant-loop-source g l = record {
  read : HasRead (g.K.Keeper.store l.fn.keeper) (g.K.Keeper.store l.keeper);
  rest : IfSome (g.K.Keeper.store l.keeper).rows (λ rows. spec.least_due rows l.waiting l.now l.listed l.least (drop l.source-index l.listed.subscription.sources) ≡ spec.least_due rows l.waiting l.now l.listed None l.listed.subscription.sources);
  allowed : IfSome l.least spec.IsXmlDueSource;
  judged : IfSome (g.K.Keeper.store l.keeper).rows (λ rows. AreAsked rows l.waiting l.listed.subscription.name (drop l.source-index l.listed.subscription.sources) → AreAsked rows l.waiting l.listed.subscription.name l.listed.subscription.sources);
}
