use Rattle.std.proofs.Common.{◌≡◌, ◌++◌, drop, IfSome}
use Rattle.std.specs.List.{flat_map, list_all}
use Rattle.wef_keeper.specs.Access.{HasRead}
use Rattle.wef_collector_reports.specs.Judged.{is_subscription_formed}
use Rattle.wef_collector_reports.specs.Report.{subscription_report}
use Rattle.wef_collector_reports.proofs.reporting.push_subscriptions.Given as goal

abbrev pub invariant-loop-row : goal.invariant-loop-row
invariant-loop-row g l = record {
  read : HasRead (g.K.Keeper.store l.fn.keeper) (g.K.Keeper.store l.keeper);
  rest : IfSome (g.K.Keeper.store l.keeper).rows (λ rows. l.text ++ flat_map (subscription_report rows) (drop l.row-index l.subscriptions) ≡ l.fn.text ++ flat_map (subscription_report rows) l.subscriptions);
  formed : IfSome (g.K.Keeper.store l.keeper).rows (λ rows. list_all (is_subscription_formed rows) (drop l.row-index l.subscriptions) ≡ list_all (is_subscription_formed rows) l.subscriptions);
}
