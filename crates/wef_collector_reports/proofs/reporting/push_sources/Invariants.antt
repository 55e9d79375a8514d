use Rattle.std.proofs.Common.{◌≡◌, ◌++◌, drop, IfSome}
use Rattle.std.specs.List.{flat_map, list_all}
use Rattle.wef_keeper.specs.Access.{HasRead}
use Rattle.wef_collector_reports.specs.Judged.{is_source_formed}
use Rattle.wef_collector_reports.specs.Report.{source_report}
use Rattle.wef_collector_reports.proofs.reporting.push_sources.Given as goal

abbrev pub invariant-loop-source : goal.invariant-loop-source
invariant-loop-source g l = record {
  read : HasRead (g.K.Keeper.store l.fn.keeper) (g.K.Keeper.store l.keeper);
  rest : IfSome (g.K.Keeper.store l.keeper).rows (λ rows. l.text ++ flat_map (source_report rows l.sub) (drop l.source-index l.sources) ≡ l.fn.text ++ flat_map (source_report rows l.sub) l.sources);
  formed : IfSome (g.K.Keeper.store l.keeper).rows (λ rows. list_all (is_source_formed rows l.sub) (drop l.source-index l.sources) ≡ list_all (is_source_formed rows l.sub) l.sources);
}
