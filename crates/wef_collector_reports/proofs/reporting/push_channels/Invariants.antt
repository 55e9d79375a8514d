use Rattle.std.proofs.Common.{◌≡◌, ◌++◌, drop, IfSome}
use Rattle.std.specs.List.{flat_map, list_all}
use Rattle.wef_keeper.specs.Access.{HasRead}
use Rattle.wef_collector_reports.specs.Judged.{is_channel_formed}
use Rattle.wef_collector_reports.specs.Report.{channel_report}
use Rattle.wef_collector_reports.proofs.reporting.push_channels.Given as goal

abbrev pub invariant-loop-row : goal.invariant-loop-row
invariant-loop-row g l = record {
  read : HasRead (g.K.Keeper.store l.fn.keeper) (g.K.Keeper.store l.keeper);
  rest : IfSome (g.K.Keeper.store l.keeper).rows (λ rows. l.text ++ flat_map (channel_report rows l.sub l.source) (drop l.row-index l.channels) ≡ l.fn.text ++ flat_map (channel_report rows l.sub l.source) l.channels);
  formed : IfSome (g.K.Keeper.store l.keeper).rows (λ rows. list_all (is_channel_formed rows l.sub l.source) (drop l.row-index l.channels) ≡ list_all (is_channel_formed rows l.sub l.source) l.channels);
}
