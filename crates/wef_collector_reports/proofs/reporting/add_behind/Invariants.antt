use Rattle.std.proofs.Common.{◌≡◌, ◌++◌, ◌-◌, map, IfSome}
use Rattle.std.specs.List.{list_all}
use Rattle.wef_keeper.specs.Access.{HasRead}
use Rattle.wef_keeper.specs.Sections.{rows_under}
use Rattle.wef_keeper.specs.declared.keys.Depth.TheVariants.{Channel}
use Rattle.wef_collector_rows.specs.Forms.{is_formed}
use Rattle.wef_collector_reports.specs.Report.{span_of}
use Rattle.wef_collector_reports.specs.Runs.{runs_from, runs_text}
use Rattle.wef_collector_reports.proofs.reporting.add_behind.Given as goal

abbrev pub invariant-loop-page : goal.invariant-loop-page
invariant-loop-page g l = record {
  read : HasRead (g.K.Keeper.store l.fn.keeper) (g.K.Keeper.store l.keeper);
  rest : IfSome (g.K.Keeper.store l.keeper).rows (λ rows.
      l.writer.text ++ runs_text (runs_from l.writer.running (map (span_of l.spans) (rows_under Channel l.after rows)))
      ≡ l.fn.writer.text ++ runs_text (runs_from l.fn.writer.running (map (span_of l.spans) (rows_under Channel l.fn.after rows))));
  formed : IfSome (g.K.Keeper.store l.keeper).rows (λ rows. list_all is_formed (rows_under Channel l.after rows) ≡ list_all is_formed (rows_under Channel l.fn.after rows));
}

-- the numbers of a channel's rows rise
abbrev pub decreases-loop-page : goal.decreases-loop-page
decreases-loop-page g l = 18446744073709551616 - l.after.number
