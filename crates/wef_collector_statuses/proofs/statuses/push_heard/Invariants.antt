use Rattle.std.proofs.Common.{◌≡◌, ◌++◌, ◌-◌, IfSome, length}
use Rattle.std.specs.List.{list_all}
use Rattle.wef_keeper.specs.Access.{HasRead}
use Rattle.wef_keeper.specs.Sections.{rows_under}
use Rattle.wef_keeper.specs.declared.keys.Depth.TheVariants.{Sub}
use Rattle.wef_collector_reports.specs.Report.{heard_rows}
use Rattle.wef_collector_rows.specs.Forms.{is_formed}
use Rattle.wef_collector_statuses.specs.Lines.{told}
use Rattle.wef_collector_statuses.proofs.statuses.push_heard.Given as goal

abbrev pub invariant-loop-last : goal.invariant-loop-last
invariant-loop-last g l = record {
  read : HasRead (g.K.Keeper.store l.fn.keeper) (g.K.Keeper.store l.keeper);
  rest : IfSome (g.K.Keeper.store l.keeper).rows (λ rows. l.text ++ told l.telling (rows_under Sub l.last rows) l.left ≡ l.fn.text ++ told l.telling (heard_rows rows l.telling.sub) l.fn.listed);
  formed : IfSome (g.K.Keeper.store l.keeper).rows (λ rows. list_all is_formed (rows_under Sub l.last rows) ≡ list_all is_formed (heard_rows rows l.telling.sub));
}

-- each page that is full makes the text longer
abbrev pub decreases-loop-last : goal.decreases-loop-last
decreases-loop-last g l = 18446744073709551616 - length l.text
