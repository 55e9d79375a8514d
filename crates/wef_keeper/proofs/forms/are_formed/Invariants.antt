use Rattle.std.proofs.Common.{◌≡◌, drop}
use Rattle.std.specs.List.{list_all}
use Rattle.wef_keeper.proofs.forms.are_formed.Given as goal

abbrev pub invariant-loop-row : goal.invariant-loop-row
invariant-loop-row g l = list_all g.F.Form.passes (drop l.row-index l.rows) ≡ list_all g.F.Form.passes l.rows
