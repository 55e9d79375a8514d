use Rattle.std.proofs.Common.{◌≡◌, ◌++◌, drop}
use Rattle.std.specs.List.{flat_map}
use Rattle.wef_collector_statuses.specs.Lines.{never_line}
use Rattle.wef_collector_statuses.proofs.lines.Telling.push_never.Given as goal

abbrev pub invariant-loop-name : goal.invariant-loop-name
invariant-loop-name l = l.text ++ flat_map (never_line l.self) (drop l.name-index l.listed) ≡ l.fn.text ++ flat_map (never_line l.self) l.listed
