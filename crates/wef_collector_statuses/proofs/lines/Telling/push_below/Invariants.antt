use Rattle.std.proofs.Common.{◌≡◌, ◌++◌, length}
use Rattle.std.specs.List.{flat_map}
use Rattle.wef_collector_statuses.specs.Lines.{names_below, names_from, never_line}
use Rattle.wef_collector_statuses.proofs.lines.Telling.push_below.Given as goal

abbrev pub invariant-loop-name : goal.invariant-loop-name
invariant-loop-name l = record {
  text : l.text ++ flat_map (never_line l.self) (names_below l.source l.left) ≡ l.fn.text ++ flat_map (never_line l.self) (names_below l.source l.listed);
  left : names_from l.source l.left ≡ names_from l.source l.listed;
}

abbrev pub decreases-loop-name : goal.decreases-loop-name
decreases-loop-name l = length l.left
