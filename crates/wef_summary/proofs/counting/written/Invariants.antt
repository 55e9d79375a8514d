use Rattle.std.proofs.Common.{◌≡◌, ◌++◌, drop}
use Rattle.std.specs.List.{flat_map}
use Rattle.wef_summary.specs.Summary as spec
use Rattle.wef_summary.proofs.counting.written.Given as goal

abbrev pub invariant-loop-name : goal.invariant-loop-name
invariant-loop-name l = l.counts ++ flat_map (spec.counts_at l.sources) (drop l.name-index l.name-items) ≡ flat_map (spec.counts_at l.sources) l.name-items
