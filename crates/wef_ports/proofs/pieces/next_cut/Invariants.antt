use Rattle.std.proofs.Common.{◌≡◌, drop, length, ◌-◌}
use Rattle.wef_ports.specs.Pieces.{cuts_behind}
use Rattle.wef_ports.proofs.pieces.next_cut.Given as goal

abbrev pub decreases-loop-index : goal.decreases-loop-index
decreases-loop-index l = length l.cuts - l.index

-- the cuts between are not behind the place
abbrev pub invariant-loop-index : goal.invariant-loop-index
invariant-loop-index l = cuts_behind l.place (drop l.index l.cuts) ≡ cuts_behind l.place (drop l.from l.cuts)
