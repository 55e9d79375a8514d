use Rattle.std.proofs.Common.{◌≡◌, ◌++◌, length}
use Rattle.std.specs.List.{flat_map}
use Rattle.wef_made.specs.Made as made
use Rattle.wef_made.proofs.schedule.make.Given as goal

abbrev pub invariant-loop-drawn : goal.invariant-loop-drawn
invariant-loop-drawn l = l.lines ++ flat_map made.lines_of l.draws ≡ made.opening ++ flat_map made.lines_of (made.draws l.fn.seed l.fn.size)

abbrev pub decreases-loop-drawn : goal.decreases-loop-drawn
decreases-loop-drawn l = length l.draws
