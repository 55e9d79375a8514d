use Rattle.std.proofs.Common.{◌≡◌, length}
use Rattle.wef_base.specs.Names.{without_end}
use Rattle.wef_base.proofs.names.trim_end.Given as goal

abbrev pub invariant-loop-last : goal.invariant-loop-last
invariant-loop-last l = without_end l.rest ≡ without_end l.characters

abbrev pub decreases-loop-last : goal.decreases-loop-last
decreases-loop-last l = length l.rest
