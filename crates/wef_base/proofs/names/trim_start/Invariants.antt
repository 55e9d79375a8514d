use Rattle.std.proofs.Common.{◌≡◌, length}
use Rattle.wef_base.specs.Names.{without_start}
use Rattle.wef_base.proofs.names.trim_start.Given as goal

abbrev pub invariant-loop-first : goal.invariant-loop-first
invariant-loop-first l = without_start l.rest ≡ without_start l.characters

abbrev pub decreases-loop-first : goal.decreases-loop-first
decreases-loop-first l = length l.rest
