use Rattle.std.proofs.Common.{◌≡◌, drop}
use Rattle.wef_event.specs.Paths.{first_child}
use Rattle.wef_event.proofs.paths.first_child.Given as goal

abbrev pub invariant-loop-child : goal.invariant-loop-child
invariant-loop-child l = first_child l.name (drop l.child-index l.child-items) ≡ first_child l.name l.child-items
