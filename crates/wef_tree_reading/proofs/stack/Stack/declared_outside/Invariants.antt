use Rattle.std.proofs.Common.{◌≡◌, length}
use Rattle.std.specs.Prelude.{reverse}
use Rattle.wef_tree_reading.specs.Scopes.{declared_outside}
use Rattle.wef_tree_reading.proofs.stack.Stack.declared_outside.Given as goal

abbrev pub invariant-loop-innermost : goal.invariant-loop-innermost
invariant-loop-innermost l = declared_outside (reverse l.rest) l.prefix ≡ declared_outside l.self l.prefix

abbrev pub decreases-loop-innermost : goal.decreases-loop-innermost
decreases-loop-innermost l = length l.rest
