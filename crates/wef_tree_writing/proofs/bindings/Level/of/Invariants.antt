use Rattle.std.proofs.Common.{◌≡◌, ◌++◌}
use Rattle.wef_tree_writing.proofs.bindings.Level.of.Given as goal

abbrev pub invariant-loop-binding : goal.invariant-loop-binding
invariant-loop-binding l = l.level ++ l.binding-iterator.rest.items ≡ l.fn.bindings
