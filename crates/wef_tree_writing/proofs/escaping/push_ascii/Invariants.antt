use Rattle.std.proofs.Common.{◌≡◌, ◌++◌, drop}
use Rattle.wef_tree_writing.proofs.escaping.push_ascii.Given as goal

abbrev pub invariant-loop-byte : goal.invariant-loop-byte
invariant-loop-byte l = l.out ++ drop l.byte-index l.ascii ≡ l.fn.out ++ l.ascii
