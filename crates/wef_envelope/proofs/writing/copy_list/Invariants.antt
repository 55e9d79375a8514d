use Rattle.std.proofs.Common.{◌≡◌, ◌++◌, drop}
use Rattle.wef_envelope.proofs.writing.copy_list.Given as goal

abbrev pub invariant-loop-element : goal.invariant-loop-element
invariant-loop-element l = l.copies ++ drop l.element-index l.element-items ≡ l.element-items
