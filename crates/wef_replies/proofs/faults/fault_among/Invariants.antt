use Rattle.std.proofs.Common.{◌≡◌, drop}
use Rattle.wef_replies.specs.Faults.{fault_among}
use Rattle.wef_replies.proofs.faults.fault_among.Given as goal

abbrev pub invariant-loop-element : goal.invariant-loop-element
invariant-loop-element l = fault_among (drop l.element-index l.body) ≡ fault_among l.body
