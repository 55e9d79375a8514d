use Rattle.std.proofs.Common.{◌≡◌, length}
use Rattle.wef_eventing.specs.Addresses.{behind_slash}
use Rattle.wef_eventing.proofs.targets.behind_slash.Given as goal

abbrev pub invariant-loop-byte : goal.invariant-loop-byte
invariant-loop-byte l = behind_slash l.rest ≡ behind_slash l.text

abbrev pub decreases-loop-byte : goal.decreases-loop-byte
decreases-loop-byte l = length l.rest
