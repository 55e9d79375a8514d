use Rattle.std.proofs.Common.{◌≡◌, ◌≤◌, length}
use Rattle.wef_times.specs.Digits.{behind_digits}
use Rattle.wef_times.proofs.digits.behind_digits.Given as goal

abbrev pub invariant-loop-first : goal.invariant-loop-first
invariant-loop-first l = record {
  rest : behind_digits l.rest ≡ behind_digits l.text;
  within : length l.rest ≤ length l.text;
}

abbrev pub decreases-loop-first : goal.decreases-loop-first
decreases-loop-first l = length l.rest
