use Rattle.std.proofs.Common.{◌≡◌, ◌+◌, ◌≤◌, [], length}
use Rattle.wef_commands.specs.Checking as spec
use Rattle.wef_commands.proofs.checking.answers_from.Given as goal

abbrev pub decreases-loop-rest : goal.decreases-loop-rest
decreases-loop-rest l = length l.rest

abbrev pub invariant-loop-rest : goal.invariant-loop-rest
invariant-loop-rest l = record {
  given : spec.answers_from l.list l.printed (l.number + 1) (spec.lines_of l.rest) ≡ spec.answers_from l.list [] 2 (spec.lines_of l.fn.text);
  counted : l.number + length l.rest ≤ length l.fn.text + 1;
}
