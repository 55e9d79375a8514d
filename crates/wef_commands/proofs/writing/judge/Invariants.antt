use Rattle.std.proofs.Common.{◌≡◌, ◌+◌, ◌≤◌, length}
use Rattle.wef_commands.specs.Checking.{lines_of}
use Rattle.wef_commands.specs.Writing.{bad_from, bad_line}
use Rattle.wef_commands.proofs.writing.judge.Given as goal

abbrev pub decreases-loop-rest : goal.decreases-loop-rest
decreases-loop-rest l = length l.rest

abbrev pub invariant-loop-rest : goal.invariant-loop-rest
invariant-loop-rest l = record {
  good : bad_from (l.number + 1) (lines_of l.rest) ≡ bad_line l.fn.text;
  counted : l.number + length l.rest ≤ length l.fn.text + 1;
}
