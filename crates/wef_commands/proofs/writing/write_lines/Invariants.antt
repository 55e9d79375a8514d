use Rattle.std.proofs.Common.{◌≡◌, ◌+◌, ◌≤◌, length}
use Rattle.std.specs.Prelude.{None}
use Rattle.wef_commands.specs.Checking.{lines_of}
use Rattle.wef_commands.specs.Writing.{bad_from, events_of}
use Rattle.wef_commands.proofs.LinesWritten.{IsWrittenTo}
use Rattle.wef_commands.proofs.writing.write_lines.Given as goal

abbrev pub decreases-loop-rest : goal.decreases-loop-rest
decreases-loop-rest g l = length l.rest

abbrev pub invariant-loop-rest : goal.invariant-loop-rest
invariant-loop-rest g l = record {
  so_far : IsWrittenTo (events_of (lines_of l.fn.text)) (events_of (lines_of l.rest)) l.number (g.O.Sink.taken l.fn.out) (g.O.Sink.taken l.out)
      (g.K.Keeper.store l.fn.log.keeper) (g.K.Keeper.store l.log.keeper);
  good : bad_from (l.number + 1) (lines_of l.rest) ≡ None;
  later : g.O.Sink.faults l.fn.out ≤ g.O.Sink.faults l.out;
  counted : l.number + length l.rest ≤ length l.fn.text + 1;
}
