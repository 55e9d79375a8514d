use Rattle.std.proofs.Common.{◌++◌, ◌≤◌}
use Rattle.wef_machine.specs.Steps.{AreAdmitted, trail_from}
use Rattle.wef_commands.specs.Streams.{IsWrittenUpTo}
use Rattle.wef_cli.proofs.runs.run_in.Given as goal

abbrev pub invariant-loop-line : goal.invariant-loop-line
invariant-loop-line g l = record {
  written : IsWrittenUpTo (g.O.Sink.taken l.fn.out) (g.O.Sink.taken l.out) (trail_from l.fn.world.held l.fn.lines) (l.waiting ++ trail_from l.world.held l.line-iterator.rest.items);
  admitted : AreAdmitted l.world.held l.line-iterator.rest.items;
  later : g.O.Sink.faults l.fn.out ≤ g.O.Sink.faults l.out;
}
