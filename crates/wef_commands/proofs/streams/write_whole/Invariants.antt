use Rattle.std.proofs.Common.{◌≤◌, ◌-◌, length, take}
use Rattle.std.specs.Io.KnownBytes.{Appends}
use Rattle.wef_commands.proofs.streams.write_whole.Given as goal

abbrev pub invariant-loop-at : goal.invariant-loop-at
invariant-loop-at g l = record {
  written : Appends (g.O.Sink.taken l.fn.out) (g.O.Sink.taken l.out) (take l.at l.text);
  later : g.O.Sink.faults l.fn.out ≤ g.O.Sink.faults l.out;
  within : l.at ≤ length l.text;
}

abbrev pub decreases-loop-at : goal.decreases-loop-at
decreases-loop-at g l = length l.text - l.at
