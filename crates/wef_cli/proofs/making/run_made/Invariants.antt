use Rattle.std.proofs.Common.{◌≡◌, ◌++◌, length}
use Rattle.std.specs.List.{flat_map}
use Rattle.wef_machine.specs.Steps.{AreAdmitted}
use Rattle.wef_made.specs.Made.{closing, lines_of, schedule}
use Rattle.wef_summary.specs.Behind.{behind}
use Rattle.wef_cli.proofs.making.run_made.Given as goal

abbrev pub invariant-loop-drawn : goal.invariant-loop-drawn
invariant-loop-drawn l = record {
  left : behind l.world.held (flat_map lines_of l.draws ++ closing) ≡ behind l.fn.world.held (schedule l.fn.seed l.fn.size);
  admitted : AreAdmitted l.world.held (flat_map lines_of l.draws ++ closing);
}

abbrev pub decreases-loop-drawn : goal.decreases-loop-drawn
decreases-loop-drawn l = length l.draws
