use Rattle.std.proofs.Common.{◌≡◌}
use Rattle.wef_machine.specs.Steps.{AreAdmitted}
use Rattle.wef_summary.specs.Behind.{behind}
use Rattle.wef_cli.proofs.making.run_some.Given as goal

abbrev pub invariant-loop-line : goal.invariant-loop-line
invariant-loop-line l = record {
  left : behind l.world.held l.line-iterator.rest.items ≡ behind l.fn.world.held l.fn.lines;
  admitted : AreAdmitted l.world.held l.line-iterator.rest.items;
}
