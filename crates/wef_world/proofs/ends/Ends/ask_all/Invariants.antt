use Rattle.std.proofs.Common.{◌≡◌, drop}
use Rattle.wef_machine.specs.Settling.{asked}
use Rattle.wef_places.specs.Settling.{going, going_steps}
use Rattle.wef_safety.specs.Kept.{IsHeld}
use Rattle.wef_world.proofs.ends.Ends.ask_all.Given as goal
use Rattle.wef_world.specs.Exchanged.{behind}

-- those that asked and on which the work goes on, and what is left, is the whole
abbrev pub invariant-loop-name : goal.invariant-loop-name
invariant-loop-name g l = record {
  held : IsHeld l.self;
  goes : behind l.left (asked going_steps (drop l.name-index l.names) (going l.self (g.A.Answers.calls l.answers))) ≡ asked going_steps l.fn.names (going l.fn.self (g.A.Answers.calls l.fn.answers));
}
