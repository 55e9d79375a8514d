use Rattle.std.proofs.Common.{◌≡◌, drop}
use Rattle.wef_machine.specs.Settling.{all_served}
use Rattle.wef_places.specs.Settling.{going, going_steps}
use Rattle.wef_safety.specs.Kept.{IsHeld}
use Rattle.wef_world.proofs.ends.Ends.serve_all.Given as goal

-- the sources that are left are the whole
abbrev pub invariant-loop-name : goal.invariant-loop-name
invariant-loop-name g l = record {
  held : IsHeld l.self;
  goes : all_served going_steps (drop l.name-index l.names) (going l.self (g.A.Answers.calls l.answers)) ≡ all_served going_steps l.fn.names (going l.fn.self (g.A.Answers.calls l.fn.answers));
}
