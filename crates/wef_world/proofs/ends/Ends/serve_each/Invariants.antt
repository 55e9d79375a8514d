use Rattle.std.proofs.Common.{◌≡◌, drop}
use Rattle.wef_machine.specs.Settling.{served}
use Rattle.wef_places.specs.Settling.{going, going_steps}
use Rattle.wef_safety.specs.Kept.{IsHeld}
use Rattle.wef_world.proofs.ends.Ends.serve_each.Given as goal

-- the sessions that are left are the whole
abbrev pub invariant-loop-sub : goal.invariant-loop-sub
invariant-loop-sub g l = record {
  held : IsHeld l.self;
  goes : served going_steps l.source (drop l.sub-index l.names) (going l.self (g.A.Answers.calls l.answers)) ≡ served going_steps l.fn.source l.fn.names (going l.fn.self (g.A.Answers.calls l.fn.answers));
}
