use Rattle.std.proofs.Common.{◌≡◌}
use Rattle.wef_machine.specs.Measures.{requests_left}
use Rattle.wef_machine.specs.Settling.{requested}
use Rattle.wef_places.specs.Settling.{going, going_steps}
use Rattle.wef_safety.specs.Kept.{IsHeld}
use Rattle.wef_world.proofs.ends.Ends.request_all.Given as goal

-- the requests that are left are the whole
abbrev pub invariant-requests : goal.invariant-requests
invariant-requests g l = record {
  held : IsHeld l.self;
  goes : requested going_steps (going l.self (g.A.Answers.calls l.answers)) ≡ requested going_steps (going l.fn.self (g.A.Answers.calls l.fn.answers));
}

abbrev pub decreases-requests : goal.decreases-requests
decreases-requests g l = requests_left l.self
