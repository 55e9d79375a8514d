use Rattle.std.proofs.Common.{◌≡◌}
use Rattle.wef_machine.specs.Measures.{lag_of}
use Rattle.wef_machine.specs.Settling.{polled}
use Rattle.wef_places.specs.Settling.{going, going_steps}
use Rattle.wef_safety.specs.Kept.{IsHeld}
use Rattle.wef_world.proofs.ends.Ends.poll_session.Given as goal

-- the polls that are left are the whole
abbrev pub invariant-polls : goal.invariant-polls
invariant-polls g l = record {
  held : IsHeld l.self;
  goes : polled going_steps l.source l.sub (going l.self (g.A.Answers.calls l.answers)) ≡ polled going_steps l.fn.source l.fn.sub (going l.fn.self (g.A.Answers.calls l.fn.answers));
}

abbrev pub decreases-polls : goal.decreases-polls
decreases-polls g l = lag_of l.source l.sub l.self
