-- Settling keeps all that a step keeps, and each turn of it that goes on leaves less to be done.
use Rattle.std.proofs.Common.{ℕ, List}
use Rattle.wef_machine.specs.States.{State}
use Rattle.wef_safety.specs.Kept.{IsHeld}
use Rattle.wef_settling.specs.Laws.{SettlingEnds, SettlingIsKept}
use Rattle.wef_machine.specs.Turns.{the_steps}
use Rattle.wef_settling.proofs.Keeping.{settling_keeps}
use Rattle.wef_settling.proofs.PollsFall.{polls_fall}
use Rattle.wef_settling.proofs.RequestsFall.{requests_fall}
use Rattle.wef_settling.proofs.TurnsKept.{held_keeping}

pub settling_is_kept : SettlingIsKept
settling_is_kept state held = settling_keeps State (List ℕ) IsHeld the_steps held_keeping state held

pub settling_ends : SettlingEnds
settling_ends = record {
  request_kept = held_keeping.requests;
  poll_kept = held_keeping.polls;
  requests_fall = requests_fall;
  polls_fall = polls_fall;
}
