use Rattle.std.proofs.Common.{◌≡◌, ◌+◌, ◌≤◌, drop}
use Rattle.wef_source.specs.Answers.{asked_for}
use Rattle.wef_source.proofs.adopting.asked_for.Given as goal

abbrev pub invariant-loop-session : goal.invariant-loop-session
invariant-loop-session l = record {
  so_far : l.count + asked_for (drop l.session-index l.sessions) ≡ asked_for l.sessions;
  within : l.count ≤ l.session-index;
}
