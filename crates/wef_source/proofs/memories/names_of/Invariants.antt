use Rattle.std.proofs.Common.{◌≡◌, ◌++◌, drop}
use Rattle.wef_source.specs.Sessions as the_sessions
use Rattle.wef_source.proofs.memories.names_of.Given as goal

abbrev pub invariant-loop-session : goal.invariant-loop-session
invariant-loop-session l = l.names ++ the_sessions.names_of (drop l.session-index l.sessions) ≡ the_sessions.names_of l.sessions
