use Rattle.std.proofs.Common.{◌≡◌, ◌++◌, drop}
use Rattle.std.specs.List.{filter}
use Rattle.wef_source.specs.Sessions.{is_leased}
use Rattle.wef_source.proofs.adopting.leased_of.Given as goal

abbrev pub invariant-loop-session : goal.invariant-loop-session
invariant-loop-session l = l.copies.items ++ filter is_leased (drop l.session-index l.sessions) ≡ filter is_leased l.sessions
