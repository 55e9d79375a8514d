use Rattle.std.proofs.Common.{◌≡◌, ◌++◌, map}
use Rattle.wef_places.proofs.histories.Histories.channels.Given as goal

abbrev pub invariant-loop-name : goal.invariant-loop-name
invariant-loop-name l = l.names ++ map (λ entry. entry.0) l.name-iterator ≡ map (λ entry. entry.0) l.initial.name-iterator
