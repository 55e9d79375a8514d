use Rattle.std.proofs.Common.{◌≡◌, ◌++◌, map}
use Rattle.wef_bookmark.specs.Nodes.{entry_element}
use Rattle.wef_bookmark.proofs.nodes.list_of.Given as goal

abbrev pub invariant-loop-channel : goal.invariant-loop-channel
invariant-loop-channel l = l.elements ++ map (λ e. entry_element e) l.channel-iterator ≡ map (λ e. entry_element e) l.entries.entries
