use Rattle.std.proofs.Common.{ℕ, ◌+◌, ◌*◌}
use denote.Text.{Utf8}
use denote.Shadow.{shadow}
use Rattle.wef_event.proofs.LooseNodes.{WritesOn}
use Rattle.wef_event.proofs.loose.+writing.Given as goal

abbrev pub decreases-push_element : goal.decreases-push_element
decreases-push_element l = 2 * l.room

abbrev pub decreases-push_nodes : goal.decreases-push_nodes
decreases-push_nodes l = 2 * l.room + 1

abbrev pub invariant-push_nodes-loop-turn : goal.invariant-push_nodes-loop-turn
invariant-push_nodes-loop-turn l = shadow (Utf8 l.rest) × WritesOn l.space l.room l.text l.rest l.initial.whole l.whole
