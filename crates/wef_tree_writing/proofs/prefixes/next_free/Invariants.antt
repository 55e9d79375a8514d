use Rattle.std.proofs.Common.{◌≡◌, ◌-◌, length}
use Rattle.wef_xml.specs.Prefixes.{next_free}
use Rattle.wef_tree_writing.proofs.prefixes.next_free.Given as goal

abbrev pub invariant-loop-turn : goal.invariant-loop-turn
invariant-loop-turn l = next_free (length l.taken - l._turn) l.taken l.number ≡ next_free (length l.taken) l.taken l.first
