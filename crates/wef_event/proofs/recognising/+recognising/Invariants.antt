use Rattle.std.proofs.Common.{ℕ, ◌+◌, ◌*◌, List, Bor}
use Rattle.std.specs.Prelude.{Option}
use denote.Text.{Utf8}
use denote.Shadow.{shadow}
use Rattle.wef_event.specs.declared.recognising.Found.{Found}
use Rattle.wef_event.specs.declared.recognising.System.{System}
use Rattle.wef_event.proofs.SeenNodes.{LeadsToNodes}
use Rattle.wef_event.proofs.recognising.+recognising.Given as goal

abbrev pub decreases-element_at : goal.decreases-element_at
decreases-element_at l = 3 * l.room

abbrev pub decreases-inside_at : goal.decreases-inside_at
decreases-inside_at l = 3 * l.room + 2

abbrev pub decreases-nodes_at : goal.decreases-nodes_at
decreases-nodes_at l = 3 * l.room + 1

-- what a loop has found, as it is called
abbrev pub called : Option (Bor (List ℕ)) × (Option (Bor (List ℕ)) × (Option System × Unit {0})) → Found
called f = record { channel = f.0; number = f.1.0; system = f.1.1.0 }

abbrev pub invariant-nodes_at-loop-turn : goal.invariant-nodes_at-loop-turn
invariant-nodes_at-loop-turn l = shadow (Utf8 l.rest) × LeadsToNodes l.space l.room l.text l.rest (called l.found)
