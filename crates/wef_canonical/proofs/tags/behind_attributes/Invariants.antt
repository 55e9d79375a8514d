use Rattle.std.proofs.Common.{List, ℕ, Bor}
use denote.Text.{Utf8}
use denote.Shadow.{shadow}
use Rattle.wef_canonical.specs.Tags.{BeginsWithAttributes}
use Rattle.wef_canonical.specs.declared.tags.Names.{Names}
use Rattle.wef_canonical.proofs.tags.behind_attributes.Given as goal

-- the names that a loop keeps, as they are called
abbrev pub called : Bor (List ℕ) × (Bor (List ℕ) × (Bor (List ℕ) × (Bor (List ℕ) × Unit {0}))) → Names
called n = record { first = n.0; second = n.1.0; third = n.1.1.0; fourth = n.1.1.1.0 }

abbrev pub invariant-loop-turn : goal.invariant-loop-turn
invariant-loop-turn l = shadow (Utf8 l.rest) × ((behind : List ℕ) → BeginsWithAttributes (called l.names) l.rest behind → BeginsWithAttributes (called l.initial.names) l.text behind)
