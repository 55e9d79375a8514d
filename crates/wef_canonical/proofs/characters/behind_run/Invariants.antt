use denote.Text.{Utf8}
use denote.Shadow.{shadow}
use Rattle.wef_canonical.specs.Passing.{IsRunOf, LeadsOn}
use Rattle.wef_canonical.proofs.characters.behind_run.Given as goal

abbrev pub invariant-loop-turn : goal.invariant-loop-turn
invariant-loop-turn l = shadow (Utf8 l.rest) × LeadsOn (IsRunOf l.run) l.text l.rest
