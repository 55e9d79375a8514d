use Rattle.std.proofs.Common.{[], ◌∷◌, sym, ◌∙◌}
use Rattle.wef_canonical.proofs.Runs.{one_letter}
use Rattle.wef_canonical.proofs.characters.behind_name_character.Goals as goal

pub returns-then-stands_in_name : goal.returns-then-stands_in_name
returns-then-stands_in_name c = (c.in_ok-first.first ∷ [], one_letter c.in_ok-first.first (sym c.stands_in_name.ensures ∙ c.if-stands_in_name.true), c.in_ok-first.ensures.0)
