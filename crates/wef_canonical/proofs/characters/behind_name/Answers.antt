use Rattle.std.proofs.Common.{◌∷◌, sym, ◌∙◌, ap}
use Rattle.std.proofs.lemmas.Bool.{and_from}
use Rattle.wef_canonical.proofs.characters.behind_name.Goals as goal

pub returns-then-begins_name : goal.returns-then-begins_name
returns-then-begins_name c =
    let passed = c.behind_run.ensures in (
      c.in_ok-first.first ∷ passed.0,
      and_from _ _ (sym c.begins_name.ensures ∙ c.if-begins_name.true) passed.1,
      c.in_ok-first.ensures.0 ∙ ap (λ t. c.in_ok-first.first ∷ t) passed.2,
    )
