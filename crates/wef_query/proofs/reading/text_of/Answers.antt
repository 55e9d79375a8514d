use Rattle.std.proofs.Common.{◌≡◌, List, ℕ, ap, sym, ◌∙◌}
use Rattle.std.specs.Prelude.{IfOk, Result, Ok, Err}
use Rattle.wef_base.specs.Names.{trimmed}
use Rattle.wef_query.proofs.Trimmed.{trimmed_again}
use Rattle.wef_query.proofs.reading.text_of.Goals as goal

given_again : {E : Type 0} (text : List ℕ) (result : Result (List ℕ) E) → trimmed (trimmed text) ≡ trimmed text → IfOk result (λ t. t ≡ trimmed text) → IfOk result (λ t. trimmed t ≡ t)
given_again text (Ok t) again is = ap trimmed is ∙ again ∙ sym is
given_again text (Err e) again is = tt

-- src/reading.rt:238:1
pub returns-clause-trimmed : goal.returns-clause-trimmed
returns-clause-trimmed c = given_again c.in_ok-characters.characters c.trimmed.result (trimmed_again c.in_ok-characters.characters c.text_is_in_utf8.ensures) c.trimmed.ensures
