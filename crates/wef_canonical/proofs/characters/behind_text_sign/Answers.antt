use Rattle.wef_canonical.proofs.Runs.{some_weaker, reference_in_text, sign_passed}
use Rattle.wef_canonical.proofs.characters.behind_text_sign.Goals as goal

pub returns-in-Some : goal.returns-in-Some
returns-in-Some c = sign_passed _ _ c.in-Some.ensures

pub returns-in-None : goal.returns-in-None
returns-in-None c = some_weaker c.behind_reference.result _ _ (λ rest. reference_in_text c.args.text.now rest.now) c.behind_reference.ensures
