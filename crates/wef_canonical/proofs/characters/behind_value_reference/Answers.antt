use Rattle.wef_canonical.proofs.Runs.{some_weaker, quote_passed, reference_in_value}
use Rattle.wef_canonical.proofs.characters.behind_value_reference.Goals as goal

pub returns-in-Some : goal.returns-in-Some
returns-in-Some c = quote_passed _ _ c.in-Some.ensures

pub returns-in-None : goal.returns-in-None
returns-in-None c = some_weaker c.behind_reference.result _ _ (λ rest. reference_in_value c.args.text.now rest.now) c.behind_reference.ensures
