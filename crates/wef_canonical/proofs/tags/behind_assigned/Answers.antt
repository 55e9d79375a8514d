use Rattle.wef_canonical.proofs.Runs.{some_weaker}
use Rattle.wef_canonical.proofs.BareTags.{value_assigned}
use Rattle.wef_canonical.proofs.tags.behind_assigned.Goals as goal

pub returns : goal.returns
returns c =
    some_weaker c.strip-2.result _ _ (λ rest last. value_assigned c.args.text.now _ _ rest.now c.in_ok-value.ensures c.behind_value.ensures last) c.strip-2.ensures
