use Rattle.std.proofs.Common.{◌∙◌}
use Rattle.wef_query.proofs.SaidPaths.{any_says}
use Rattle.wef_query.proofs.QueryList.all.Goals as goal

-- src/lib.rt:88:13
pub invariant_of-push : goal.invariant_of-push
invariant_of-push c =
    any_says c.in_ok-clone.field-0 c.in_ok-clone-2.field-0
    (c.in_ok-clone.ensures ∙ c.in_ok-text.ensures)
    (c.in_ok-clone-2.ensures ∙ c.in_ok-path.ensures ∙ c.any.ensures)
