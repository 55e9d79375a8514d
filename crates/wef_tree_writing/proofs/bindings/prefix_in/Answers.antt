use Rattle.std.proofs.Common.{sym, ap, ◌∙◌}
use Rattle.std.specs.Option.{option_copied}
use Rattle.wef_tree_writing.specs.Levels.{prefix_around}
use Rattle.wef_tree_writing.proofs.Bound.{around_last}
use Rattle.wef_tree_writing.proofs.bindings.prefix_in.Goals as goal

pub loop-outermost-preserved : goal.loop-outermost-preserved
loop-outermost-preserved c =
    let outside = option_copied c.loop-outermost.prefix in
    rw c.prefix_inside-prefix.ensures
    (sym (around_last outside c.in-Some.inner.now c.in-Some.outermost.now c.args.space.now)
    ∙ ap (λ bs. prefix_around outside bs c.args.space.now) (sym c.in-Some.ensures.cases.0) ∙ c.loop-outermost.invariant)
