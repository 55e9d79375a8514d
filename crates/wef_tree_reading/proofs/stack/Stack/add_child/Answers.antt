use Rattle.std.proofs.Common.{refl, ap, ◌∙◌}
use Rattle.wef_tree_reading.specs.Building.{with_child}
use Rattle.wef_tree_reading.proofs.Stacks.{last_changed}
use Rattle.wef_tree_reading.proofs.stack.Stack.add_child.Goals as goal

pub returns : goal.returns
returns c =
    let more = ap (λ cs. record c.in-Some.innermost.now { children = cs }) c.in_ok-push_snug.ensures.ok in
    last_changed c.self.inside.items.items _ c.in-Some.innermost.now _ c.args.child c.self.inside.items.ok.0 (c.in-Some.ensures.variant.0 refl) c.in-Some.ensures.value more
    ∙ ap (with_child c.args.child) c.self.view_is
