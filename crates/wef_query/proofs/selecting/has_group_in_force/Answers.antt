use Rattle.std.proofs.Common.{ap, sym, ◌∙◌}
use Rattle.wef_query.specs.Items.{QueryItem}
use Rattle.wef_query.proofs.Runs.{found, not_found, turned_selecting}
use Rattle.wef_query.proofs.selecting.has_group_in_force.Goals as goal

pub returns-then-is_run_in_force : goal.returns-then-is_run_in_force
returns-then-is_run_in_force c =
    let turn = turned_selecting c.args.channel.now c.args.node.now c.in-Some.ensures.cases.0 (ap (λ (item : QueryItem). item.group) c.first.view_is) c.run_length.ensures.value c.split_at.ensures.front c.split_at.ensures.back c.loop-first.invariant.together in
    found _ turn.0 (sym c.is_run_in_force.ensures ∙ c.if-is_run_in_force.true) ∙ c.loop-first.invariant.selected

pub loop-first-preserved : goal.loop-first-preserved
loop-first-preserved c =
    let turn = turned_selecting c.args.channel.now c.args.node.now c.in-Some.ensures.cases.0 (ap (λ (item : QueryItem). item.group) c.first.view_is) c.run_length.ensures.value c.split_at.ensures.front c.split_at.ensures.back c.loop-first.invariant.together in
    record {
      selected = not_found turn.0 (sym c.is_run_in_force.ensures ∙ c.if-is_run_in_force.false) ∙ c.loop-first.invariant.selected;
      together = turn.1;
    }
