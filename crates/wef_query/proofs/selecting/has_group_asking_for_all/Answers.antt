use Rattle.std.proofs.Common.{ap, sym, ◌∙◌}
use Rattle.wef_query.specs.Items.{QueryItem}
use Rattle.wef_query.proofs.Runs.{found, not_found, turned_asking}
use Rattle.wef_query.proofs.selecting.has_group_asking_for_all.Goals as goal

pub returns-then-is_run_asking_for_all : goal.returns-then-is_run_asking_for_all
returns-then-is_run_asking_for_all c =
    let turn = turned_asking c.args.channel.now c.in-Some.ensures.cases.0 (ap (λ (item : QueryItem). item.group) c.first.view_is) c.run_length.ensures.value c.split_at.ensures.front c.split_at.ensures.back c.loop-first.invariant.together in
    found _ turn.0 (sym c.is_run_asking_for_all.ensures ∙ c.if-is_run_asking_for_all.true) ∙ c.loop-first.invariant.asked

pub loop-first-preserved : goal.loop-first-preserved
loop-first-preserved c =
    let turn = turned_asking c.args.channel.now c.in-Some.ensures.cases.0 (ap (λ (item : QueryItem). item.group) c.first.view_is) c.run_length.ensures.value c.split_at.ensures.front c.split_at.ensures.back c.loop-first.invariant.together in
    record {
      asked = not_found turn.0 (sym c.is_run_asking_for_all.ensures ∙ c.if-is_run_asking_for_all.false) ∙ c.loop-first.invariant.asked;
      together = turn.1;
    }
