use Rattle.std.proofs.Common.{rules, ◌≡◌, true, ◌∙◌}
use Rattle.wef_machine.specs.Settling.{is_more}
use Rattle.wef_places.specs.Settling.{going}
use Rattle.wef_world.proofs.Counting.{polls_less, polls_on}
use Rattle.wef_world.proofs.ends.Ends.poll_session.Goals as goal

pub polls-smaller : goal.polls-smaller
polls-smaller g c =
    let on : is_more c.in_ok-verdict.verdict ≡ true = search rules in
    polls_less c.args.source.now c.args.sub.now (going c.polls.self (g.A.Answers.calls c.polls.answers)) (going c.poll_one.new.self (g.A.Answers.calls c.poll_one.new.answers)) c.in_ok-verdict.verdict
    c.polls.invariant.held on c.in_ok-verdict.ensures.goes

pub polls-preserved : goal.polls-preserved
polls-preserved g c =
    let on : is_more c.in_ok-verdict.verdict ≡ true = search rules in
    record {
      held = c.in_ok-verdict.ensures.held;
      goes = polls_on c.args.source.now c.args.sub.now (going c.polls.self (g.A.Answers.calls c.polls.answers)) (going c.poll_one.new.self (g.A.Answers.calls c.poll_one.new.answers)) c.in_ok-verdict.verdict
          c.polls.invariant.held on c.in_ok-verdict.ensures.goes ∙ c.polls.invariant.goes;
    }
