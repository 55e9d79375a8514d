use Rattle.std.proofs.Common.{rules, ◌≡◌, true, ◌∙◌}
use Rattle.wef_places.specs.Settling.{going}
use Rattle.wef_world.proofs.Counting.{requests_less, requests_on}
use Rattle.wef_world.proofs.ends.Ends.request_all.Goals as goal

pub requests-smaller : goal.requests-smaller
requests-smaller g c =
    let on : c.in_ok-goes.goes ≡ true = search rules in
    requests_less (going c.requests.self (g.A.Answers.calls c.requests.answers)) (going c.request_one.new.self (g.A.Answers.calls c.request_one.new.answers)) c.in_ok-goes.goes c.requests.invariant.held on c.in_ok-goes.ensures.goes

pub requests-preserved : goal.requests-preserved
requests-preserved g c =
    let on : c.in_ok-goes.goes ≡ true = search rules in
    record {
      held = c.in_ok-goes.ensures.held;
      goes = requests_on (going c.requests.self (g.A.Answers.calls c.requests.answers)) (going c.request_one.new.self (g.A.Answers.calls c.request_one.new.answers)) c.in_ok-goes.goes c.requests.invariant.held on c.in_ok-goes.ensures.goes
          ∙ c.requests.invariant.goes;
    }
