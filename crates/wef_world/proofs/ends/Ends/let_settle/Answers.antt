use Rattle.std.proofs.Common.{rules, ◌≡◌}
use Rattle.wef_machine.specs.Settling.{asked}
use Rattle.wef_machine.specs.States.{State, declared_names}
use Rattle.wef_places.specs.Settling.{Going, going, going_steps}
use Rattle.wef_world.proofs.Settled.{all_settled}
use Rattle.wef_world.proofs.Used.{done_as}
use Rattle.wef_world.proofs.ends.Ends.let_settle.Goals as goal
use Rattle.wef_world.specs.contracts.ends.Ends.{the_view}

pub returns : goal.returns
returns g c =
    let now : State = the_view c.self.inside in
    let asking : Going = going c.ask_all.new.self (g.A.Answers.calls c.ask_all.new.answers) in
    let named : c.as_slice.result.now ≡ declared_names (the_view c.self.inside) = search rules in
    let asks : (going c.ask_all.new.self (g.A.Answers.calls c.ask_all.new.answers), c.in_ok-asked.asked)
    ≡ asked going_steps c.as_slice.result.now (going (the_view c.self.inside) (g.A.Answers.calls c.args.answers.now)) = search rules in
    let left : c.as_slice-2.result.now ≡ c.in_ok-asked.asked = search rules in
    record {
      goes = done_as c.serve_all.result _ _ _
          (all_settled c.args.self.now c.release.new.self c.lose_all.new.self now (g.A.Answers.calls c.args.answers.now) c.as_slice.result.now c.in_ok-asked.asked c.as_slice-2.result.now asking
          (going c.request_all.new.self (g.A.Answers.calls c.request_all.new.answers)) c.in_ok-release.ensures.state c.in_ok-lose_all.ensures.state c.self.view_is named asks c.in_ok-request_all.ensures.goes left)
          c.serve_all.ensures.goes;
    }
