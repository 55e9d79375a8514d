use Rattle.std.proofs.Common.{List, ℕ, subst}
use Rattle.wef_machine.specs.Collecting.{collector_opened, collector_opening}
use Rattle.wef_machine.specs.States.{State}
use Rattle.wef_places.specs.Collected.{AsksAs}
use Rattle.wef_world.proofs.Requested.{requested_can_be_sent}
use Rattle.wef_world.proofs.ends.Ends.let_request.Goals as goal
use Rattle.wef_world.specs.contracts.ends.Ends.{the_view}

pub number_requested-requires : goal.number_requested-requires
number_requested-requires c =
    let before : State = the_view c.self.inside in
    let asks = subst (λ (at : List ℕ). AsksAs (collector_opening before.collector) at before.moment (collector_opened before.collector) c.in_ok-asked.asked) c.in_ok-host.ensures.value c.in_ok-asked.ensures.asked in
    requested_can_be_sent before c.args.self.now c.in_ok-asked.asked c.self.view_is c.requires.held asks (c.in_ok-asked.ensures.texts c.in_ok-host.ensures.is_one)
