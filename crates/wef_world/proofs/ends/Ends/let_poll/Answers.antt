use Rattle.std.proofs.Common.{ap, ◌∙◌}
use Rattle.std.specs.Prelude.{Some}
use Rattle.wef_machine.specs.Sources.{poll_step}
use Rattle.wef_machine.specs.States.{State, slot_of}
use Rattle.wef_world.proofs.Kept.{polled_can_be_sent}
use Rattle.wef_world.proofs.Ready.{slot_formed}
use Rattle.wef_world.proofs.Used.{polled_comes, polled_state}
use Rattle.wef_world.proofs.ends.Ends.let_poll.Goals as goal
use Rattle.wef_world.specs.Asked.{poll_comes}
use Rattle.wef_world.specs.contracts.ends.Ends.{the_view}

pub poll-requires : goal.poll-requires
poll-requires c = record {
  formed = slot_formed c.args.self.now c.args.source.now c.in-Some.slot.now c.requires.kept (c.in-Some.ensures.slot ∙ ap (λ (state : State). slot_of state c.args.source.now) c.self.view_is);
}

pub send_polled-requires : goal.send_polled-requires
send_polled-requires c =
    polled_can_be_sent (the_view c.self.inside) c.args.self.now c.args.source.now c.args.sub.now c.in-Some.slot.now c.poll.new.self _ c.in_ok-polled.polled c.self.view_is c.requires.kept c.in-Some.ensures.slot c.in_ok-polled.ensures

pub returns-clause-state : goal.returns-clause-state
returns-clause-state c =
    c.in_ok-send_polled.ensures.state
    ∙ polled_state (the_view c.self.inside) c.args.source.now c.args.sub.now c.in-Some.slot.now c.poll.new.self c.in_ok-polled.polled c.in-Some.ensures.slot c.in_ok-polled.ensures
    ∙ ap (λ (state : State). poll_step state c.args.source.now c.args.sub.now) c.self.view_is

pub returns-clause-polled : goal.returns-clause-polled
returns-clause-polled c =
    ap Some c.in_ok-send_polled.ensures.polled
    ∙ polled_comes (the_view c.self.inside) c.args.source.now c.args.sub.now c.in-Some.slot.now c.poll.new.self c.in_ok-polled.polled c.in-Some.ensures.slot c.in_ok-polled.ensures
    ∙ ap (λ (state : State). poll_comes state c.args.source.now c.args.sub.now) c.self.view_is
