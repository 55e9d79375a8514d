use Rattle.std.proofs.Common.{ap, ◌∙◌}
use Rattle.std.specs.Prelude.{Some}
use Rattle.wef_machine.specs.Sources.{ask_step}
use Rattle.wef_machine.specs.States.{State, slot_of}
use Rattle.wef_world.proofs.Kept.{asked_can_be_sent}
use Rattle.wef_world.proofs.Ready.{slot_formed}
use Rattle.wef_world.proofs.Used.{asked_comes, asked_state}
use Rattle.wef_world.proofs.ends.Ends.let_ask.Goals as goal
use Rattle.wef_world.specs.Asked.{ask_comes}
use Rattle.wef_world.specs.contracts.ends.Ends.{the_view}

pub ask-requires : goal.ask-requires
ask-requires c = record {
  formed = slot_formed c.args.self.now c.args.source.now c.in-Some.slot.now c.requires.kept (c.in-Some.ensures.slot ∙ ap (λ (state : State). slot_of state c.args.source.now) c.self.view_is);
}

pub send_asked-requires : goal.send_asked-requires
send_asked-requires c =
    asked_can_be_sent (the_view c.self.inside) c.args.self.now c.args.source.now c.in-Some.slot.now c.ask.new.self c.in_ok-asked.asked c.self.view_is c.requires.kept c.in-Some.ensures.slot c.in_ok-asked.ensures

pub returns-clause-state : goal.returns-clause-state
returns-clause-state c =
    c.in_ok-send_asked.ensures.state ∙ asked_state (the_view c.self.inside) c.args.source.now c.in-Some.slot.now c.ask.new.self c.in_ok-asked.asked c.in-Some.ensures.slot c.in_ok-asked.ensures
    ∙ ap (λ (state : State). ask_step state c.args.source.now) c.self.view_is

pub returns-clause-asked : goal.returns-clause-asked
returns-clause-asked c =
    ap Some c.in_ok-send_asked.ensures.asked ∙ asked_comes (the_view c.self.inside) c.args.source.now c.in-Some.slot.now c.ask.new.self c.in_ok-asked.asked c.in-Some.ensures.slot c.in_ok-asked.ensures
    ∙ ap (λ (state : State). ask_comes state c.args.source.now) c.self.view_is
