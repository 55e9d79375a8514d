use Rattle.std.proofs.Common.{ap, ◌∙◌}
use Rattle.wef_machine.specs.Leasing.{shut_step}
use Rattle.wef_machine.specs.States.{State, slot_of}
use Rattle.wef_world.proofs.Kept.{notes_can_be_told}
use Rattle.wef_world.proofs.Ready.{slot_formed}
use Rattle.wef_world.proofs.Used.{done_as, shut_state}
use Rattle.wef_world.proofs.ends.Ends.shut.Goals as goal
use Rattle.wef_world.specs.contracts.ends.Ends.{the_view}

pub shut-requires : goal.shut-requires
shut-requires c = record {
  formed = slot_formed c.args.self.now c.args.source.now c.in-Some.slot.now c.requires.kept (c.in-Some.ensures.slot ∙ ap (λ (state : State). slot_of state c.args.source.now) c.self.view_is);
}

pub send_shut-requires : goal.send_shut-requires
send_shut-requires c =
    notes_can_be_told (the_view c.self.inside) c.args.self.now c.args.source.now c.in-Some.slot.now c.shut.new.self c.in_ok-shut.shut c.self.view_is c.requires.kept c.in-Some.ensures.slot c.in_ok-shut.ensures.shut c.in_ok-shut.ensures.sent

pub returns-clause-state : goal.returns-clause-state
returns-clause-state c =
    done_as c.send_shut.result c.send_shut.new.self _ _
    (shut_state _ c.args.source.now c.in-Some.slot.now c.shut.new.self c.in_ok-shut.shut c.in-Some.ensures.slot c.in_ok-shut.ensures.shut ∙ ap (λ (state : State). shut_step state c.args.source.now) c.self.view_is)
    c.send_shut.ensures.state
