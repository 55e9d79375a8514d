use Rattle.std.proofs.Common.{ap, ◌∙◌}
use Rattle.wef_machine.specs.Sources.{write_printed, write_step}
use Rattle.wef_machine.specs.States.{Slot, State, slot_of, with_slot}
use Rattle.wef_world.proofs.Ready.{slot_formed, slot_ready}
use Rattle.wef_world.proofs.Used.{said_as, where_ok, wrote_state, wrote_text}
use Rattle.wef_world.proofs.ends.Ends.write.Goals as goal
use Rattle.wef_world.specs.contracts.ends.Ends.{the_view}

pub write-requires : goal.write-requires
write-requires c =
    let there = c.in-Some.ensures.slot ∙ ap (λ (state : State). slot_of state c.args.source.now) c.self.view_is in
    record {
      formed = slot_formed c.args.self.now c.args.source.now c.in-Some.slot.now c.requires.kept there;
      ready = slot_ready c.args.self.now c.args.source.now c.in-Some.slot.now c.requires.kept there;
    }

pub returns-clause-state : goal.returns-clause-state
returns-clause-state c =
    let before : State = the_view c.self.inside in
    let s = c.args.source.now in
    let event = c.args.event.now in
    where_ok c.written_line.result
    (ap (λ (slot : Slot). with_slot before s slot) c.in_ok-written.ensures.slot ∙ wrote_state before s c.in-Some.slot.now event c.in-Some.ensures.slot ∙ ap (λ (state : State). write_step state s event) c.self.view_is)

pub returns-clause-printed : goal.returns-clause-printed
returns-clause-printed c =
    let before : State = the_view c.self.inside in
    let s = c.args.source.now in
    let event = c.args.event.now in
    said_as c.written_line.result _ _
    (wrote_text before s c.in-Some.slot.now event c.in_ok-written.written c.in-Some.ensures.slot c.in_ok-written.ensures.written ∙ ap (λ (state : State). write_printed state s event) c.self.view_is)
    c.written_line.ensures
