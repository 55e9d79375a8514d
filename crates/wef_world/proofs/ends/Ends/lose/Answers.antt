use Rattle.std.proofs.Common.{ap, ◌∙◌}
use Rattle.wef_machine.specs.Sources.{lost_step}
use Rattle.wef_machine.specs.States.{Slot, State, slot_of, with_slot}
use Rattle.wef_source.specs.Machine.{lost_in}
use Rattle.wef_world.proofs.Ready.{slot_formed}
use Rattle.wef_world.proofs.Used.{changed_state, where_ok}
use Rattle.wef_world.proofs.ends.Ends.lose.Goals as goal
use Rattle.wef_world.specs.contracts.ends.Ends.{the_view}

pub lose-requires : goal.lose-requires
lose-requires c = record {
  formed = slot_formed c.args.self.now c.args.source.now c.in-Some.slot.now c.requires.kept (c.in-Some.ensures.slot ∙ ap (λ (state : State). slot_of state c.args.source.now) c.self.view_is);
}

pub returns-clause-state : goal.returns-clause-state
returns-clause-state c =
    let before : State = the_view c.self.inside in
    let s = c.args.source.now in
    let u = c.args.sub.now in
    where_ok c.match-branch-2.result
    (ap (λ (slot : Slot). with_slot before s slot) c.in_ok-fate.ensures.slot ∙ changed_state before s c.in-Some.slot.now (λ end. lost_in end u) c.in-Some.ensures.slot ∙ ap (λ (state : State). lost_step state s u) c.self.view_is)
