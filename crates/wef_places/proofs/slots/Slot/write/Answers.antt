use Rattle.std.proofs.Common.{true, false, ap, subst, sym, ◌∙◌}
use Rattle.wef_machine.specs.Sources.{slot_opened}
use Rattle.wef_machine.specs.States.{Slot}
use Rattle.wef_places.proofs.Written.{wrote, wrote_slot}
use Rattle.wef_places.proofs.slots.Slot.write.Goals as goal
use Rattle.wef_places.specs.Recorded.{is_recorded}
use Rattle.wef_places.specs.Slots.{IsReady, WritesAs, slot_wrote}
use Rattle.wef_places.specs.contracts.slots.Slot.{the_view}
use Rattle.wef_places.specs.declared.places.Used.TheVariants.{Answered}

pub returns-in_ok-record-clause-slot : goal.returns-in_ok-record-clause-slot
returns-in_ok-record-clause-slot c =
    let slot : Slot = the_view c.self.inside in
    let ready = subst (λ (s : Slot). IsReady (slot_opened s)) (sym c.self.view_is) c.requires.ready in
    let done = wrote slot c.args.event.now c.open.new.self c.settle_call.new.self c.in-Some.source.now c.write-answer.new.self c.write-answer.result c.in_ok-called.called ready c.in_ok-fate.ensures.opened c.in-Some.ensures.value
    c.in_ok-fate.ensures.planned c.write-answer.ensures.call c.write-answer.ensures.memory c.in_ok-called.ensures in
    c.in_ok-record.ensures
    ∙ wrote_slot slot c.args.event.now c.in_ok-called.called c.open.new.self c.settle_call.new.self true ready done (sym c.if-is_recorded.true ∙ c.is_recorded.ensures ∙ ap (is_recorded c.in_ok-called.called) c.keeps-is_kept.ensures)
    ∙ ap (λ (s : Slot). slot_wrote s c.args.event.now) c.self.view_is

pub returns-in_ok-record-clause-written : goal.returns-in_ok-record-clause-written
returns-in_ok-record-clause-written c =
    let slot : Slot = the_view c.self.inside in
    let ready = subst (λ (s : Slot). IsReady (slot_opened s)) (sym c.self.view_is) c.requires.ready in
    let done = wrote slot c.args.event.now c.open.new.self c.settle_call.new.self c.in-Some.source.now c.write-answer.new.self c.write-answer.result c.in_ok-called.called ready c.in_ok-fate.ensures.opened c.in-Some.ensures.value
    c.in_ok-fate.ensures.planned c.write-answer.ensures.call c.write-answer.ensures.memory c.in_ok-called.ensures in
    subst (λ (s : Slot). WritesAs s c.args.event.now (Answered c.in_ok-called.called)) c.self.view_is done.came

pub returns-else-is_recorded-clause-slot : goal.returns-else-is_recorded-clause-slot
returns-else-is_recorded-clause-slot c =
    let slot : Slot = the_view c.self.inside in
    let ready = subst (λ (s : Slot). IsReady (slot_opened s)) (sym c.self.view_is) c.requires.ready in
    let done = wrote slot c.args.event.now c.open.new.self c.settle_call.new.self c.in-Some.source.now c.write-answer.new.self c.write-answer.result c.in_ok-called.called ready c.in_ok-fate.ensures.opened c.in-Some.ensures.value
    c.in_ok-fate.ensures.planned c.write-answer.ensures.call c.write-answer.ensures.memory c.in_ok-called.ensures in
    wrote_slot slot c.args.event.now c.in_ok-called.called c.open.new.self c.settle_call.new.self false ready done (sym c.if-is_recorded.false ∙ c.is_recorded.ensures ∙ ap (is_recorded c.in_ok-called.called) c.keeps-is_kept.ensures)
    ∙ ap (λ (s : Slot). slot_wrote s c.args.event.now) c.self.view_is

pub returns-else-is_recorded-clause-written : goal.returns-else-is_recorded-clause-written
returns-else-is_recorded-clause-written c =
    let slot : Slot = the_view c.self.inside in
    let ready = subst (λ (s : Slot). IsReady (slot_opened s)) (sym c.self.view_is) c.requires.ready in
    let done = wrote slot c.args.event.now c.open.new.self c.settle_call.new.self c.in-Some.source.now c.write-answer.new.self c.write-answer.result c.in_ok-called.called ready c.in_ok-fate.ensures.opened c.in-Some.ensures.value
    c.in_ok-fate.ensures.planned c.write-answer.ensures.call c.write-answer.ensures.memory c.in_ok-called.ensures in
    subst (λ (s : Slot). WritesAs s c.args.event.now (Answered c.in_ok-called.called)) c.self.view_is done.came
