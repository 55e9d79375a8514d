use Rattle.std.proofs.Common.{◌≡◌, ap, subst, ◌∙◌}
use Rattle.wef_front_source.specs.HeardReplies.{offers_told, told}
use Rattle.wef_machine.specs.Sources.{slot_opened, slot_opening}
use Rattle.wef_machine.specs.States.{Slot}
use Rattle.wef_places.proofs.Heard.{answers_so, changed_so, counts_so, heard_after, heard_says}
use Rattle.wef_places.proofs.slots.Slot.hear.Goals as goal
use Rattle.wef_places.specs.Counted.{counted, is_open, once}
use Rattle.wef_places.specs.Slots.{HearsAs, after_told, slot_changed, told_heard}
use Rattle.wef_places.specs.contracts.slots.Slot.{the_view}
use Rattle.wef_places.specs.declared.places.Used.TheVariants.{Answered}

pub returns-clause-slot : goal.returns-clause-slot
returns-clause-slot g c =
    let slot : Slot = the_view c.self.inside in
    let reply = told c.args.body.now in
    let offered = offers_told c.args.now c.args.body.now in
    changed_so slot c.open.new.self c.in-Some.source.now c.in_ok-fate.ensures.opened c.in-Some.ensures.value c.source_hears.new.source (after_told reply offered c.args.now) c.in_ok-hears.ensures.keeper
    (heard_after reply offered c.in_ok-hears.hears c.args.now c.in-Some.source.now.memory c.source_hears.new.source.memory c.in_ok-hears.ensures.heard)
    ∙ ap (λ (s : Slot). slot_changed s (after_told reply offered c.args.now)) c.self.view_is

pub returns-clause-answer : goal.returns-clause-answer
returns-clause-answer g c =
    let slot : Slot = the_view c.self.inside in
    let reply = told c.args.body.now in
    let offered = offers_told c.args.now c.args.body.now in
    subst (λ (s : Slot). HearsAs s reply offered c.args.now (Answered c.in_ok-hears.hears)) c.self.view_is
    (answers_so slot c.open.new.self c.in-Some.source.now c.in_ok-fate.ensures.opened c.in-Some.ensures.value (slot_opening slot) (λ end hears. hears ≡ told_heard reply offered c.args.now end) c.in_ok-hears.hears
    (heard_says reply offered c.in_ok-hears.hears c.args.now c.in-Some.source.now.memory c.source_hears.new.source.memory c.in_ok-hears.ensures.heard))

pub returns-clause-calls : goal.returns-clause-calls
returns-clause-calls g c =
    let slot : Slot = the_view c.self.inside in
    counts_so slot c.open.new.self c.in-Some.source.now c.in_ok-fate.ensures.opened c.in-Some.ensures.value (g.A.Answers.calls c.source_hears.new.self) (g.A.Answers.calls c.args.answers.now) c.in_ok-hears.ensures.calls
    ∙ ap (λ (s : Slot). counted (once (is_open (slot_opened s).place)) (g.A.Answers.calls c.args.answers.now)) c.self.view_is
