use Rattle.std.proofs.Common.{ap, sym, subst, ◌∙◌}
use Rattle.std.specs.FinMap as map
use Rattle.std.specs.Prelude.{Option}
use Rattle.wef_machine.specs.States.{Slot}
use Rattle.wef_places.specs.Slots.{given_by}
use Rattle.wef_deliveries.proofs.Responded.{Answers, request_answered, request_closed}
use Rattle.wef_deliveries.proofs.giving.give_request.Goals as goal
use Rattle.wef_deliveries.specs.Answered.{AnswersSpeltAt, request_heard}
use Rattle.wef_deliveries.specs.Outcomes.{after_request, request_by}

pub response_in-requires : goal.response_in-requires
response_in-requires g c =
    let slot = c.in-Some.slot.now in
    let r = c.args.request.now in
    let came = subst (Answers slot r c.args.now) c.in-Answered.is (c.in_ok-fate.ensures.answer (request_heard r) (c.bytes.ensures.heard c.args.now)) in
    (request_answered slot c.args.source.now r c.args.now c.in-Answered.answer c.bytes.ensures.sent (subst (AnswersSpeltAt r c.args.now) (sym c.in-Some.ensures.slot) c.requires.spelt) came).0

pub returns-in_ok-closed-in-Closed-clause-sources : goal.returns-in_ok-closed-in-Closed-clause-sources
returns-in_ok-closed-in-Closed-clause-sources g c =
    let r = c.args.request.now in
    ap (map.insert c.args.sources.now c.args.source.now) (c.in_ok-fate.ensures.slot (request_heard r) (c.bytes.ensures.heard c.args.now))
    ∙ ap (λ (o : Option Slot). given_by c.args.sources.now c.args.source.now (after_request r c.args.now) o) c.in-Some.ensures.slot

pub returns-in_ok-closed-in-Closed-clause-taken : goal.returns-in_ok-closed-in-Closed-clause-taken
returns-in_ok-closed-in-Closed-clause-taken g c =
    let slot = c.in-Some.slot.now in
    let r = c.args.request.now in
    let came = subst (Answers slot r c.args.now) c.in-Closed.is (c.in_ok-fate.ensures.answer (request_heard r) (c.bytes.ensures.heard c.args.now)) in
    c.in_ok-closed-in-Closed.ensures ∙ request_closed slot c.args.source.now r c.args.now c.in-Closed.fate came ∙ ap (request_by c.args.source.now r c.args.now) c.in-Some.ensures.slot

pub returns-in_ok-response_in-in-Answered-clause-sources : goal.returns-in_ok-response_in-in-Answered-clause-sources
returns-in_ok-response_in-in-Answered-clause-sources g c =
    let r = c.args.request.now in
    ap (map.insert c.args.sources.now c.args.source.now) (c.in_ok-fate.ensures.slot (request_heard r) (c.bytes.ensures.heard c.args.now))
    ∙ ap (λ (o : Option Slot). given_by c.args.sources.now c.args.source.now (after_request r c.args.now) o) c.in-Some.ensures.slot

pub returns-in_ok-response_in-in-Answered-clause-taken : goal.returns-in_ok-response_in-in-Answered-clause-taken
returns-in_ok-response_in-in-Answered-clause-taken g c =
    let slot = c.in-Some.slot.now in
    let r = c.args.request.now in
    let came = subst (Answers slot r c.args.now) c.in-Answered.is (c.in_ok-fate.ensures.answer (request_heard r) (c.bytes.ensures.heard c.args.now)) in
    c.in_ok-response_in-in-Answered.ensures
    ∙ (request_answered slot c.args.source.now r c.args.now c.in-Answered.answer c.bytes.ensures.sent (subst (AnswersSpeltAt r c.args.now) (sym c.in-Some.ensures.slot) c.requires.spelt) came).1
    ∙ ap (request_by c.args.source.now r c.args.now) c.in-Some.ensures.slot
