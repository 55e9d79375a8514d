use Rattle.std.proofs.Common.{◌≡◌, ap, subst, ◌∙◌}
use Rattle.wef_base.specs.declared.tree.Charset.TheVariants.{Utf8}
use Rattle.wef_front.proofs.Requests.{one_request_is_heard}
use Rattle.wef_front_source.specs.Replies.{Reply, reply}
use Rattle.wef_front_source.specs.declared.hearing.Heard.{Heard}
use Rattle.wef_http_heads.specs.declared.answers.Answer.{Answer}
use Rattle.wef_machine.specs.Sources.{slot_opened, slot_opening}
use Rattle.wef_machine.specs.States.{Slot}
use Rattle.wef_places.proofs.Heard.{answers_so, changed_so, counts_so}
use Rattle.wef_places.proofs.slots.Slot.answer.Goals as goal
use Rattle.wef_places.specs.Counted.{counted, is_open, once}
use Rattle.wef_places.specs.Slots.{AnswersAs, slot_changed}
use Rattle.wef_places.specs.contracts.slots.Slot.{the_view}
use Rattle.wef_places.specs.declared.places.Used.TheVariants.{Answered}
use Rattle.wef_source.specs.Machine.{End}

pub returns-clause-slot : goal.returns-clause-slot
returns-clause-slot g c = λ heard hears.
    let slot : Slot = the_view c.self.inside in
    let told = c.in_ok-answer.ensures.answer in
    let same = one_request_is_heard c.args.now Utf8 c.args.body.now told.0 heard told.1 hears in
    let is = told.2 ∙ ap (λ (h : Heard). reply c.in-Some.source.now.memory h Utf8 c.args.now) same in
    changed_so slot c.open.new.self c.in-Some.source.now c.in_ok-fate.ensures.opened c.in-Some.ensures.value c.source_answer.new.source (λ end. (reply end heard Utf8 c.args.now).end) c.in_ok-answer.ensures.keeper
    (ap (λ (r : Reply). r.end) is)
    ∙ ap (λ (s : Slot). slot_changed s (λ end. (reply end heard Utf8 c.args.now).end)) c.self.view_is

pub returns-clause-answer : goal.returns-clause-answer
returns-clause-answer g c = λ heard hears.
    let slot : Slot = the_view c.self.inside in
    let told = c.in_ok-answer.ensures.answer in
    let same = one_request_is_heard c.args.now Utf8 c.args.body.now told.0 heard told.1 hears in
    let is = told.2 ∙ ap (λ (h : Heard). reply c.in-Some.source.now.memory h Utf8 c.args.now) same in
    subst (λ (s : Slot). AnswersAs s (λ (end : End) (answer : Answer). answer ≡ (reply end heard Utf8 c.args.now).answer) (Answered c.in_ok-answer.answer)) c.self.view_is
    (answers_so slot c.open.new.self c.in-Some.source.now c.in_ok-fate.ensures.opened c.in-Some.ensures.value (slot_opening slot) (λ end answer. answer ≡ (reply end heard Utf8 c.args.now).answer) c.in_ok-answer.answer
    (ap (λ (r : Reply). r.answer) is))

pub returns-clause-calls : goal.returns-clause-calls
returns-clause-calls g c =
    let slot : Slot = the_view c.self.inside in
    counts_so slot c.open.new.self c.in-Some.source.now c.in_ok-fate.ensures.opened c.in-Some.ensures.value (g.A.Answers.calls c.source_answer.new.self) (g.A.Answers.calls c.args.answers.now) c.in_ok-answer.ensures.calls
    ∙ ap (λ (s : Slot). counted (once (is_open (slot_opened s).place)) (g.A.Answers.calls c.args.answers.now)) c.self.view_is
