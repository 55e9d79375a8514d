use Rattle.std.proofs.Common.{◌≡◌, Some, None}
use Rattle.std.specs.List.{position}
use Rattle.wef_source.specs.Sessions.{answered, waits_for}
use Rattle.wef_source.proofs.Served.{answered_served, read_served}
use Rattle.wef_source.proofs.FirstChanged.{changed_absent, changed_there}
use Rattle.wef_source.proofs.InOrder.{answered_name}
use Rattle.wef_source.proofs.Places.{within_at}
use Rattle.wef_source.proofs.serving.answer_waiting.Goals as goal

pub returns-in_default-clause-there : goal.returns-in_default-clause-there
returns-in_default-clause-there c =
    let none : position (waits_for c.args.id) c.args.sessions.now.items ≡ None = cc in
    (changed_absent (waits_for c.args.id) (answered c.args.answer) c.args.sessions.now.items none).there

pub returns-in_default-clause-changed : goal.returns-in_default-clause-changed
returns-in_default-clause-changed c =
    let none : position (waits_for c.args.id) c.args.sessions.now.items ≡ None = cc in
    (changed_absent (waits_for c.args.id) (answered c.args.answer) c.args.sessions.now.items none).changed

pub returns-clause-there : goal.returns-clause-there
returns-clause-there c =
    let at : position (waits_for c.args.id) c.args.sessions.now.items ≡ Some c.in-Some.place = cc in
    (changed_there (waits_for c.args.id) (answered c.args.answer) (answered_served c.args.answer) (answered_name c.args.answer) c.args.sessions.now.items c.in-Some.place c.index_mut.result.now c.take_answer.new.session at c.requires c.index_mut.ensures.value c.take_answer.ensures).there

pub returns-clause-changed : goal.returns-clause-changed
returns-clause-changed c =
    let at : position (waits_for c.args.id) c.args.sessions.now.items ≡ Some c.in-Some.place = cc in
    (changed_there (waits_for c.args.id) (answered c.args.answer) (answered_served c.args.answer) (answered_name c.args.answer) c.args.sessions.now.items c.in-Some.place c.index_mut.result.now c.take_answer.new.session at c.requires c.index_mut.ensures.value c.take_answer.ensures).changed

pub returns-clause-kept : goal.returns-clause-kept
returns-clause-kept c =
    let at : position (waits_for c.args.id) c.args.sessions.now.items ≡ Some c.in-Some.place = cc in
    (changed_there (waits_for c.args.id) (answered c.args.answer) (answered_served c.args.answer) (answered_name c.args.answer) c.args.sessions.now.items c.in-Some.place c.index_mut.result.now c.take_answer.new.session at c.requires c.index_mut.ensures.value c.take_answer.ensures).kept

pub take_answer-requires : goal.take_answer-requires
take_answer-requires c =
    let at : position (waits_for c.args.id) c.args.sessions.now.items ≡ Some c.in-Some.place = cc in
    read_served c.args.sessions.now.items c.in-Some.place c.index_mut.result.now c.requires.served (within_at (waits_for c.args.id) c.args.sessions.now.items c.in-Some.place at) c.index_mut.ensures.value
