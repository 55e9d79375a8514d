use Rattle.std.proofs.Common.{◌∙◌}
use Rattle.wef_places.proofs.Settled.{told_by}
use Rattle.wef_places.specs.Collected.{collector_of}
use Rattle.wef_deliveries.proofs.Answered.{note_answered, note_is_written}
use Rattle.wef_deliveries.proofs.taking.take_note.Goals as goal

pub taken_by-requires : goal.taken_by-requires
taken_by-requires g c =
    note_is_written c.args.note.now _ _ c.args.now c.in_ok-answer.answer c.in-Some.running.now.memory c.answer_at.new.collector.memory (told_by c.in-Some.running.now.keeper)
    (told_by c.answer_at.new.collector.keeper) c.bytes.ensures.sent c.bytes.ensures.spelt c.requires.leads c.address.ensures c.bytes.ensures.value c.in_ok-answer.ensures.answer

pub returns-clause-collector : goal.returns-clause-collector
returns-clause-collector g c =
    (note_answered (collector_of c.args.collector.now) c.open.new.collector c.settle_answered-fate.new.self c.in-Some.running.now c.answer_at.new.collector c.args.source.now c.args.note.now _ _ c.args.now
    c.in_ok-answer.answer c.settle_answered-fate.result c.bytes.ensures.sent c.bytes.ensures.spelt c.requires.leads c.address.ensures c.bytes.ensures.value c.in_ok-fate.ensures.collector c.in-Some.ensures.value c.in_ok-fate.ensures.planned
    c.in_ok-fate.ensures.formed c.in_ok-answer.ensures.answer c.settle_answered-fate.ensures.fate c.settle_answered-fate.ensures.settled).0

pub returns-clause-taken : goal.returns-clause-taken
returns-clause-taken g c =
    c.in_ok-taken_by.ensures
    ∙ (note_answered (collector_of c.args.collector.now) c.open.new.collector c.settle_answered-fate.new.self c.in-Some.running.now c.answer_at.new.collector c.args.source.now c.args.note.now _ _ c.args.now
    c.in_ok-answer.answer c.settle_answered-fate.result c.bytes.ensures.sent c.bytes.ensures.spelt c.requires.leads c.address.ensures c.bytes.ensures.value c.in_ok-fate.ensures.collector c.in-Some.ensures.value c.in_ok-fate.ensures.planned
    c.in_ok-fate.ensures.formed c.in_ok-answer.ensures.answer c.settle_answered-fate.ensures.fate c.settle_answered-fate.ensures.settled).1
