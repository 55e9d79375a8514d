use Rattle.wef_places.specs.Collected.{collector_of}
use Rattle.wef_deliveries.proofs.Asked.{ask_taken, ask_written}
use Rattle.wef_deliveries.proofs.taking.take_ask.Goals as goal

pub offers_in-requires : goal.offers_in-requires
offers_in-requires g c =
    ask_written (collector_of c.args.collector.now) c.open.new.collector c.in-Some.running.now c.args.wish.now c.args.source.now c.in_ok-answer.answer c.in_ok-fate.ensures.collector c.in-Some.ensures.value c.requires.own
    c.requires.offered c.in_ok-answer.ensures.answer

pub returns-clause-taken : goal.returns-clause-taken
returns-clause-taken g c =
    ask_taken (collector_of c.args.collector.now) c.open.new.collector c.in-Some.running.now c.args.wish.now c.args.source.now c.in_ok-answer.answer c.in_ok-from_str.field-0 c.in_ok-offered.offered
    c.in_ok-fate.ensures.collector c.in-Some.ensures.value c.requires.own c.requires.offered c.in_ok-answer.ensures.answer c.in_ok-from_str.ensures c.in_ok-offered.ensures
