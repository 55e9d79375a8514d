use Rattle.std.proofs.Common.{rules, sym, subst}
use Rattle.wef_bodies.specs.Laws.{IsXmlId}
use Rattle.wef_ids.proofs.PlainIds.{id_text_good}
use Rattle.wef_ids.specs.Ids.{next_id}
use Rattle.wef_replies.proofs.IdTexts.{drawn_spelt}
use Rattle.wef_front_collector.proofs.answering.draw.Goals as goal

pub returns-in-Ok-clause-spelt : goal.returns-in-Ok-clause-spelt
returns-in-Ok-clause-spelt g c = drawn_spelt c.in-Ok.id (next_id c.args.collector.now.memory.ids) (search rules) c.in-Ok.ensures.id

pub returns-in-Ok-clause-text : goal.returns-in-Ok-clause-text
returns-in-Ok-clause-text g c = subst IsXmlId (sym c.in-Ok.ensures.id) (id_text_good (next_id c.args.collector.now.memory.ids))
