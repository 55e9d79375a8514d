use Rattle.wef_source.specs.Machine.{next_id}
use Rattle.wef_front_source.proofs.Texts.{id_good}
use Rattle.wef_front_source.proofs.answering.draw.Goals as goal

pub returns-in-Ok-clause-text : goal.returns-in-Ok-clause-text
returns-in-Ok-clause-text g c = id_good c.in-Ok.id (next_id c.args.source.now.memory) c.in-Ok.ensures.ok.1
