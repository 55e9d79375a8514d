use Rattle.wef_query_paths.proofs.Readers.{goes_on_behind}
use Rattle.wef_query_paths.proofs.reading.step.Goals as goal

pub returns-in-Ok-take : goal.returns-in-Ok-take
returns-in-Ok-take c = goes_on_behind c.args.reader c.in-Ok-take.longer c.args.text.now c.in-Ok.read.1.now c.behind_spaces-behind.result.now c.in-Ok.read.0 c.in-Ok.ensures c.in-Ok-take.ensures c.behind_spaces-behind.ensures
