use Rattle.wef_query.proofs.WrittenGood.{written_is_good}
use Rattle.wef_query.proofs.WrittenRead.{written_is_read}
use Rattle.wef_query.proofs.writing.written_is_read_again.Goals as goal

pub returns-clause-says : goal.returns-clause-says
returns-clause-says c = written_is_read

pub returns-clause-good : goal.returns-clause-good
returns-clause-good c = written_is_good
