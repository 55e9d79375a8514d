use Rattle.wef_envelope.proofs.WrittenIsGood.{written_is_good}
use Rattle.wef_envelope.proofs.WrittenIsRead.{written_id_is_found, written_is_read}
use Rattle.wef_envelope.proofs.laws.written_is_read_again.Goals as goal

pub returns-clause-says : goal.returns-clause-says
returns-clause-says c = record { envelope = written_is_read; id = written_id_is_found }

pub returns-clause-good : goal.returns-clause-good
returns-clause-good c = written_is_good
