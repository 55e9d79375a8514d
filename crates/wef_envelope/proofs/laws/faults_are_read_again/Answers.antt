use Rattle.wef_envelope.proofs.FaultsAreGood.{faults_are_good}
use Rattle.wef_envelope.proofs.FaultsAreRead.{faults_are_read}
use Rattle.wef_envelope.proofs.laws.faults_are_read_again.Goals as goal

pub returns-clause-read : goal.returns-clause-read
returns-clause-read c = faults_are_read

pub returns-clause-good : goal.returns-clause-good
returns-clause-good c = faults_are_good
