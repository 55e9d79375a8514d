use Rattle.wef_collector_serving.proofs.Counted.{faults_never_fall, internal_errors_raise_faults}
use Rattle.wef_collector_serving.proofs.laws.internal_errors_raise_faults.Goals as goal

pub returns-clause-later : goal.returns-clause-later
returns-clause-later c = faults_never_fall

pub returns-clause-calm : goal.returns-clause-calm
returns-clause-calm c = internal_errors_raise_faults
