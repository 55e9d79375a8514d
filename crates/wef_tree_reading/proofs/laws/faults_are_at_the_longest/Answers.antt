use Rattle.wef_tree_reading.proofs.Readings.{goes_on_to_the_fault}
use Rattle.wef_tree_reading.proofs.Walks.{is_longest}
use Rattle.wef_tree_reading.proofs.laws.faults_are_at_the_longest.Goals as goal

pub returns-clause-goes_on : goal.returns-clause-goes_on
returns-clause-goes_on c = goes_on_to_the_fault

pub returns-clause-longest : goal.returns-clause-longest
returns-clause-longest c = is_longest
