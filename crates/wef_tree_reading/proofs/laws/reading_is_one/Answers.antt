use Rattle.wef_tree_reading.proofs.Functions.{is_spelt}
use Rattle.wef_tree_reading.proofs.Readings.{has_no_fault, has_one_fault, has_one_root, is_decoded}
use Rattle.wef_tree_reading.proofs.laws.reading_is_one.Goals as goal

pub returns-clause-root : goal.returns-clause-root
returns-clause-root c = has_one_root

pub returns-clause-no_fault : goal.returns-clause-no_fault
returns-clause-no_fault c = has_no_fault

pub returns-clause-charset : goal.returns-clause-charset
returns-clause-charset c = is_decoded

pub returns-clause-fault : goal.returns-clause-fault
returns-clause-fault c = has_one_fault

pub returns-clause-spelt : goal.returns-clause-spelt
returns-clause-spelt c = is_spelt
