use Rattle.wef_query_paths.proofs.OneFault.{one_fault}
use Rattle.wef_query_paths.proofs.laws.texts_have_one_fault.Goals as goal

pub returns : goal.returns
returns c = one_fault
