use Rattle.wef_query_paths.proofs.OneFault.{no_fault}
use Rattle.wef_query_paths.proofs.laws.paths_have_no_fault.Goals as goal

pub returns : goal.returns
returns c = no_fault
