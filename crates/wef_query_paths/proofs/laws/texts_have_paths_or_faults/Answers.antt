use Rattle.wef_query_paths.proofs.Stopped.{path_or_its_fault}
use Rattle.wef_query_paths.proofs.laws.texts_have_paths_or_faults.Goals as goal

pub returns : goal.returns
returns c = path_or_its_fault
