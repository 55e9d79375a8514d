use Rattle.wef_query_paths.proofs.Readers.{says_path}
use Rattle.wef_query_paths.proofs.Stopped.{faulty}
use Rattle.wef_query_paths.proofs.reading.read_path.Goals as goal

pub returns-clause-value : goal.returns-clause-value
returns-clause-value c = says_path c.args.text.now c.read_text.result c.read_text.ensures

pub returns-clause-fault : goal.returns-clause-fault
returns-clause-fault c = faulty c.args.text.now c.read_text.result c.read_text.ensures
