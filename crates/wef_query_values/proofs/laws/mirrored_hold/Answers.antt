use Rattle.wef_query_values.proofs.Exchanged.{mirrored_hold}
use Rattle.wef_query_values.proofs.laws.mirrored_hold.Goals as goal

pub returns : goal.returns
returns c = mirrored_hold
