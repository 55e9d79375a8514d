use Rattle.wef_query_values.proofs.Stripped.{stripped}
use Rattle.wef_query_values.proofs.texts.strip_bytes.Goals as goal

pub returns : goal.returns
returns c = stripped c.args.front.now c.args.bytes.now _ c.strip_prefix.ensures.cases
