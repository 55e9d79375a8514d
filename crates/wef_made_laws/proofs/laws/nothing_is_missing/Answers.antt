use Rattle.wef_made_laws.proofs.Missing as missing
use Rattle.wef_made_laws.proofs.laws.nothing_is_missing.Goals as goal

pub returns : goal.returns
returns c = missing.nothing_is_missing
