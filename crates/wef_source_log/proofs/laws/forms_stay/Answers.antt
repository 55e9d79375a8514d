use Rattle.wef_source_log.proofs.Forming.{forms_stay}
use Rattle.wef_source_log.proofs.laws.forms_stay.Goals as goal

pub returns : goal.returns
returns c = forms_stay
