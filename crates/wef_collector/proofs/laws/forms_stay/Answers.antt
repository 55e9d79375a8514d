use Rattle.wef_collector.proofs.FormsStay.{forms_stay}
use Rattle.wef_collector.proofs.laws.forms_stay.Goals as goal

pub returns : goal.returns
returns c = forms_stay
