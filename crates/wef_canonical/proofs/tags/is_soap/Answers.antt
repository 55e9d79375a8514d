use Rattle.wef_xml.specs.Prefixes.{is_soap, soap_space}
use Rattle.wef_canonical.proofs.tags.is_soap.Goals as goal

pub returns : goal.returns
unfolding is_soap soap_space
returns c = c.eq.ensures
