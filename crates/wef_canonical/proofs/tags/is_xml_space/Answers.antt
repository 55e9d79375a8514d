use Rattle.wef_xml.specs.Spaces.{is_xml_space, xml_space}
use Rattle.wef_canonical.proofs.tags.is_xml_space.Goals as goal

pub returns : goal.returns
unfolding is_xml_space xml_space
returns c = c.eq.ensures
