use Rattle.wef_xml.specs.Spaces.{is_xmlns}
use Rattle.wef_canonical.proofs.tags.is_xmlns.Goals as goal

pub returns : goal.returns
unfolding is_xmlns
returns c = c.eq.ensures
