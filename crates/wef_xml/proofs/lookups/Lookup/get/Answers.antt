use Rattle.std.proofs.Common.{rules}
use Rattle.wef_xml.proofs.Maps.{get_given}
use Rattle.wef_xml.proofs.lookups.Lookup.get.Goals as goal

pub returns : goal.returns
returns g c = rw (← c.self.view_is, get_given) (search rules)
