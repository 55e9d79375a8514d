use Rattle.std.proofs.Common.{rules}
use Rattle.wef_xml.proofs.Maps.{get_given}
use Rattle.wef_bookmark.proofs.marking.Bookmark.has.Goals as goal

pub returns : goal.returns
returns c = rw (← c.self.view_is, get_given) (search rules)
