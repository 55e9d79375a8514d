use Rattle.std.proofs.Common.{rules}
use Rattle.wef_xml.proofs.Maps.{get_given}
use Rattle.wef_bookmark.proofs.marking.number_in.Goals as goal

pub returns : goal.returns
returns c = rw get_given (search rules)
