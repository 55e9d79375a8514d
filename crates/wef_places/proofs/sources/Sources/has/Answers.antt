use Rattle.std.proofs.Common.{rules}
use Rattle.wef_machine.proofs.Declared.{among_declared}
use Rattle.wef_machine.proofs.NameMaps.{get_given}
use Rattle.wef_places.proofs.sources.Sources.has.Goals as goal

pub returns : goal.returns
returns c = rw (among_declared c.args.self.now c.args.name.now, ← c.self.view_is, get_given) (search rules)
