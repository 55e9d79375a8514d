use Rattle.std.proofs.Common.{sym, ap, ◌∙◌}
use Rattle.std.specs.FinMap as map
use Rattle.wef_bookmark.proofs.Joining.{entries_of}
use Rattle.wef_bookmark.proofs.marking.Bookmark.numbers.Goals as goal

pub returns-clause-entries : goal.returns-clause-entries
returns-clause-entries c = sym (ap map.entries (sym c.self.view_is) ∙ entries_of _ c.self.invariant.0)
