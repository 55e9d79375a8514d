use Rattle.std.proofs.Common.{sym, subst, ap}
use Rattle.std.specs.FinMap.{from_entries}
use Rattle.wef_bookmark.specs.Entries.{AreEntries}
use Rattle.wef_bookmark.proofs.Joining.{order}
use Rattle.wef_bookmark.proofs.Kept.{empty_kept}
use Rattle.wef_bookmark.proofs.marking.Bookmark.new.Goals as goal

pub invariant_of-result : goal.invariant_of-result
invariant_of-result c = (c.new.ensures.ordered, subst AreEntries (sym (ap (from_entries {R = order}) c.new.ensures.empty)) empty_kept)
