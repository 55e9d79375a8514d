use Rattle.std.proofs.Common.{sym, ap, ◌∙◌}
use Rattle.wef_bookmark.specs.Order.{covers_all}
use Rattle.wef_bookmark.proofs.Joining.{covers_decides, entries_of}
use Rattle.std.specs.FinMap as map
use Rattle.wef_bookmark.proofs.marking.Bookmark.covers.Goals as goal

pub returns : goal.returns
returns c =
    let listed = ap map.entries (sym c.other.view_is) ∙ entries_of _ c.other.invariant.0 in
    let is = c.covers_each.ensures ∙ ap (λ m. covers_all m c.other.inside.numbers.entries) c.self.view_is ∙ ap (covers_all c.args.self.now) (sym listed) in
    let decides = covers_decides c.args.self.now c.args.other.now in
    (λ h. decides.0 (sym is ∙ h), λ h. is ∙ decides.1 h)
