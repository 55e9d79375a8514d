use Rattle.std.proofs.Common.{subst, sym, ap, ◌∙◌, IsSome, IsOk}
use Rattle.std.specs.FinMap as map
use Rattle.wef_xml.proofs.Maps.{get_given}
use Rattle.wef_bookmark.specs.Order.{raised, IsAtMost}
use Rattle.wef_bookmark.specs.Entries.{AreEntries}
use Rattle.wef_bookmark.proofs.Joining.{raised_keeps}
use Rattle.wef_bookmark.proofs.Kept.{raised_kept}
use Rattle.wef_bookmark.proofs.marking.Bookmark.raise.Goals as goal

pub returns-in_err-raise_in-clause-present_succeeds : goal.returns-in_err-raise_in-clause-present_succeeds
returns-in_err-raise_in-clause-present_succeeds c = λ some.
    let there = subst IsSome (ap (λ m. map.get m c.args.channel.now) (sym c.self.view_is) ∙ get_given _ _) some in
    let both = subst IsOk c.in_err-raise_in.was (c.raise_in.ensures.present there) in
    cc

pub returns-clause-keeps : goal.returns-clause-keeps
returns-clause-keeps c =
    let is = c.in_ok-raise_in.ensures.ok ∙ ap (λ m. raised m c.args.channel.now c.args.to) c.self.view_is in
    subst (IsAtMost c.args.self.now) (sym is) (raised_keeps c.args.self.now c.args.channel.now c.args.to)

pub invariant_of-self-2 : goal.invariant_of-self-2
invariant_of-self-2 c = (
  c.raise_in.ensures.ordered,
  subst AreEntries (sym c.in_ok-raise_in.ensures.ok) (raised_kept _ _ _ c.as_text-text.ensures.kept c.requires c.self.invariant.1),
)
