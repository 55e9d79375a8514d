use Rattle.std.proofs.Common.{sym, ap, ◌∙◌}
use Rattle.std.specs.FinMap.{empty, from_entries}
use Rattle.wef_bookmark.specs.Order.{raised_by}
use Rattle.wef_bookmark.proofs.Joining.{entries_of, joined_empty, order}
use Rattle.wef_bookmark.proofs.marking.copied.Goals as goal

pub returns-clause-copy : goal.returns-clause-copy
returns-clause-copy c =
    let given = c.args.given.now.entries in
    c.in_ok-raise_each.ensures.ok
    ∙ ap (λ es. raised_by (from_entries {R = order} es) given) c.new-copy.ensures.empty
    ∙ ap (raised_by empty) (sym (entries_of given c.requires))
    ∙ joined_empty (from_entries given)
