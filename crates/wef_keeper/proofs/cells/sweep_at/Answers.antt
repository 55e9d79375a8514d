use Rattle.std.proofs.Common.{◌≡◌, sym, ap, ◌∙◌, Some, None}
use Rattle.std.specs.BTreeMap.{get}
use Rattle.std.specs.Ordering.{eq_by_cmp}
use Rattle.wef_keeper.specs.Cells.{is_empty_room}
use Rattle.wef_keeper.specs.Rows.{key_cmp}
use Rattle.wef_keeper.proofs.Places.{tied, flat_swept, some_swept, some_unswept, empty_there}
use Rattle.wef_keeper.proofs.cells.sweep_at.Goals as goal

pub returns-then-is_empty_at-clause-found : goal.returns-then-is_empty_at-clause-found
returns-then-is_empty_at-clause-found c =
    let cells = c.args.cells.now in
    let empty : get key_cmp cells c.args.key.now ≡ Some None = empty_there _ (sym c.is_empty_at.ensures ∙ c.if-is_empty_at.true) in
    λ q. flat_swept (eq_by_cmp key_cmp c.args.key.now q) _ (get key_cmp cells q) (c.remove.ensures.updates.0 q) (λ t. tied cells c.args.key.now q t ∙ empty)

pub returns-then-is_empty_at-clause-has : goal.returns-then-is_empty_at-clause-has
returns-then-is_empty_at-clause-has c =
    let cells = c.args.cells.now in
    let empty : get key_cmp cells c.args.key.now ≡ Some None = empty_there _ (sym c.is_empty_at.ensures ∙ c.if-is_empty_at.true) in
    λ q. some_swept (eq_by_cmp key_cmp c.args.key.now q) _ (get key_cmp cells q) (c.remove.ensures.updates.0 q) (λ t. tied cells c.args.key.now q t ∙ empty)

pub returns-else-is_empty_at-clause-has : goal.returns-else-is_empty_at-clause-has
returns-else-is_empty_at-clause-has c =
    let cells = c.args.cells.now in
    λ q. some_unswept (eq_by_cmp key_cmp c.args.key.now q) (get key_cmp cells q)
    (λ t. ap is_empty_room (tied cells c.args.key.now q t) ∙ sym c.is_empty_at.ensures ∙ c.if-is_empty_at.false)
