use Rattle.std.proofs.Common.{◌≡◌, cond, Some, ◌∙◌}
use Rattle.std.specs.BTreeMap.{get}
use Rattle.std.specs.Ordering.{eq_by_cmp}
use Rattle.wef_keeper.specs.Rows.{cell_of_row, key_cmp}
use Rattle.wef_keeper.specs.declared.keys.Key.{Key}
use Rattle.wef_keeper.proofs.Places.{flat_put, some_room}
use Rattle.wef_keeper.proofs.cells.put.Goals as goal

updated : (c : goal.After-flatten) (q : Key) → get key_cmp c.insert.new.self q ≡ cond (eq_by_cmp key_cmp c.args.row.now.key q) (Some (Some (cell_of_row c.args.row.now))) (get key_cmp c.args.cells.now q)
updated c q = c.in_ok-insert.ensures.updates.0 q ∙ (λ i. cond (eq_by_cmp key_cmp (c.in_ok-key.ensures i) q) (Some (Some (c.in_ok-cell.ensures i))) (get key_cmp c.args.cells.now q))

pub returns-clause-found : goal.returns-clause-found
returns-clause-found c = λ q. flat_put (eq_by_cmp key_cmp c.args.row.now.key q) _ _ (cell_of_row c.args.row.now) (updated c q)

pub returns-clause-has : goal.returns-clause-has
returns-clause-has c = λ q. some_room (eq_by_cmp key_cmp c.args.row.now.key q) _ _ (cell_of_row c.args.row.now) (updated c q)
