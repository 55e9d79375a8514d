use Rattle.std.proofs.Common.{◌||◌, is_some, sym, ap, ◌∙◌}
use Rattle.wef_keeper.specs.Cells.{has, found, is_deleted, is_put}
use Rattle.wef_keeper.proofs.Places.{some_after, full_written}
use Rattle.wef_keeper.proofs.cells.change_all.Goals as goal

pub returns-clause-settled : goal.returns-clause-settled
returns-clause-settled c =
    let changes = c.args.changes.now in
    let before = c.args.cells.now in
    let done = c.in_default.ensures in
    record {
      ordered = c.sweep_deleted.ensures.ordered;
      full = λ q. full_written (is_deleted changes q) (has c.write_all.new.cells q) _ (found c.write_all.new.cells q) _ (c.sweep_deleted.ensures.has q) (c.sweep_deleted.ensures.found q)
          (λ kept. done.has q ∙ ap (λ b. b || is_put changes q) (c.requires.full q) ∙ sym (some_after changes q (found before q) kept) ∙ sym (ap is_some (done.found q)));
    }
