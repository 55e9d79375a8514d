use Rattle.std.proofs.Common.{sym, ap, ◌∙◌}
use Rattle.std.specs.FinMap as finite
use Rattle.wef_keeper.specs.Cells.{found}
use Rattle.wef_keeper.specs.Rows.{found_after}
use Rattle.wef_keeper.specs.Laws.{get-applied}
use Rattle.wef_keeper.proofs.Live.{get-live, live_is, on_ok, on_err}
use Rattle.wef_keeper.proofs.table.Rows.apply_shared.Goals as goal

pub returns-clause-ok : goal.returns-clause-ok
returns-clause-ok c =
    let before = c.self.inside.cells.entries in
    on_ok c.change_all.result
    (λ changed. live_is c.change_all.new.cells.entries _
    (λ q. changed q
    ∙ ap (λ changes. found_after changes q (found c.self.inside.cells q)) c.as_slice.ensures
    ∙ ap (found_after c.args.changes.now q) (sym (get-live before q) ∙ ap (λ rows. finite.get rows q) c.self.view_is)
    ∙ sym (get-applied c.args.changes.now c.args.self.now q)))
    c.change_all.ensures.ok

pub returns-clause-err : goal.returns-clause-err
returns-clause-err c =
    let before = c.self.inside.cells.entries in
    on_err c.change_all.result
    (λ kept. live_is c.change_all.new.cells.entries _ (λ q. kept q ∙ sym (get-live before q) ∙ ap (λ rows. finite.get rows q) c.self.view_is))
    c.change_all.ensures.err
