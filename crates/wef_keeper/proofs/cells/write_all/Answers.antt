use Rattle.std.proofs.Common.{◌<◌, ◌+◌, ◌||◌, false, refl, sym, ap, ◌∙◌, length, length-append}
use Rattle.wef_keeper.specs.Cells.{has, found, is_put, puts}
use Rattle.wef_keeper.specs.Rows.{found_after}
use Rattle.wef_keeper.proofs.Places.{unnamed_puts, made_nothing, or_first, nothing_left, room_step, undone_written, write_step}
use Rattle.wef_keeper.proofs.cells.write_all.Goals as goal

pub loop-change-preserved : goal.loop-change-preserved
loop-change-preserved c =
    let changes = c.args.changes.now in
    let i = c.loop-change.change-index in
    let item = c.change-item.result in
    let inside : i < length changes = c.loop-change-test.true in
    let was = c.loop-change.invariant in
    let done = c.in_ok-write_kept.ensures in
    record {
      count = ap length done.kept ∙ length-append c.loop-change.before.items _ ∙ ap (λ n. n + 1) was.count;
      restored = λ q. undone_written c.loop-change.cells c.loop-change.before.items c.write_kept.new.before.items changes i item q (found c.write_kept.new.cells q) inside c.change-item.is was.count done.kept
          (done.found q) ∙ was.restored q;
      others = λ q e. done.has q ∙ made_nothing _ _ (ap (λ x. puts x q) c.change-item.is ∙ unnamed_puts changes i item q inside e) ∙ was.others q e;
      grown = λ q e. done.has q ∙ or_first (has c.loop-change.cells q) (puts item q) (was.grown q e);
      written = λ q. write_step changes i item q (found c.loop-change.cells q) (found c.write_kept.new.cells q) inside c.change-item.is (done.found q) ∙ was.written q;
      rooms = λ q. room_step changes i item q (has c.loop-change.cells q) (has c.write_kept.new.cells q) inside c.change-item.is (done.has q) ∙ was.rooms q;
    }

pub returns-clause-found : goal.returns-clause-found
returns-clause-found c =
    let cells = c.loop-change.cells in
    λ q. ap (λ changes. found_after changes q (found cells q)) (sym (nothing_left c.args.changes.now c.loop-change.change-index c.loop-change-test.false)) ∙ c.loop-change.invariant.written q

pub returns-clause-has : goal.returns-clause-has
returns-clause-has c =
    let cells = c.loop-change.cells in
    λ q. sym (made_nothing (has cells q) false refl) ∙ ap (λ changes. has cells q || is_put changes q) (sym (nothing_left c.args.changes.now c.loop-change.change-index c.loop-change-test.false))
    ∙ c.loop-change.invariant.rooms q
