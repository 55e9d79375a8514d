use Rattle.std.proofs.Common.{◌≡◌, ◌<◌, ◌+◌, ◌++◌, [], ◌∷◌, get_or, sym, ap, ◌∙◌, arith, length, length-append}
use Rattle.std.specs.Option.{option_to_list}
use Rattle.wef_keeper.specs.Cells.{found, has, undone}
use Rattle.wef_keeper.proofs.Places.{undone_last}
use Rattle.wef_keeper.proofs.cells.undo.Goals as goal

pub loop-cell-preserved : goal.loop-cell-preserved
loop-cell-preserved c =
    let changes = c.args.changes.now in
    let left = c.pop.new.self.items in
    let popped : c.loop-cell.before.items ≡ left ++ c.in-Some.cell ∷ [] = c.pop.ensures.items ∙ ap (λ cell. left ++ option_to_list cell) c.in-Some.is in
    let count : length c.loop-cell.before.items ≡ length left + 1 = ap length popped ∙ length-append left (c.in-Some.cell ∷ []) in
    let inside : length left < length changes = omega (arith, count, c.loop-cell.invariant.count) in
    record {
      count = omega (arith, inside);
      restored = λ q there. undone_last left changes c.index-changes-len.result q c.in-Some.cell (found c.loop-cell.cells q) (found c.write_back.new.cells q) (has c.loop-cell.cells q) inside
          (c.index-changes-len.is ∙ ap (λ n. get_or changes n c.index-changes-len.result) (c.len.ensures ∙ c.pop.new.self.ok.0)) (c.loop-cell.invariant.rooms q ∙ there) (c.write_back.ensures.found q)
          ∙ sym (ap (λ befores. undone befores changes q (found c.loop-cell.cells q)) popped) ∙ c.loop-cell.invariant.restored q there;
      rooms = λ q. c.write_back.ensures.has q ∙ c.loop-cell.invariant.rooms q;
    }
