use Rattle.std.proofs.Common.{◌≡◌, ◌+◌, ◌∷◌, ◌∙◌, drop, suc, sym, arith}
use Rattle.std.proofs.Math.Seq.{drop-cons}
use Rattle.wef_tree_reading.proofs.KnownPieces.{all_known, grows_further}
use Rattle.wef_tree_reading.proofs.known.Known.add_declared.Goals as goal

pub loop-one-preserved : goal.loop-one-preserved
loop-one-preserved c =
    let before = c.loop-one.invariant in
    let index = c.loop-one.one-index in
    let further : suc index ≡ index + 1 = omega arith in
    let given = c.args.given.now in
    let one = c.one-item.result in
    let is : _ = sym c.one-item.is in
    let next : drop index given ≡ one ∷ drop (index + 1) given =
    drop-cons given index one c.loop-one-test.true ∙ (λ i. is i ∷ drop (further i) given) in
    record {
      grows = grows_further c.args.self.now c.loop-one.self c.add_given.new.self before.grows c.in_ok-add_given.ensures.grows;
      knows = all_known c.loop-one.self c.add_given.new.self given one (drop index given) (drop (index + 1) given) next c.in_ok-add_given.ensures.grows before.knows c.in_ok-add_given.ensures.knows;
    }
