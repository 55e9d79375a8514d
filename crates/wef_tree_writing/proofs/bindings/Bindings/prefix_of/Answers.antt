use Rattle.std.proofs.Common.{◌≡◌, ◌+◌, suc, ◌∙◌, ◌∷◌, [], ap, sym, take, arith}
use Rattle.std.proofs.Math.Seq.{take-suc}
use Rattle.std.specs.Prelude.{reverse}
use Rattle.wef_xml.specs.Prefixes.{bound_by, prefix_of}
use Rattle.wef_tree_writing.specs.Levels.{all_of, prefix_around}
use Rattle.wef_tree_writing.proofs.Apart.{level_told}
use Rattle.wef_tree_writing.proofs.Bound.{level_prefix, reverse_last}
use Rattle.wef_tree_writing.proofs.bindings.Bindings.prefix_of.Goals as goal

pub loop-level-preserved : goal.loop-level-preserved
loop-level-preserved c =
    let items = c.as_slice-level-items.result.now in
    let index = c.loop-level.level-index in
    let level = c.level-item.result in
    let one_more : index + 1 ≡ suc index = omega arith in
    let next : reverse (take (index + 1) items) ≡ level ∷ reverse (take index items) =
    ap (λ n. reverse (take n items)) one_more ∙ ap reverse (take-suc items index level c.loop-level-test.true) ∙ reverse_last (take index items) _
    ∙ ap (λ x. x ∷ reverse (take index items)) (sym c.level-item.is) in
    c.prefix_inside-prefix.ensures ∙ ap (λ o. prefix_around o (bound_by [] level) c.args.space.now) c.loop-level.invariant
    ∙ sym (level_prefix (all_of (reverse (take index items))) level c.args.space.now) ∙ ap (λ levels. prefix_of (all_of levels) c.args.space.now) (sym next)

pub prefix_inside-prefix-requires : goal.prefix_inside-prefix-requires
prefix_inside-prefix-requires c =
    level_told c.args.told c.args.self.now c.as_slice-level-items.result.now c.args.space.now c.loop-level.level-index c.level-item.result
    (sym c.self.view_is ∙ ap reverse (sym c.as_slice-level-items.ensures.value)) c.loop-level-test.true c.level-item.is c.requires
