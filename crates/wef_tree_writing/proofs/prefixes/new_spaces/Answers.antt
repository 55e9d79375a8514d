use Rattle.std.proofs.Common.{arith, ◌≡◌, ◌+◌, ◌∷◌, ◌∙◌, ap, drop, suc, sym}
use Rattle.std.proofs.Math.Seq.{drop-cons}
use Rattle.wef_xml.specs.Prefixes.{new_spaces}
use Rattle.wef_tree_writing.specs.Levels.{all_of}
use Rattle.wef_tree_writing.proofs.Apart.{new_told, none_found, one_found}
use Rattle.wef_tree_writing.proofs.prefixes.new_spaces.Goals as goal

pub loop-attribute-init : goal.loop-attribute-init
loop-attribute-init c =
    let attributes = c.args.attributes.now in record {
      whole = ap (λ spaces. new_spaces (all_of c.args.bound.now) spaces attributes) c.new-spaces.ensures;
      found = none_found attributes c.new-spaces.result c.new-spaces.ensures;
    }

pub loop-attribute-preserved : goal.loop-attribute-preserved
loop-attribute-preserved c =
    let bound = all_of c.args.bound.now in
    let attributes = c.args.attributes.now in
    let index = c.loop-attribute.attribute-index in
    let a = c.attribute-item.result in
    let further : suc index ≡ index + 1 = omega arith in
    let is : _ = sym c.attribute-item.is in
    let next : drop index attributes ≡ a ∷ drop (index + 1) attributes =
    drop-cons attributes index a c.loop-attribute-test.true ∙ (λ i. is i ∷ drop (further i) attributes) in
    record {
      whole =
          ap (λ spaces. new_spaces bound spaces (drop (index + 1) attributes)) c.in_ok-spaces.ensures
          ∙ sym (ap (λ more. new_spaces bound c.loop-attribute.spaces more) next) ∙ c.loop-attribute.invariant.whole;
      found = one_found bound attributes index a c.loop-attribute.spaces _ c.loop-attribute-test.true c.attribute-item.is c.in_ok-spaces.ensures c.loop-attribute.invariant.found;
    }

pub with_space-requires : goal.with_space-requires
with_space-requires c =
    new_told c.args.told c.args.bound.now c.args.attributes.now c.loop-attribute.attribute-index c.attribute-item.result c.loop-attribute.spaces
    c.loop-attribute-test.true c.attribute-item.is c.loop-attribute.invariant.found c.requires
