use Rattle.std.proofs.Common.{rules, arith, ◌≡◌, Bool, ◌∙◌, OnOk, ap, drop, suc, subst, sym}
use Rattle.wef_tree_writing.specs.Apart.{IsNodeTold}
use Rattle.wef_tree_writing.specs.Markup.{scope_of}
use Rattle.wef_tree_writing.specs.declared.writing.Writer.{Writer}
use Rattle.wef_tree_writing.proofs.Sizes.{child_size, element_size, item_at, nodes_size}
use Rattle.wef_tree_writing.proofs.ToldNodes.{child_told, element_told}
use Rattle.wef_tree_writing.proofs.WrittenNodes.{Inside, element_written, inside_at, node_text, past_child, past_end_of, past_start}
use Rattle.wef_tree_writing.proofs.writing.Writer.+writing.Goals as goal

pub write_node-returns-in-Element-clause-written : goal.write_node-returns-in-Element-clause-written
write_node-returns-in-Element-clause-written t c = rw (node_text _ c.in-Element.element _ c.in-Element.is) c.write_element.ensures.written

pub write_node-returns-in-Element-clause-past : goal.write_node-returns-in-Element-clause-past
write_node-returns-in-Element-clause-past t c = rw (node_text _ c.in-Element.element _ c.in-Element.is) c.write_element.ensures.past

pub write_element-returns-in_err-write_start-clause-past : goal.write_element-returns-in_err-write_start-clause-past
write_element-returns-in_err-write_start-clause-past t c =
    search (rules, past_start c.in_err-write_start.field-0.0 c.args.self.now c.args.first.now c.args.default.now c.args.element.now c.in_err-write_start.ensures.past)

pub write_element-returns-in_err-write_node-clause-past : goal.write_element-returns-in_err-write_node-clause-past
write_element-returns-in_err-write_node-clause-past t c =
    let is : Inside c.args.self.now c.write_start.new.self c.loop-child.self c.args.first.now c.args.default.now _ c.args.element.now c.loop-child.child-index _ =
    inside_at c.in_ok-write_start.ensures.written c.inner_default-inner.ensures c.as_slice-child-items.ensures c.loop-child.invariant in
    let items = c.as_slice-child-items.result.now in
    let index = c.loop-child.child-index in
    let child = c.child-item.result in
    let next = item_at items index child c.loop-child-test.true c.child-item.is in
    search (
      rules,
      past_child c.in_err-write_node.field-0.0 c.args.self.now c.write_start.new.self c.loop-child.self c.args.first.now c.args.default.now
          c.inner_default-inner.result.now c.args.element.now index items child (drop (suc index) items) is next c.in_err-write_node.ensures.past,
    )

pub write_element-returns-clause-written : goal.write_element-returns-clause-written
write_element-returns-clause-written t c =
    let P : Writer → Type 0 = λ w. OnOk c.write_end.result (c.write_end.new.self ≡ w) in
    let is : Inside c.args.self.now c.write_start.new.self c.loop-child.self c.args.first.now c.args.default.now _ c.args.element.now c.loop-child.child-index _ =
    inside_at c.in_ok-write_start.ensures.written c.inner_default-inner.ensures c.as_slice-child-items.ensures c.loop-child.invariant in
    subst P
    (element_written c.args.self.now c.write_start.new.self c.loop-child.self c.args.first.now _ c.args.default.now _ c.args.element.now _ _
    is c.loop-child-test.false c.leave.ensures)
    c.write_end.ensures.written

pub write_element-returns-clause-past : goal.write_element-returns-clause-past
write_element-returns-clause-past t c =
    let is : Inside c.args.self.now c.write_start.new.self c.loop-child.self c.args.first.now c.args.default.now _ c.args.element.now c.loop-child.child-index _ =
    inside_at c.in_ok-write_start.ensures.written c.inner_default-inner.ensures c.as_slice-child-items.ensures c.loop-child.invariant in
    past_end_of c.write_end.result c.args.self.now c.write_start.new.self c.loop-child.self c.args.first.now c.leave.new.self c.args.default.now _ c.args.element.now
    c.loop-child.child-index _ is c.loop-child-test.false c.write_end.ensures.past

pub write_node-write_element-requires : goal.write_node-write_element-requires
write_node-write_element-requires t c =
    let size : _ = element_size c.args.node.now c.in-Element.element c.in-Element.is in
    (omega (arith, size), element_told _ _ _ _ c.in-Element.element c.in-Element.is c.requires)

pub write_element-write_node-requires : goal.write_element-write_node-requires
write_element-write_node-requires t c =
    let items = c.as_slice-child-items.result.now in
    let index = c.loop-child.child-index in
    let child = c.child-item.result in
    let next = item_at items index child c.loop-child-test.true c.child-item.is in
    let w = c.args.self.now in
    let began = c.write_start.new.self in
    let told_is : w.told ≡ c.loop-child.self.told =
    sym (ap (λ (v : Writer). v.told) c.loop-child.invariant.kept ∙ ap (λ (v : Writer). v.told) c.in_ok-write_start.ensures.written) in
    let own_is = ap (λ (v : Writer). v.bound) c.loop-child.invariant.kept ∙ ap (λ (v : Writer). v.bound) c.in_ok-write_start.ensures.written in
    let P : Bool → Type 0 = λ told. IsNodeTold told c.loop-child.self.bound c.inner_default-inner.result.now child in
    let size : _ = child_size items index child (drop (suc index) items) next in
    let all : _ = ap nodes_size c.as_slice-child-items.ensures in (
      omega (arith, size, all),
      subst P told_is
          (child_told w.told w.bound c.loop-child.self.bound (scope_of began c.args.default.now) c.inner_default-inner.result.now c.args.element.now
          index items child (drop (suc index) items) own_is c.inner_default-inner.ensures c.as_slice-child-items.ensures next c.requires),
    )
