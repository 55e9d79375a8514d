use Rattle.std.proofs.Common.{rules, refl}
use Rattle.wef_canonical.proofs.BareTags.{start_ends}
use Rattle.wef_event.proofs.LooseNodes.{element_written, empty_written, text_written, writes_here, writes_over}
use Rattle.wef_event.proofs.loose.+writing.Goals as goal

pub push_element-returns-in-Some : goal.push_element-returns-in-Some
push_element-returns-in-Some t c =
    empty_written c.args.default.now c.args.room c.args.text.now c.in_ok-tag.tag c.in-Some.rest.now _ _ c.if-room-eq0.false c.in_ok-tag.ensures c.in-Some.ensures c.in_ok-push_empty.ensures

pub push_element-returns : goal.push_element-returns
push_element-returns t c =
    element_written c.args.default.now c.args.room c.args.text.now
    (record { name = c.in_ok-tag.tag.name; space = c.in_ok-tag.tag.space; rest = c.in_ok-inside.inside }) c.in_ok-end.end.now c.in_ok-rest.rest.now _ _ _ _ c.if-room-eq0.false
    (start_ends c.args.default.now c.args.text.now c.in_ok-tag.tag (record { name = c.in_ok-tag.tag.name; space = c.in_ok-tag.tag.space; rest = c.in_ok-inside.inside })
    c.in_ok-tag.ensures c.in_ok-inside.ensures refl refl)
    c.in_ok-push_passed.ensures c.in_ok-end.ensures c.in_ok-rest.ensures c.in_ok-push_passed-2.ensures

pub push_nodes-loop-turn-init : goal.push_nodes-loop-turn-init
push_nodes-loop-turn-init t c = (search rules, writes_here c.args.space.now c.args.room c.args.text.now _)

pub push_nodes-loop-turn-preserved : goal.push_nodes-loop-turn-preserved
push_nodes-loop-turn-preserved t c = (
  search rules,
  writes_over c.args.space.now c.args.room c.args.text.now c.loop-turn.rest.now c.behind_text-behind.result.now _ _ _ _ _ c.loop-turn.invariant.1 c.behind_text-behind.ensures
      (c.in_ok-push_passed.ensures c.behind_text-behind.ensures.0 c.behind_text-behind.ensures.2) c.in_ok-rest.ensures,
)

pub push_nodes-returns-then-is_some : goal.push_nodes-returns-then-is_some
push_nodes-returns-then-is_some t c =
    c.loop-turn.invariant.1 c.behind_text-behind.result.now _
    (text_written c.args.space.now c.args.room c.loop-turn.rest.now c.behind_text-behind.result.now _ _ c.behind_text-behind.ensures
    (c.in_ok-push_passed.ensures c.behind_text-behind.ensures.0 c.behind_text-behind.ensures.2))
