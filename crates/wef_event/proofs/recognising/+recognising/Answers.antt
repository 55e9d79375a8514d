use Rattle.std.proofs.Common.{rules, refl}
use Rattle.std.specs.Prelude.{None}
use Rattle.wef_event.proofs.SeenNodes.{element_seen, leads_first, leads_over, leads_to_end}
use Rattle.wef_event.proofs.recognising.+recognising.Invariants.{called}
use Rattle.wef_event.proofs.recognising.+recognising.Goals as goal

pub element_at-returns : goal.element_at-returns
element_at-returns t c =
    element_seen c.args.default.now c.args.room c.args.text.now c.in_ok-start.start c.in_ok-inside.inside
    (record { name = c.in_ok-start.start.name; text = c.in_ok-inside.inside.text; inside = c.in_ok-inside.inside.found; rest = c.in_ok-rest.rest })
    c.if-room-eq0.false c.in_ok-start.ensures c.in_ok-inside.ensures c.in_ok-rest.ensures refl refl refl

pub nodes_at-loop-turn-init : goal.nodes_at-loop-turn-init
nodes_at-loop-turn-init t c = (search rules, leads_first c.args.space.now c.args.room c.args.text.now c.new-found.result c.new-found.ensures)

pub nodes_at-loop-turn-preserved : goal.nodes_at-loop-turn-preserved
nodes_at-loop-turn-preserved t c = (
  search rules,
  leads_over c.args.space.now c.args.room c.args.text.now c.loop-turn.rest.now c.behind_text-behind.result.now _ c.in_ok-found.found c.in_ok-child.child
      c.loop-turn.invariant.1 c.behind_text-behind.ensures c.in_ok-child.ensures (c.in_ok-found.ensures c.in_ok-child.ensures.element c.in_ok-child.ensures.is),
)

pub nodes_at-returns-then-is_some : goal.nodes_at-returns-then-is_some
nodes_at-returns-then-is_some t c =
    leads_to_end c.args.space.now c.args.room c.args.text.now c.loop-turn.rest.now _
    (record { text = None; found = called c.loop-turn.found; rest = c.behind_text-behind.result }) c.loop-turn.invariant.1 c.behind_text-behind.ensures tt refl
