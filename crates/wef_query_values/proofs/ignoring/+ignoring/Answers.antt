use Rattle.std.proofs.Common.{map, refl, subst}
use Rattle.wef_query_values.specs.Meaning.{holds_and, holds_unit}
use Rattle.wef_query_values.specs.Walk.{AllIgnore}
use Rattle.wef_query_values.proofs.Placeless.{all_ignore, and_ignores, group_ignores, next_ignores, or_ignores}
use Rattle.wef_query_values.proofs.ignoring.+ignoring.Goals as goal

pub and_ignores_place-loop-unit-preserved : goal.and_ignores_place-loop-unit-preserved
and_ignores_place-loop-unit-preserved t c =
    next_ignores holds_unit c.as_slice-unit-items.result.now c.loop-unit.unit-index c.unit-item.result c.unit_ignores_place-in-loop-unit.result
    c.loop-unit-test.true c.unit-item.is c.if-not-unit_ignores_place-2.false c.unit_ignores_place-in-loop-unit.ensures c.loop-unit.invariant

pub and_ignores_place-returns : goal.and_ignores_place-returns
and_ignores_place-returns t c = λ _.
    and_ignores c.args.and.now (c.unit_ignores_place.ensures c.if-not-unit_ignores_place.false)
    (all_ignore holds_unit _ _ c.loop-unit.unit-index c.loop-unit-test.false c.as_slice-unit-items.ensures c.loop-unit.invariant)

pub all_ignore_place-loop-and-preserved : goal.all_ignore_place-loop-and-preserved
all_ignore_place-loop-and-preserved t c =
    next_ignores holds_and c.args.ands.now c.loop-and.and-index c.and-item.result c.and_ignores_place.result
    c.loop-and-test.true c.and-item.is c.if-not-and_ignores_place.false c.and_ignores_place.ensures c.loop-and.invariant

pub all_ignore_place-returns : goal.all_ignore_place-returns
all_ignore_place-returns t c = λ _. all_ignore holds_and _ _ c.loop-and.and-index c.loop-and-test.false refl c.loop-and.invariant

pub or_ignores_place-returns-then-and_ignores_place : goal.or_ignores_place-returns-then-and_ignores_place
or_ignores_place-returns-then-and_ignores_place t c = λ passes.
    or_ignores c.args.or.now (c.and_ignores_place.ensures c.if-and_ignores_place.true)
    (subst (λ ands. AllIgnore (map holds_and ands)) c.as_slice.ensures (c.all_ignore_place.ensures passes))

pub unit_ignores_place-returns-in-Group : goal.unit_ignores_place-returns-in-Group
unit_ignores_place-returns-in-Group t c = λ passes.
    group_ignores c.args.unit.now c.in-Group.or c.get.result.now c.in-Group.is c.get.ensures (c.or_ignores_place.ensures passes)
