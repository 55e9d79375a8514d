use Rattle.std.proofs.Common.{◌≡◌, ◌+◌, ◌≤◌, true, false, ◌&&◌, ◌||◌, length, map, take, sym, ◌∙◌, ap, subst, arith}
use Rattle.std.specs.List.{list_all, list_any, sum_by}
use Rattle.wef_query_paths.specs.declared.path.And.{out-And}
use Rattle.wef_query_paths.specs.declared.path.Or.{out-Or}
use Rattle.wef_query_paths.specs.declared.path.Predicate.TheVariants.{At}
use Rattle.wef_query_values.specs.Places.{plain}
use Rattle.wef_query_values.specs.Meaning.{alone, given, goes, holds, holds_and, holds_unit, nodes}
use Rattle.wef_query_values.specs.Walk.{AllIgnore, ahead, leaves, tests}
use Rattle.wef_query_values.specs.Wanted.{is_wanted}
use Rattle.wef_query_values.specs.Weights.{and_weight, predicate_weight, unit_weight}
use Rattle.wef_query_values.proofs.Ahead.{ahead_none, ahead_some}
use Rattle.wef_query_values.proofs.Counting.{counted_gone, counted_here, counted_next, counted_start, left_at_most}
use Rattle.wef_query_values.proofs.Layers.{given_nodes, holds_and_by, holds_or_by}
use Rattle.wef_query_values.proofs.Leaving.{any_node, leaves_gone, tests_gone}
use Rattle.wef_query_values.proofs.Turns.{left_goes, left_passes, left_skipped, left_start, left_stays, none_passes, none_reached, none_skipped, none_start, none_reached_at_all, none_stays, passed, passes_next, reached, stays_all, stays_next}
use Rattle.wef_query_values.proofs.Weighing.{and_weighs, fewer_weigh, no_more_weigh, or_weighs, part_weighs}
use Rattle.wef_query_values.proofs.walk.+walk.Goals as goal

pub is_and_held-loop-unit-init : goal.is_and_held-loop-unit-init
is_and_held-loop-unit-init t c =
    ap (list_all (λ u. holds_unit u (plain c.args.node) c.args.place)) c.as_slice-unit-items.ensures
    ∙ sym (holds_and_by c.args.and.now (plain c.args.node) c.args.place ∙ ap (λ b. b && list_all (λ u. holds_unit u (plain c.args.node) c.args.place) (out-And c.args.and.now).rest) (sym c.is_unit_held.ensures ∙ c.if-not-is_unit_held.false))

pub is_and_held-is_unit_held-requires-in-loop-unit : goal.is_and_held-is_unit_held-requires-in-loop-unit
is_and_held-is_unit_held-requires-in-loop-unit t c =
    let lighter : _ = part_weighs unit_weight _ _ c.loop-unit.unit-index c.unit-item.result _ _ c.loop-unit-test.true c.unit-item.is c.as_slice-unit-items.ensures (and_weighs c.args.and.now) in (omega (arith, lighter), tt)

pub is_or_held-loop-and-init : goal.is_or_held-loop-and-init
is_or_held-loop-and-init t c =
    ap (list_any (λ a. holds_and a (plain c.args.node) c.args.place)) c.as_slice-and-items.ensures
    ∙ sym (holds_or_by c.args.or.now (plain c.args.node) c.args.place ∙ ap (λ b. b || list_any (λ a. holds_and a (plain c.args.node) c.args.place) (out-Or c.args.or.now).rest) (sym c.is_and_held.ensures ∙ c.if-is_and_held.false))

pub is_or_held-is_and_held-requires-in-loop-and : goal.is_or_held-is_and_held-requires-in-loop-and
is_or_held-is_and_held-requires-in-loop-and t c =
    let lighter : _ = part_weighs and_weight _ _ c.loop-and.and-index c.and-item.result _ _ c.loop-and-test.true c.and-item.is c.as_slice-and-items.ensures (or_weighs c.args.or.now) in (omega (arith, lighter), tt)

pub is_there-returns-in-Nodes : goal.is_there-returns-in-Nodes
is_there-returns-in-Nodes t c = λ place. c.finds.ensures ∙ any_node (nodes c.in-Nodes.path (plain c.args.node)) ∙ ap (λ v. alone v (plain c.args.node) place) (sym (ap given c.in-Nodes.is ∙ given_nodes c.in-Nodes.path))

pub passes-returns-then-not-is_held : goal.passes-returns-then-not-is_held
passes-returns-then-not-is_held t c = λ xs.
    sym (leaves_gone c.args.predicates.now (c.loop-predicate.predicate-index + 1) xs (plain c.args.node)
    (passes_next c.args.predicates.now c.loop-predicate.predicate-index c.predicate-item.result xs (plain c.args.node) c.is_held.result
    c.loop-predicate-test.true c.predicate-item.is c.requires (c.loop-predicate.invariant xs) c.is_held.ensures ∙ c.if-not-is_held.true))

pub passes-loop-predicate-preserved : goal.passes-loop-predicate-preserved
passes-loop-predicate-preserved t c = λ xs.
    passes_next c.args.predicates.now c.loop-predicate.predicate-index c.predicate-item.result xs (plain c.args.node) c.is_held.result
    c.loop-predicate-test.true c.predicate-item.is c.requires (c.loop-predicate.invariant xs) c.is_held.ensures ∙ c.if-not-is_held.false

pub reaches-returns-then-goes_on : goal.reaches-returns-then-goes_on
reaches-returns-then-goes_on t c =
    sym (reached (is_wanted c.args.wanted) (map goes c.args.rest.now) c.args.first.now (plain c.args.spot) c.loop-at.at (plain c.in-Some.node)
    (ahead_some c.args.first.now (plain c.args.spot) c.loop-at.at (plain c.in-Some.node) c.in-Some.ensures)
    (stays_all c.args.first.now c.as_slice-predicates.result.now _ _ c.stays.result true c.as_slice-predicates.ensures c.stays.ensures.value c.if-not-stays.false)
    (sym c.goes_on.ensures ∙ c.if-goes_on.true))

pub reaches-returns : goal.reaches-returns
reaches-returns t c =
    sym (none_reached_at_all (is_wanted c.args.wanted) (map goes c.args.rest.now) c.args.first.now (plain c.args.spot) c.loop-at.at
    (subst (λ n. n ≤ c.loop-at.at) (c.slot_count-at-end.ensures c.args.first.now.test) c.loop-at-test.false) c.loop-at.invariant.none)

pub reaches-loop-at-init : goal.reaches-loop-at-init
reaches-loop-at-init t c = none_start (is_wanted c.args.wanted) (map goes c.args.rest.now) c.args.first.now (plain c.args.spot) c.ignoring_count-counting.result (length c.as_slice-predicates.result.now) 16

pub reaches-loop-at-preserved-in_default : goal.reaches-loop-at-preserved-in_default
reaches-loop-at-preserved-in_default t c =
    none_skipped (is_wanted c.args.wanted) (map goes c.args.rest.now) c.args.first.now (plain c.args.spot) c.ignoring_count-counting.result (length c.as_slice-predicates.result.now) c.loop-at.counts c.loop-at.at c.loop-at.invariant (ahead_none c.args.first.now (plain c.args.spot) c.loop-at.at c.in_default.ensures)

pub reaches-loop-at-preserved-then-not-passes : goal.reaches-loop-at-preserved-then-not-passes
reaches-loop-at-preserved-then-not-passes t c =
    none_passes (is_wanted c.args.wanted) (map goes c.args.rest.now) c.args.first.now (plain c.args.spot) c.ignoring_count-counting.result (length c.as_slice-predicates.result.now) c.loop-at.counts c.loop-at.at (plain c.in-Some.node) c.loop-at.invariant
    (ahead_some c.args.first.now (plain c.args.spot) c.loop-at.at (plain c.in-Some.node) c.in-Some.ensures)
    (passed c.args.first.now c.ignoring_count-counting.result _ _ _ c.passes.result false c.as_slice-predicates.ensures (c.passes.ensures (ahead c.args.first.now (plain c.args.spot) c.loop-at.at)) c.if-not-passes.true)

pub reaches-loop-at-preserved-then-not-stays : goal.reaches-loop-at-preserved-then-not-stays
reaches-loop-at-preserved-then-not-stays t c =
    none_stays (is_wanted c.args.wanted) (map goes c.args.rest.now) c.args.first.now (plain c.args.spot) c.ignoring_count-counting.result (length c.as_slice-predicates.result.now) c.loop-at.counts c.stays.new.counts c.loop-at.at (plain c.in-Some.node) c.loop-at.invariant
    (ahead_some c.args.first.now (plain c.args.spot) c.loop-at.at (plain c.in-Some.node) c.in-Some.ensures)
    c.stays.ensures.counts
    (stays_all c.args.first.now c.as_slice-predicates.result.now _ _ c.stays.result false c.as_slice-predicates.ensures c.stays.ensures.value c.if-not-stays.true)

pub reaches-loop-at-preserved : goal.reaches-loop-at-preserved
reaches-loop-at-preserved t c =
    none_reached (is_wanted c.args.wanted) (map goes c.args.rest.now) c.args.first.now (plain c.args.spot) c.ignoring_count-counting.result (length c.as_slice-predicates.result.now) c.loop-at.counts c.stays.new.counts c.loop-at.at (plain c.in-Some.node) c.loop-at.invariant
    (ahead_some c.args.first.now (plain c.args.spot) c.loop-at.at (plain c.in-Some.node) c.in-Some.ensures)
    c.stays.ensures.counts
    (sym c.goes_on.ensures ∙ c.if-goes_on.false)

pub left_before-loop-before-init : goal.left_before-loop-before-init
left_before-loop-before-init t c = left_start c.args.step.now (plain c.args.spot) c.args.counting c.args.end 256

pub left_before-loop-before-preserved-in_default : goal.left_before-loop-before-preserved-in_default
left_before-loop-before-preserved-in_default t c =
    left_skipped c.args.step.now (plain c.args.spot) c.args.counting c.args.end c.loop-before.counts c.loop-before.left c.loop-before.before c.loop-before.invariant (ahead_none c.args.step.now (plain c.args.spot) c.loop-before.before c.in_default.ensures)

pub left_before-passes-requires : goal.left_before-passes-requires
left_before-passes-requires t c =
    let fewer : _ = no_more_weigh c.args.step.now.predicates c.args.counting c.args.end c.requires.starts in
    let same : _ = ap (λ ps. sum_by predicate_weight (take c.args.counting ps)) c.as_slice-predicates.ensures in
    (omega (arith, fewer, same), subst (λ ps. AllIgnore (map holds (take c.args.counting ps))) (sym c.as_slice-predicates.ensures) c.requires.ignore)

pub left_before-loop-before-preserved-then-not-passes : goal.left_before-loop-before-preserved-then-not-passes
left_before-loop-before-preserved-then-not-passes t c =
    left_passes c.args.step.now (plain c.args.spot) c.args.counting c.args.end c.loop-before.counts c.loop-before.left c.loop-before.before (plain c.in-Some.node) c.requires.starts c.loop-before.invariant
    (ahead_some c.args.step.now (plain c.args.spot) c.loop-before.before (plain c.in-Some.node) c.in-Some.ensures)
    (passed c.args.step.now c.args.counting _ _ _ c.passes.result false c.as_slice-predicates.ensures (c.passes.ensures (ahead c.args.step.now (plain c.args.spot) c.loop-before.before)) c.if-not-passes.true)

pub left_before-overflow_add-left : goal.left_before-overflow_add-left
left_before-overflow_add-left t c =
    let few : _ = left_at_most c.args.step.now (plain c.args.spot) c.args.end c.loop-before.left c.loop-before.before c.loop-before.invariant.stay in omega (arith, few, c.loop-before-test.true, c.ranges.at)

pub left_before-returns-clause-within : goal.left_before-returns-clause-within
left_before-returns-clause-within t c =
    let few : _ = left_at_most c.args.step.now (plain c.args.spot) c.args.end c.loop-before.left c.loop-before.before c.loop-before.invariant.stay in omega (arith, few, c.loop-before.auto.before-end)

pub left_before-loop-before-preserved-then-not-stays : goal.left_before-loop-before-preserved-then-not-stays
left_before-loop-before-preserved-then-not-stays t c =
    left_goes c.args.step.now (plain c.args.spot) c.args.counting c.args.end c.loop-before.counts c.stays.new.counts c.loop-before.left c.loop-before.before (plain c.in-Some.node) c.loop-before.invariant
    (ahead_some c.args.step.now (plain c.args.spot) c.loop-before.before (plain c.in-Some.node) c.in-Some.ensures)
    c.stays.ensures.counts
    (sym c.stays.ensures.value ∙ c.if-not-stays.true)

pub left_before-loop-before-preserved : goal.left_before-loop-before-preserved
left_before-loop-before-preserved t c =
    left_stays c.args.step.now (plain c.args.spot) c.args.counting c.args.end c.loop-before.counts c.stays.new.counts c.loop-before.left c.loop-before.before (plain c.in-Some.node) c.loop-before.invariant
    (ahead_some c.args.step.now (plain c.args.spot) c.loop-before.before (plain c.in-Some.node) c.in-Some.ensures)
    c.stays.ensures.counts
    (sym c.stays.ensures.value ∙ c.if-not-stays.false)

pub stays-loop-index-init : goal.stays-loop-index-init
stays-loop-index-init t c = counted_start c.args.step.now c.args.counting c.args.end (ahead c.args.step.now (plain c.args.spot) c.args.at) (plain c.args.node) _ c.requires.stands c.requires.counts

pub stays-next_place-place-requires : goal.stays-next_place-place-requires
stays-next_place-place-requires t c =
    let fewer : _ = fewer_weigh c.args.step.now.predicates c.loop-index.index c.args.end (At 0) c.loop-index-test.true c.requires.ends in
    (omega (arith, fewer), (omega arith, (omega (arith, c.requires.ends), (c.requires.room, (c.requires.ignore, counted_here c.args.step.now c.args.counting c.args.end c.loop-index.index _ _ c.loop-index.counts c.loop-index.invariant (omega arith) c.loop-index-test.true)))))

pub stays-returns-then-not-is_held : goal.stays-returns-then-not-is_held
stays-returns-then-not-is_held t c =
    let gone : leaves (tests c.args.step.now (c.loop-index.index + 1)) (ahead c.args.step.now (plain c.args.spot) c.args.at) (plain c.args.node) ≡ false = stays_next c.args.step.now c.loop-index.index c.as_slice-predicates.result.now c.index-predicates-index.result _ _ c.next_place-place.result c.is_held.result c.as_slice-predicates.ensures
    (omega (arith, c.requires.ends)) c.index-predicates-index.is c.loop-index.invariant.stays (c.next_place-place.ensures.place (plain c.args.node) c.index-predicates-index.result) c.is_held.ensures
    ∙ c.if-not-is_held.true in
    record {
      value = sym (tests_gone c.args.step.now (c.loop-index.index + 1) c.args.end (ahead c.args.step.now (plain c.args.spot) c.args.at) (plain c.args.node) (omega arith) gone);
      counts = counted_gone c.args.step.now c.args.counting c.args.end c.loop-index.index (ahead c.args.step.now (plain c.args.spot) c.args.at) (plain c.args.node) c.loop-index.counts c.next_place-place.new.counts c.loop-index.invariant (omega arith) c.loop-index-test.true c.next_place-place.ensures.counts gone;
    }

pub stays-loop-index-preserved : goal.stays-loop-index-preserved
stays-loop-index-preserved t c =
    counted_next c.args.step.now c.args.counting c.args.end c.loop-index.index (ahead c.args.step.now (plain c.args.spot) c.args.at) (plain c.args.node) c.loop-index.counts c.next_place-place.new.counts c.loop-index.invariant (omega arith) c.loop-index-test.true c.next_place-place.ensures.counts
    (stays_next c.args.step.now c.loop-index.index c.as_slice-predicates.result.now c.index-predicates-index.result _ _ c.next_place-place.result c.is_held.result c.as_slice-predicates.ensures
    (omega (arith, c.requires.ends)) c.index-predicates-index.is c.loop-index.invariant.stays (c.next_place-place.ensures.place (plain c.args.node) c.index-predicates-index.result) c.is_held.ensures
    ∙ c.if-not-is_held.false)

pub stays-returns : goal.stays-returns
stays-returns t c =
    let last : c.loop-index.index ≡ c.args.end = omega (arith, c.loop-index-test.false, c.loop-index.auto.index-end) in
    record {
      value = sym (subst (λ i. leaves (tests c.args.step.now i) (ahead c.args.step.now (plain c.args.spot) c.args.at) (plain c.args.node) ≡ true) last c.loop-index.invariant.stays);
      counts = λ j inside under. c.loop-index.invariant.before j inside (omega arith);
    }

pub next_place-overflow_add-counts : goal.next_place-overflow_add-counts
next_place-overflow_add-counts t c =
    let few : _ = left_at_most c.args.step.now (plain c.args.spot) c.args.index _ c.args.at (c.requires.count c.if-counter-counts.true) in
    omega (arith, few, c.requires.room)
