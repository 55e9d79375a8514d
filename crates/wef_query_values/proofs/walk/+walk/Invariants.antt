use Rattle.std.proofs.Common.{◌≡◌, ◌+◌, ◌*◌, true, List, length, map, take, drop}
use Rattle.std.specs.List.{list_all, list_any}
use Rattle.wef_query_paths.specs.declared.path.Step.{out-Step}
use Rattle.wef_query_values.specs.Places.{Place, plain}
use Rattle.wef_query_values.specs.Meaning.{goes, holds, holds_and, holds_or, holds_unit}
use Rattle.wef_query_values.specs.Walk.{ahead, leaves}
use Rattle.wef_query_values.specs.Wanted.{is_wanted}
use Rattle.wef_query_values.specs.Weights.{and_weight, or_weight, path_weight, predicate_weight, predicates_weight, step_weight, steps_weight, unit_weight, value_weight}
use Rattle.wef_query_values.proofs.Counting.{IsCounted}
use Rattle.wef_query_values.proofs.Turns.{LeftSoFar, NoneSoFar}
use Rattle.wef_query_values.proofs.walk.+walk.Given as goal

abbrev pub decreases-finds : goal.decreases-finds
decreases-finds l = 10 * path_weight l.path.now

abbrev pub decreases-reaches : goal.decreases-reaches
decreases-reaches l = 10 * (step_weight l.first.now + steps_weight l.rest.now) + 9

abbrev pub decreases-goes_on : goal.decreases-goes_on
decreases-goes_on l = 10 * steps_weight l.steps.now + 10

abbrev pub decreases-passes : goal.decreases-passes
decreases-passes l = 10 * predicates_weight l.predicates.now + 1

abbrev pub decreases-is_held : goal.decreases-is_held
decreases-is_held l = 10 * predicate_weight l.predicate.now

abbrev pub decreases-stays : goal.decreases-stays
decreases-stays l = 10 * predicates_weight (take l.end (out-Step l.step.now).predicates) + 2

abbrev pub decreases-left_before : goal.decreases-left_before
decreases-left_before l = 10 * predicates_weight (take l.end (out-Step l.step.now).predicates) + 3

abbrev pub decreases-next_place : goal.decreases-next_place
decreases-next_place l = 10 * predicates_weight (take l.index (out-Step l.step.now).predicates) + 4

abbrev pub decreases-is_or_held : goal.decreases-is_or_held
decreases-is_or_held l = 10 * or_weight l.or.now

abbrev pub decreases-is_and_held : goal.decreases-is_and_held
decreases-is_and_held l = 10 * and_weight l.and.now

abbrev pub decreases-is_unit_held : goal.decreases-is_unit_held
decreases-is_unit_held l = 10 * unit_weight l.unit.now

abbrev pub decreases-is_there : goal.decreases-is_there
decreases-is_there l = 10 * value_weight l.value.now

abbrev pub decreases-is_compared : goal.decreases-is_compared
decreases-is_compared l = 10 * value_weight l.value.now

abbrev pub invariant-is_and_held-loop-unit : goal.invariant-is_and_held-loop-unit
invariant-is_and_held-loop-unit l = list_all (λ u. holds_unit u (plain l.node) l.place) (drop l.unit-index l.unit-items) ≡ holds_and l.and (plain l.node) l.place

abbrev pub invariant-is_or_held-loop-and : goal.invariant-is_or_held-loop-and
invariant-is_or_held-loop-and l = list_any (λ a. holds_and a (plain l.node) l.place) (drop l.and-index l.and-items) ≡ holds_or l.or (plain l.node) l.place

abbrev pub invariant-left_before-loop-before : goal.invariant-left_before-loop-before
invariant-left_before-loop-before l = LeftSoFar l.step (plain l.spot) l.counting l.end l.counts l.left l.before

abbrev pub invariant-passes-loop-predicate : goal.invariant-passes-loop-predicate
invariant-passes-loop-predicate l = (xs : List Place) → leaves (map holds (take l.predicate-index l.predicates)) xs (plain l.node) ≡ true

abbrev pub invariant-reaches-loop-at : goal.invariant-reaches-loop-at
invariant-reaches-loop-at l = NoneSoFar (is_wanted l.wanted) (map goes l.rest) l.first (plain l.spot) l.counting (length l.predicates) l.counts l.at

abbrev pub invariant-stays-loop-index : goal.invariant-stays-loop-index
invariant-stays-loop-index l = IsCounted l.step l.counting l.end l.index (ahead l.step (plain l.spot) l.at) (plain l.node) l.counts
