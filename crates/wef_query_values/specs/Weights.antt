-- How much there is of a path and of its parts: a measure of the walk.
use Rattle.std.specs.Prelude.{ℕ, ◌+◌, List, sum}
use Rattle.std.specs.List.{sum_by}
use Rattle.wef_query_paths.specs.declared.path.And.{And}
use Rattle.wef_query_paths.specs.declared.path.Or.{Or}
use Rattle.wef_query_paths.specs.declared.path.Path.{Path}
use Rattle.wef_query_paths.specs.declared.path.Predicate.{Predicate}
use Rattle.wef_query_paths.specs.declared.path.Step.{Step}
use Rattle.wef_query_paths.specs.declared.path.Unit.{Unit}
use Rattle.wef_query_paths.specs.declared.path.Value.{Value}
use Rattle.wef_query_paths.specs.declared.path.Predicate.TheFolds.{fold-Predicate, fold-Unit, fold-Value, fold-And, fold-Or, fold-Path, fold-Step}
use Rattle.wef_query_paths.specs.declared.path.Predicate.TheOpen.{Predicate-F, At, Whether, Unit-F, Group, Alone, Compared, Mirrored, Value-F, Nodes, Position, Band, And-F, Or-F, Path-F, Step-F}

-- ---- one part, with the weights of its own parts in their place

abbrev pub predicate_above : Predicate-F ℕ ℕ ℕ ℕ ℕ ℕ ℕ → ℕ
predicate_above (At place) = 1
predicate_above (Whether o) = o + 1

abbrev pub unit_above : Unit-F ℕ ℕ ℕ ℕ ℕ ℕ ℕ → ℕ
unit_above (Group o) = o + 1
unit_above (Alone value) = value + 1
unit_above (Compared value op literal) = value + 1
unit_above (Mirrored literal op value) = value + 1

abbrev pub value_above : Value-F ℕ ℕ ℕ ℕ ℕ ℕ ℕ → ℕ
value_above (Nodes path) = path + 1
value_above Position = 1
value_above (Band path mask) = path + 1

abbrev pub and_above : And-F ℕ ℕ ℕ ℕ ℕ ℕ ℕ → ℕ
and_above a = a.first + sum a.rest + 1

abbrev pub or_above : Or-F ℕ ℕ ℕ ℕ ℕ ℕ ℕ → ℕ
or_above o = o.first + sum o.rest + 1

abbrev pub path_above : Path-F ℕ ℕ ℕ ℕ ℕ ℕ ℕ → ℕ
path_above p = p.first + sum p.rest + 1

abbrev pub step_above : Step-F ℕ ℕ ℕ ℕ ℕ ℕ ℕ → ℕ
step_above s = sum s.predicates + 1

-- ---- the parts of which there may be many, and all of some

abbrev pub predicate_weight : Predicate → ℕ
predicate_weight = fold-Predicate ℕ ℕ ℕ ℕ ℕ ℕ ℕ predicate_above unit_above value_above and_above or_above path_above step_above

abbrev pub step_weight : Step → ℕ
step_weight = fold-Step ℕ ℕ ℕ ℕ ℕ ℕ ℕ predicate_above unit_above value_above and_above or_above path_above step_above

abbrev pub predicates_weight : List Predicate → ℕ
predicates_weight = sum_by predicate_weight

abbrev pub steps_weight : List Step → ℕ
steps_weight = sum_by step_weight

-- ---- the other parts

abbrev pub unit_weight : Unit → ℕ
unit_weight = fold-Unit ℕ ℕ ℕ ℕ ℕ ℕ ℕ predicate_above unit_above value_above and_above or_above path_above step_above

abbrev pub value_weight : Value → ℕ
value_weight = fold-Value ℕ ℕ ℕ ℕ ℕ ℕ ℕ predicate_above unit_above value_above and_above or_above path_above step_above

abbrev pub and_weight : And → ℕ
and_weight = fold-And ℕ ℕ ℕ ℕ ℕ ℕ ℕ predicate_above unit_above value_above and_above or_above path_above step_above

abbrev pub or_weight : Or → ℕ
or_weight = fold-Or ℕ ℕ ℕ ℕ ℕ ℕ ℕ predicate_above unit_above value_above and_above or_above path_above step_above

abbrev pub path_weight : Path → ℕ
path_weight = fold-Path ℕ ℕ ℕ ℕ ℕ ℕ ℕ predicate_above unit_above value_above and_above or_above path_above step_above
