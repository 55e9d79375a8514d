-- What is read of a path whose brackets are still open.
use Rattle.std.specs.Option.{option_map_or}
use Rattle.std.specs.Prelude.{Bool, true, false, [], ◌∷◌, ◌++◌, Option, Some, None}
use Rattle.wef_query_paths.specs.declared.path.Path.{Path, out-Path, roll-Path}
use Rattle.wef_query_paths.specs.declared.path.Step.{Step}
use Rattle.wef_query_paths.specs.declared.path.Predicate.{Predicate}
use Rattle.wef_query_paths.specs.declared.path.Or.{Or, out-Or, roll-Or}
use Rattle.wef_query_paths.specs.declared.path.And.{And}
use Rattle.wef_query_paths.specs.declared.path.Unit as unit
use Rattle.wef_query_paths.specs.declared.conditions.Level.{Level}
use Rattle.wef_query_paths.specs.declared.steps.Place.{Place}
use Rattle.wef_query_paths.specs.declared.steps.Place.TheVariants.{Whole, InValue, InBand}
use Rattle.wef_query_paths.specs.declared.conditions.Around.{Around}
use Rattle.wef_query_paths.specs.declared.conditions.Around.TheVariants.{Square}

-- whether a path is all of the text
abbrev pub is_whole : Place → Bool
is_whole Whole = true
is_whole (InValue side) = false
is_whole (InBand side) = false

-- a path with one more step
abbrev pub with_step : Option Path → Step → Path
with_step None step = roll-Path (record { first = step; rest = [] })
with_step (Some path) step = roll-Path (record { first = (out-Path path).first; rest = (out-Path path).rest ++ step ∷ [] })

-- what has to hold all together, with one thing more
abbrev pub with_unit : Option And → unit.Unit → And
with_unit None more = record { first = more; rest = [] }
with_unit (Some units) more = record { first = units.first; rest = units.rest ++ more ∷ [] }

-- what has to hold in part, with one thing more
abbrev pub with_and : Option Or → And → Or
with_and None units = roll-Or (record { first = units; rest = [] })
with_and (Some alternatives) units = roll-Or (record { first = (out-Or alternatives).first; rest = (out-Or alternatives).rest ++ units ∷ [] })

-- a step with one more predicate
abbrev pub with_predicate : Step → Predicate → Step
with_predicate step predicate = record { axis = step.axis; test = step.test; predicates = step.predicates ++ predicate ∷ [] }

-- a bracket in which nothing is read
abbrev pub opened : Around → Level
opened around = record { around = around; alternatives = None; units = None }

-- the bracket of a step's predicate, in which nothing is read
abbrev pub square : Place → Option Path → Step → Level
square place so_far step = opened (Square place so_far step)

-- the whole condition of a bracket that ends behind a unit
abbrev pub alternatives_in : Level → unit.Unit → Or
alternatives_in level last = with_and level.alternatives (with_unit level.units last)

-- one alternative more
abbrev pub with_alternative : Level → And → Level
with_alternative level units = record { around = level.around; alternatives = Some (with_and level.alternatives units); units = level.units }

-- the bracket with no units behind its last alternative
abbrev pub without_units : Level → Level
without_units level = record { around = level.around; alternatives = level.alternatives; units = None }

-- the units, if there are any, as one alternative more
abbrev pub with_units_ended : Level → Level
with_units_ended level = option_map_or (with_alternative (without_units level)) level.units level
