-- The path that a text says.
use Rattle.std.specs.Prelude.{ℕ, ◌==◌, Bool, true, false, ◌&&◌, List, [], length, Option}
use Rattle.std.specs.Option.{option_and_then}
use Rattle.std.specs.Str.{chars}
use Rattle.wef_query_tokens.specs.declared.axis.Axis.TheVariants.{Child}
use Rattle.wef_query_tokens.specs.Steps.{goes_to_children}
use Rattle.wef_query_tokens.specs.Tokens.{tokens_of}
use Rattle.wef_query_paths.specs.declared.path.NameTest.{NameTest}
use Rattle.wef_query_paths.specs.declared.path.NameTest.TheVariants.{Any, Named}
use Rattle.wef_query_paths.specs.declared.path.Path.{Path, out-Path, roll-Path}
use Rattle.wef_query_paths.specs.declared.path.Step.{Step}
use Rattle.wef_query_paths.specs.Reading.{read_on, start}

-- the step to a child of any name
abbrev pub any_step : Step
any_step = record { axis = Child; test = Any; predicates = [] }

-- the path that each event meets: one step to its root, whatever its name
unfoldable pub any_path : Path
any_path = roll-Path (record { first = any_step; rest = [] })

-- ---- whether a path is that one

abbrev pub takes_any : NameTest → Bool
takes_any Any = true
takes_any (Named name) = false

abbrev pub is_any_step : Step → Bool
is_any_step s = goes_to_children s.axis && takes_any s.test && length s.predicates == 0

abbrev pub is_any_path : Path → Bool
is_any_path p = is_any_step (out-Path p).first && length (out-Path p).rest == 0

-- ---- texts

-- the path that a text says: what its tokens make, one by one, where all of them are good in their places
unfoldable pub path_of : List ℕ → Option Path
path_of text = option_and_then (read_on start) (tokens_of (chars text))
