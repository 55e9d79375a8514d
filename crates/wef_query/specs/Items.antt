-- The items of a list of queries.
use Rattle.std.specs.Prelude.{ℕ, Bool, ◌&&◌, is_some, List}
use Rattle.wef_base.specs.Names.{same, trimmed}
use Rattle.wef_query_paths.specs.Paths.{path_of}

-- An item: its group, whether it takes events out, its channel and its text, which says what it asks of an event.
pub record QueryItem : Type 0 where
  pub group : ℕ
  pub suppress : Bool
  pub channel : List ℕ
  pub text : List ℕ

-- whether a text has no spaces at its ends and says a path
abbrev pub says_path : List ℕ → Bool
says_path text = same (trimmed text) text && is_some (path_of text)
