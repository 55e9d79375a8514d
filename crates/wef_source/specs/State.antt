-- What a source end is: the store of its log, its name, and what it remembers while it runs.
use Rattle.std.specs.Prelude.{ℕ, List}
use Rattle.wef_source.specs.Machine.{End}

pub record SourceState (K : Type 0) : Type 0 where
  pub keeper : K
  pub name : List ℕ
  pub memory : End
