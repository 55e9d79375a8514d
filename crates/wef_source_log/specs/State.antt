-- What a log is: the store in which it keeps its rows, and the boot number of its start.
use Rattle.std.specs.Prelude.{ℕ}

pub record LogState (K : Type 0) : Type 0 where
  pub keeper : K
  pub boot : ℕ
