-- What a collector is: the store in which it keeps its rows, and what it remembers while it runs.
use Rattle.wef_collector.specs.declared.memories.Memory.{Memory}

pub record CollectorState (K : Type 0) : Type 0 where
  pub keeper : K
  pub memory : Memory
