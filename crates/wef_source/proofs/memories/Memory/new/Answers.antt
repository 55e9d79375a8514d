use Rattle.wef_source.proofs.Served.{none_kept}
use Rattle.wef_source.proofs.memories.Memory.new.Goals as goal

pub invariant_of-result : goal.invariant_of-result
invariant_of-result c = record { sessions = rw c.new.ensures.items none_kept; drawn = rw c.new.ensures.items tt }
