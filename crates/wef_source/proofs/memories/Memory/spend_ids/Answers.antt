use Rattle.std.proofs.Common.{◌+◌, ◌*◌, ◌≤◌, arith}
use Rattle.std.specs.Prelude.{max}
use Rattle.wef_source.specs.Machine.{most_drawn}
use Rattle.wef_source.proofs.DrawnIds.{later_below}
use Rattle.wef_source.proofs.memories.Memory.spend_ids.Goals as goal

pub invariant_of-self : goal.invariant_of-self
invariant_of-self c =
    let next = c.self.inside.boot * 18446744073709551616 + (c.self.inside.drawn + 1) in
    record {
      sessions = c.self.invariant.sessions;
      drawn = later_below next _ (omega arith) c.self.inside.sessions.items c.self.invariant.drawn;
    }
