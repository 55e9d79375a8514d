use Rattle.std.proofs.Common.{◌+◌, ◌*◌, sym, subst}
use Rattle.wef_source.specs.Serving.{AwaitBelow}
use Rattle.wef_source.proofs.DrawnIds.{refused_below}
use Rattle.wef_source.proofs.memories.Memory.take_fault.Goals as goal

pub invariant_of-self-2 : goal.invariant_of-self-2
invariant_of-self-2 c =
    let next = c.self.inside.boot * 18446744073709551616 + (c.self.inside.drawn + 1) in
    record {
      sessions = c.refuse_waiting.ensures.kept;
      drawn = subst (AwaitBelow next) (sym c.refuse_waiting.ensures.changed) (refused_below next c.args.id c.args.fault.now c.self.inside.sessions.items c.self.invariant.drawn);
    }
