use Rattle.std.proofs.Common.{◌+◌, ◌*◌, sym, subst}
use Rattle.wef_source.specs.Serving.{AwaitBelow}
use Rattle.wef_source.specs.Sessions.{is_named, settled}
use Rattle.wef_source.proofs.DrawnIds.{changed_below, settled_below}
use Rattle.wef_source.proofs.memories.Memory.on_lost.Goals as goal

pub invariant_of-self-2 : goal.invariant_of-self-2
invariant_of-self-2 c =
    let next = c.self.inside.boot * 18446744073709551616 + (c.self.inside.drawn + 1) in
    record {
      sessions = c.settle_named.ensures.kept;
      drawn = subst (AwaitBelow next) (sym c.settle_named.ensures.changed) (changed_below next (is_named c.args.sub.now) settled (settled_below next) c.self.inside.sessions.items c.self.invariant.drawn);
    }
