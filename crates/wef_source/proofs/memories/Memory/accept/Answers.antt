use Rattle.std.proofs.Common.{◌+◌, ◌*◌, arith, sym, subst}
use Rattle.wef_source.specs.Serving.{AwaitBelow}
use Rattle.wef_source.proofs.DrawnIds.{idle_below, later_below, with_below}
use Rattle.wef_source.proofs.memories.Memory.accept.Goals as goal

pub invariant_of-self-2 : goal.invariant_of-self-2
invariant_of-self-2 c =
    let next = c.self.inside.boot * 18446744073709551616 + (c.self.inside.drawn + 1) in
    let further = c.self.inside.boot * 18446744073709551616 + (c.self.inside.drawn + 1 + 1) in
    let sessions = c.self.inside.sessions.items in
    let session = c.in_ok-session.session in
    record {
      sessions = c.in_ok-put_session.ensures.kept;
      drawn = subst (AwaitBelow further) (sym c.in_ok-put_session.ensures.ok)
          (with_below further sessions session (later_below next further (omega arith) sessions c.self.invariant.drawn) (idle_below further session c.in_ok-session.ensures.idle));
    }
