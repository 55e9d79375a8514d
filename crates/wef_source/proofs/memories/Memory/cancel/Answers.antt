use Rattle.std.proofs.Common.{◌+◌, ◌*◌, sym, subst}
use Rattle.wef_source.specs.Serving.{AwaitBelow}
use Rattle.wef_source.specs.Sessions.{is_leased_as}
use Rattle.wef_source.proofs.DrawnIds.{without_below}
use Rattle.wef_source.proofs.memories.Memory.cancel.Goals as goal

pub invariant_of-self-2 : goal.invariant_of-self-2
invariant_of-self-2 c =
    let next = c.self.inside.boot * 18446744073709551616 + (c.self.inside.drawn + 1) in
    record {
      sessions = c.end_leased.ensures.kept;
      drawn = subst (AwaitBelow next) (sym c.end_leased.ensures.changed) (without_below next (is_leased_as c.args.identifier.now) c.self.inside.sessions.items c.self.invariant.drawn);
    }
