use Rattle.std.proofs.Common.{◌+◌, ◌*◌, sym, subst}
use Rattle.wef_source.specs.Serving.{AwaitBelow}
use Rattle.wef_source.specs.Sessions.{is_leased_as, prolonged}
use Rattle.wef_source.proofs.DrawnIds.{changed_below, prolonged_below}
use Rattle.wef_source.proofs.memories.Memory.renew.Goals as goal

pub invariant_of-self-2 : goal.invariant_of-self-2
invariant_of-self-2 c =
    let next = c.self.inside.boot * 18446744073709551616 + (c.self.inside.drawn + 1) in
    let expiry = c.milliseconds.result + c.args.expires in
    record {
      sessions = c.renew_leased.ensures.kept;
      drawn = subst (AwaitBelow next) (sym c.in_ok-renew_leased.ensures.changed)
          (changed_below next (is_leased_as c.args.identifier.now) (prolonged expiry) (prolonged_below next expiry) c.self.inside.sessions.items c.self.invariant.drawn);
    }
