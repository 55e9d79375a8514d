use Rattle.std.proofs.Common.{◌+◌, ◌*◌, sym, subst}
use Rattle.std.specs.List.{filter}
use Rattle.wef_source.specs.Serving.{AwaitBelow}
use Rattle.wef_source.specs.Sessions.{is_leased}
use Rattle.wef_source.proofs.DrawnIds.{filtered_below, offers_below}
use Rattle.wef_source.proofs.memories.Memory.adopt.Goals as goal

pub invariant_of-self : goal.invariant_of-self
invariant_of-self c =
    let next = c.self.inside.boot * 18446744073709551616 + (c.self.inside.drawn + 1) in
    let sessions = c.as_slice.result.now in
    let drawn = subst (AwaitBelow next) (sym c.as_slice.ensures.value) c.self.invariant.drawn in
    record {
      sessions = c.in_ok-sessions.ensures.kept;
      drawn = subst (AwaitBelow next) (sym c.in_ok-sessions.ensures.ok) (offers_below next c.args.now (filter is_leased sessions) c.args.offers.now (filtered_below next is_leased sessions drawn));
    }
