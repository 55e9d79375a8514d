use Rattle.std.proofs.Common.{◌+◌, ◌*◌, sym, subst}
use Rattle.wef_source.specs.Serving.{AwaitBelow}
use Rattle.wef_source.specs.Sessions.{answered, waits_for}
use Rattle.wef_source.specs.declared.serving.Answer.TheVariants.{Taken}
use Rattle.wef_source.proofs.DrawnIds.{answered_below, changed_below}
use Rattle.wef_source.proofs.memories.Memory.take_ack.Goals as goal

pub invariant_of-self-2 : goal.invariant_of-self-2
invariant_of-self-2 c =
    let next = c.self.inside.boot * 18446744073709551616 + (c.self.inside.drawn + 1) in
    record {
      sessions = c.answer_waiting.ensures.kept;
      drawn = subst (AwaitBelow next) (sym c.answer_waiting.ensures.changed) (changed_below next (waits_for c.args.id) (answered Taken) (answered_below next Taken) c.self.inside.sessions.items c.self.invariant.drawn);
    }
