use Rattle.std.proofs.Common.{sym, ◌∙◌, subst}
use Rattle.wef_event.specs.Events.{HasTree}
use Rattle.wef_event.proofs.ReadEvents.{no_event, other_event}
use Rattle.wef_event.proofs.records.Event.of_text.Goals as goal

pub invariant_of-result : goal.invariant_of-result
invariant_of-result c =
    subst HasTree (λ i. record { channel = sym c.in_ok-clone.ensures i; number = c.args.number; text = sym c.in_ok-clone-2.ensures i }) (c.is_seen.ensures.tree c.if-is_seen.true)

pub returns-in-Ok-clause-some : goal.returns-in-Ok-clause-some
returns-in-Ok-clause-some c =
    sym c.if-is.true ∙ c.is.ensures
    ∙ other_event (record { channel = c.args.channel.now; number = c.args.number; text = c.args.text.now }) c.in-Ok.event c.in-Ok.ensures

pub returns-in-Ok-2-clause-some : goal.returns-in-Ok-2-clause-some
returns-in-Ok-2-clause-some c =
    sym c.if-is.false ∙ c.is.ensures
    ∙ other_event (record { channel = c.args.channel.now; number = c.args.number; text = c.args.text.now }) c.in-Ok.event c.in-Ok.ensures

pub returns-in_default : goal.returns-in_default
returns-in_default c = record {
  some =
      no_event (record { channel = c.args.channel.now; number = c.args.number; text = c.args.text.now }) c.in-Err.fault
      c.in_default.not-NoMemory c.in-Err.ensures;
  value = tt;
}
