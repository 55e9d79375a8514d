use Rattle.std.proofs.Common.{◌≡◌, ◌∙◌, ap, refl, subst, sym, true}
use Rattle.wef_building.specs.Building.{session_channels}
use Rattle.wef_building.specs.Reading.{ReadsAbove}
use Rattle.wef_building.proofs.ReadAbove.{reads_nothing}
use Rattle.wef_source.specs.Machine.{is_due}
use Rattle.wef_source.specs.Prepared.{IsSendable, awaiting, read_by}
use Rattle.wef_source.specs.declared.sending.Outgoing.{Outgoing}
use Rattle.wef_source.proofs.memories.Memory.prepared_ready.Goals as goal

-- a heartbeat
pub returns-clause-draws : goal.returns-clause-draws
returns-clause-draws g c =
    let end = c.args.self.now in
    let s = c.args.session.now in
    let beaten = c.in_ok-prepared-2.ensures in
    let due : is_due c.args.now s ≡ true = sym c.is_due.ensures ∙ c.if-not-is_due.false in
    record {
      free = c.requires.idle;
      left = beaten.left;
      sent = subst (IsSendable end s c.args.now) (sym beaten.sent) (due, refl);
      awaited = beaten.awaited ∙ ap (λ (o : Outgoing). awaiting end (read_by o)) (sym beaten.sent);
      reads = subst (λ (o : Outgoing). ReadsAbove s.positions (session_channels s) (read_by o)) (sym beaten.sent) (reads_nothing s.positions (session_channels s));
    }
