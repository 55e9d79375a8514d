use Rattle.std.proofs.Common.{sym, subst}
use Rattle.std.specs.List.{AllByRecursion}
use Rattle.wef_batch.specs.Laws.{IsKept}
use Rattle.wef_envelope.specs.Written.{written}
use Rattle.wef_envelope.specs.declared.envelopes.Envelope.{Envelope}
use Rattle.wef_xml.specs.Good.{IsGoodTree}
use Rattle.wef_front_source.proofs.DeliveriesAreGood.{written_good}
use Rattle.wef_front_source.proofs.sending.write_delivery.Goals as goal

pub write_envelope-requires : goal.write_envelope-requires
write_envelope-requires c =
    let names = c.marked_names_are_kept.ensures in
    subst (λ (e : Envelope). IsGoodTree (written e)) (sym c.in_ok-envelope.ensures) (written_good c.args.delivery.now c.requires (subst (AllByRecursion IsKept) c.as_slice.ensures c.items_are_kept.ensures) names.entries names.names)
