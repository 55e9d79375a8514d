use Rattle.std.proofs.Common.{ap, ◌∙◌, ◌++◌, [], ◌∷◌}
use Rattle.wef_batch.specs.declared.items.Item.TheVariants.{Loose}
use Rattle.wef_ids.specs.IdTexts.{id_of}
use Rattle.wef_front_source.proofs.DeliveriesAreGood.{can_be_written}
use Rattle.tests_exchanges.proofs.Sendable.{sendable_is}
use Rattle.tests_exchanges.proofs.deliveries.lost.Goals as goal

pub write_delivery-requires : goal.write_delivery-requires
write_delivery-requires c =
    can_be_written _
    (sendable_is c.in_ok-id.id c.in_ok-from_str-2.field-0 c.in_ok-from_str-3.field-0 c.push.new.self c.new.result
    (c.in_ok-id.ensures ∙ ap id_of c.in_ok-from_str.ensures) c.in_ok-from_str-2.ensures c.in_ok-from_str-3.ensures
    (c.in_ok-push.ensures.ok ∙ ap (λ items. items ++ Loose 1 ∷ []) c.new-items.ensures) c.new.ensures)
