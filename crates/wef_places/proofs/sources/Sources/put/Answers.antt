use Rattle.std.proofs.Common.{ap, ◌∙◌}
use Rattle.std.specs.FinMap.{insert}
use Rattle.wef_machine.proofs.NameMaps.{one_given}
use Rattle.wef_machine.specs.States.{Slots}
use Rattle.wef_places.proofs.sources.Sources.put.Goals as goal

pub returns : goal.returns
returns c =
    one_given c.self.inside.slots.entries c.insert.new.self.entries c.args.name c.args.slot c.in_ok-insert.ensures.updates.0
    ∙ ap (λ (m : Slots). insert m c.args.name c.args.slot) c.self.view_is
