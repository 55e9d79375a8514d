use Rattle.std.proofs.Common.{ap, sym, ◌∙◌}
use Rattle.std.specs.FinMap.{get}
use Rattle.wef_machine.proofs.NameMaps.{get_given}
use Rattle.wef_machine.specs.States.{Slots}
use Rattle.wef_places.proofs.sources.Sources.slot.Goals as goal

pub returns : goal.returns
returns c =
    c.get.ensures.value
    ∙ sym (get_given c.self.inside.slots.entries c.args.name.now)
    ∙ ap (λ (slots : Slots). get slots c.args.name.now) c.self.view_is
