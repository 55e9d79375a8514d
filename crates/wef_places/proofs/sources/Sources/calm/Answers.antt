use Rattle.std.proofs.Common.{rules, ap, ◌∙◌}
use Rattle.std.proofs.lemmas.Map.Made.{map_same_pairs}
use Rattle.wef_machine.specs.States.{calmed_slot, calmed_slots}
use Rattle.wef_places.proofs.Calmed.{calmed_given}
use Rattle.wef_places.proofs.sources.Sources.calm.Goals as goal

pub returns : goal.returns
returns c =
    calmed_given c.self.inside.slots.entries c.retain.new.self.entries
    (map_same_pairs _ calmed_slot _ (λ k v b w f' t. search rules) _ _ c.retain.ensures.filtered)
    ∙ ap calmed_slots c.self.view_is
