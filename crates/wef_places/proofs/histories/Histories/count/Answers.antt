use Rattle.std.proofs.Common.{[], length, ap, ◌∙◌}
use Rattle.std.specs.Prelude.{unwrap_or}
use Rattle.wef_machine.proofs.NameMaps.{get_given}
use Rattle.wef_places.proofs.histories.Histories.count.Goals as goal

pub returns-in-Some : goal.returns-in-Some
returns-in-Some c = rw (← c.self.view_is, get_given) (c.len.ensures ∙ ap (λ o. length (unwrap_or o [])) c.in-Some.ensures.value)

pub returns-in-None : goal.returns-in-None
returns-in-None c = rw (← c.self.view_is, get_given) (ap (λ o. length (unwrap_or o [])) c.in-None.ensures.value)
