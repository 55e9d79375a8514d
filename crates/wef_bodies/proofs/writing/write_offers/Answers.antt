use Rattle.wef_bodies.proofs.GoodBodies.{offered_good, only_good}
use Rattle.wef_bodies.specs.Written.{offers_element, response_element}
use Rattle.std.proofs.Common.{ap, ◌∙◌}
use Rattle.wef_bodies.proofs.writing.write_offers.Goals as goal

pub returns-clause-good : goal.returns-clause-good
returns-clause-good c =
    let offers = c.args.offers.now in
    let ids = c.args.ids.now in
    λ offered spelt. only_good c.only.result c.in_ok-response_element.field-0 (offers_element ids offers) c.only.ensures (c.in_ok-response_element.ensures ∙ ap response_element c.in_ok-items.ensures)
    (offered_good ids offers offered spelt c.offered_names_are_kept.ensures)
