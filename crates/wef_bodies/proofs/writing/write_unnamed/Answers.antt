use Rattle.std.proofs.Common.{sym, subst, ◌∙◌}
use Rattle.std.specs.List.{All}
use Rattle.wef_bodies.specs.Laws.{IsXmlId}
use Rattle.wef_bodies.proofs.GoodBodies.{no_ids_good}
use Rattle.wef_bodies.proofs.writing.write_unnamed.Goals as goal

pub returns-clause-good : goal.returns-clause-good
returns-clause-good c = λ offered. c.write_offers.ensures.good offered (subst (All IsXmlId) (sym (c.as_slice.ensures ∙ c.in_ok-ids.ensures)) (no_ids_good c.args.offers.now))
