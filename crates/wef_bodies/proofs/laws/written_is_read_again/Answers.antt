use Rattle.wef_bodies.proofs.BodiesAgain.{body_again}
use Rattle.wef_bodies.proofs.GoodBodies.{answer_good}
use Rattle.wef_bodies.proofs.OffersAgain.{offers_again}
use Rattle.wef_bodies.proofs.laws.written_is_read_again.Goals as goal

pub returns-clause-says : goal.returns-clause-says
returns-clause-says c = record { offers = offers_again; body = body_again }

pub returns-clause-good : goal.returns-clause-good
returns-clause-good c = answer_good
