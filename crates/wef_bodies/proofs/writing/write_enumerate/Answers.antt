use Rattle.wef_bodies.proofs.GoodBodies.{enumerate_good, only_good}
use Rattle.wef_bodies.specs.Written.{enumerate_element}
use Rattle.wef_bodies.proofs.writing.write_enumerate.Goals as goal

pub returns-clause-good : goal.returns-clause-good
returns-clause-good c = only_good c.only.result c.in_ok-enumerate_element.field-0 enumerate_element c.only.ensures c.in_ok-enumerate_element.ensures (enumerate_good 60)
