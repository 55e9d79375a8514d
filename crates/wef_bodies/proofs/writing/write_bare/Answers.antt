use Rattle.wef_bodies.proofs.GoodBodies.{bare_good, only_good}
use Rattle.wef_bodies.specs.Written.{bare_element}
use Rattle.wef_bodies.proofs.writing.write_bare.Goals as goal

pub returns-clause-good : goal.returns-clause-good
returns-clause-good c = λ named. only_good c.only.result c.in_ok-bare_element.field-0 (bare_element c.args.name.now) c.only.ensures c.in_ok-bare_element.ensures (bare_good c.args.name.now 61 named)
