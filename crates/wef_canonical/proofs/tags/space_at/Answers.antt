use Rattle.wef_canonical.proofs.Runs.{some_weaker}
use Rattle.wef_canonical.proofs.BareTags.{declared_here, none_declared}
use Rattle.wef_canonical.proofs.tags.space_at.Goals as goal

pub returns-in-Some : goal.returns-in-Some
returns-in-Some c =
    some_weaker c.declared_at.result _ _ (λ read is. declared_here c.args.default.now c.args.text.now _ read.0.now read.1.now is c.in-Some.ensures) c.declared_at.ensures

pub returns-in-None : goal.returns-in-None
returns-in-None c = none_declared c.args.default.now c.args.text.now c.requires
