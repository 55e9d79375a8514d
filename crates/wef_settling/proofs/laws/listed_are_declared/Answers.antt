use Rattle.wef_settling.proofs.ListedDeclared.{listed_are_declared}
use Rattle.wef_settling.proofs.laws.listed_are_declared.Goals as goal

pub returns : goal.returns
returns c = listed_are_declared
