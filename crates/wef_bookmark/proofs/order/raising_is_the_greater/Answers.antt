use Rattle.wef_bookmark.proofs.Joining.{raised_number, raised_has}
use Rattle.wef_bookmark.proofs.order.raising_is_the_greater.Goals as goal

pub returns-clause-number : goal.returns-clause-number
returns-clause-number c = raised_number

pub returns-clause-has : goal.returns-clause-has
returns-clause-has c = raised_has
