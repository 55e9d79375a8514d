use Rattle.wef_bookmark.proofs.Joining.{joined_number, joined_has}
use Rattle.wef_bookmark.proofs.order.joining_is_the_greater.Goals as goal

pub returns-clause-number : goal.returns-clause-number
returns-clause-number c = joined_number

pub returns-clause-has : goal.returns-clause-has
returns-clause-has c = joined_has
