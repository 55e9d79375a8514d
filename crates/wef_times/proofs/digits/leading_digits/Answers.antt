use Rattle.wef_times.proofs.Fronts.{each_digit, front}
use Rattle.wef_times.proofs.digits.leading_digits.Goals as goal

pub returns-clause-digits : goal.returns-clause-digits
returns-clause-digits c = rw c.behind_digits.ensures.rest (front c.args.text.now)

pub returns-clause-each : goal.returns-clause-each
returns-clause-each c = rw c.behind_digits.ensures.rest (rw (front c.args.text.now) (each_digit c.args.text.now))
