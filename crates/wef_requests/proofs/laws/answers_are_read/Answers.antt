use Rattle.wef_requests.proofs.AnswersAreRead.{answers_are_read}
use Rattle.wef_requests.proofs.laws.answers_are_read.Goals as goal

pub returns : goal.returns
returns c = answers_are_read
