use Rattle.wef_requests.proofs.AnswersAreHeard.{answers_are_heard}
use Rattle.wef_requests.proofs.laws.answers_are_heard.Goals as goal

pub returns : goal.returns
returns c = answers_are_heard
