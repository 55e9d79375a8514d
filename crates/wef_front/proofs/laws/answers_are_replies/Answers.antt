use Rattle.wef_front.proofs.ByRows.{answers_are_replies, answers_go_by_plan}
use Rattle.wef_front.proofs.laws.answers_are_replies.Goals as goal

pub returns-clause-rows : goal.returns-clause-rows
returns-clause-rows c = answers_are_replies

pub returns-clause-plan : goal.returns-clause-plan
returns-clause-plan c = answers_go_by_plan
