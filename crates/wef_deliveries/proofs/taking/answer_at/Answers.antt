use Rattle.std.proofs.Common.{ℕ, List, subst}
use Rattle.wef_base.specs.declared.tree.Charset.TheVariants.{Utf8}
use Rattle.wef_front.proofs.OneIsHeard.{one_is_heard}
use Rattle.wef_front_collector.specs.Heard.{Hears}
use Rattle.wef_front_collector.specs.Replies.{IsAnswer}
use Rattle.wef_front_collector.specs.declared.hearing.Heard.{Heard}
use Rattle.wef_http_heads.specs.declared.targets.Target.{Target}
use Rattle.wef_places.proofs.Settled.{told_by}
use Rattle.wef_deliveries.proofs.taking.answer_at.Goals as goal
use Rattle.wef_deliveries.specs.Answered.{target_of}

pub returns-clause-answer : goal.returns-clause-answer
returns-clause-answer g c = λ heard hears.
    let told = c.in_ok-collector_answer.ensures.answer in
    let at = subst (λ (target : Target). Hears target Utf8 c.args.body.now told.0) c.in_ok-target.ensures told.1 in
    let same = one_is_heard (target_of c.args.address.now) Utf8 c.args.body.now told.0 heard at hears in
    let Answers : List ℕ → Heard → Type 0 =
    λ host h. IsAnswer host h Utf8 c.args.now c.in_ok-collector_answer.field-0 c.args.collector.now.memory c.collector_answer.new.collector.memory (told_by c.args.collector.now.keeper) (told_by c.collector_answer.new.collector.keeper) in
    subst (λ (host : List ℕ). Answers host heard) c.in_ok-host.ensures.value (subst (Answers c.in_ok-host.host) same told.2)
