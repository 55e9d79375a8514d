use Rattle.std.proofs.Common.{ℕ, List, subst}
use Rattle.wef_base.specs.declared.tree.Charset.TheVariants.{Utf8}
use Rattle.wef_front_collector.specs.Heard.{Hears}
use Rattle.wef_front_collector.specs.Replies.{IsAnswer}
use Rattle.wef_front_collector.specs.declared.hearing.Heard.{Heard}
use Rattle.wef_http_heads.specs.declared.targets.Target.TheVariants.{Manager}
use Rattle.wef_places.proofs.Settled.{told_by}
use Rattle.wef_deliveries.proofs.Asked.{ask_answered, wish_heard, wish_heard_is}
use Rattle.wef_deliveries.proofs.taking.answer_to_ask.Goals as goal

pub returns-clause-memory : goal.returns-clause-memory
returns-clause-memory g c =
    let wish = c.args.wish.now in
    let heard = c.in_ok-collector_answer.ensures.answer in
    let can = c.bytes-body.ensures.asked in
    let hears = subst (λ (bytes : List ℕ). Hears Manager Utf8 bytes heard.0) c.bytes-body.ensures.value heard.1 in
    let Answers : List ℕ → Heard → Type 0 =
    λ at h. IsAnswer at h Utf8 c.args.now c.in_ok-collector_answer.field-0 c.args.collector.now.memory c.collector_answer.new.collector.memory (told_by c.args.collector.now.keeper) (told_by c.collector_answer.new.collector.keeper) in
    let is = subst (λ (at : List ℕ). Answers at (wish_heard wish)) c.in_ok-host.ensures.value (subst (Answers c.in_ok-host.host) (wish_heard_is wish heard.0 can hears) heard.2) in
    (ask_answered wish c.args.collector.now c.collector_answer.new.collector c.args.now c.in_ok-collector_answer.field-0 can c.requires is).memory_is

pub returns-clause-answer : goal.returns-clause-answer
returns-clause-answer g c =
    let wish = c.args.wish.now in
    let heard = c.in_ok-collector_answer.ensures.answer in
    let can = c.bytes-body.ensures.asked in
    let hears = subst (λ (bytes : List ℕ). Hears Manager Utf8 bytes heard.0) c.bytes-body.ensures.value heard.1 in
    let Answers : List ℕ → Heard → Type 0 =
    λ at h. IsAnswer at h Utf8 c.args.now c.in_ok-collector_answer.field-0 c.args.collector.now.memory c.collector_answer.new.collector.memory (told_by c.args.collector.now.keeper) (told_by c.collector_answer.new.collector.keeper) in
    let is = subst (λ (at : List ℕ). Answers at (wish_heard wish)) c.in_ok-host.ensures.value (subst (Answers c.in_ok-host.host) (wish_heard_is wish heard.0 can hears) heard.2) in
    (ask_answered wish c.args.collector.now c.collector_answer.new.collector c.args.now c.in_ok-collector_answer.field-0 can c.requires is).gave

pub returns-clause-rows : goal.returns-clause-rows
returns-clause-rows g c =
    let wish = c.args.wish.now in
    let heard = c.in_ok-collector_answer.ensures.answer in
    let can = c.bytes-body.ensures.asked in
    let hears = subst (λ (bytes : List ℕ). Hears Manager Utf8 bytes heard.0) c.bytes-body.ensures.value heard.1 in
    let Answers : List ℕ → Heard → Type 0 =
    λ at h. IsAnswer at h Utf8 c.args.now c.in_ok-collector_answer.field-0 c.args.collector.now.memory c.collector_answer.new.collector.memory (told_by c.args.collector.now.keeper) (told_by c.collector_answer.new.collector.keeper) in
    let is = subst (λ (at : List ℕ). Answers at (wish_heard wish)) c.in_ok-host.ensures.value (subst (Answers c.in_ok-host.host) (wish_heard_is wish heard.0 can hears) heard.2) in
    (ask_answered wish c.args.collector.now c.collector_answer.new.collector c.args.now c.in_ok-collector_answer.field-0 can c.requires is).rows_stay
