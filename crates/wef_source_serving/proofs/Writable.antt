-- What a source answers is a response: an envelope under 200 or 500.
use Rattle.std.proofs.Common.{◌≡◌, ◌⊎◌, inl, inr, ℕ, refl, ap, sym, subst}
use Rattle.std.specs.Prelude.{Option, Result, IfErr, IfOk}
use Rattle.std.specs.declared.result.Result.TheVariants.{Ok, Err}
use Rattle.wef_base.specs.declared.tree.Charset.{Charset}
use Rattle.wef_front_source.specs.Heard.{Hears}
use Rattle.wef_front_source.specs.Replies.{MayHaveReplied, Reply, answer_of, reply}
use Rattle.wef_front_source.specs.Steps.{done_by, said_by}
use Rattle.wef_front_source.specs.declared.hearing.Heard.{Heard}
use Rattle.wef_front_source.specs.declared.saying.Said.{Said}
use Rattle.wef_front_source.specs.declared.saying.Said.TheVariants.{Done, Fault, Spent}
use Rattle.wef_http.specs.declared.messages.HttpRequest.{HttpRequest}
use Rattle.wef_http_heads.specs.declared.answers.Answer.{Answer}
use Rattle.wef_ids.specs.declared.MessageId.{MessageId}
use Rattle.wef_keeper.specs.Keeping.{Store}
use Rattle.wef_serving.specs.Serving.{CanBeWritten}
use Rattle.wef_source.specs.Machine.{End}
use Rattle.wef_source.specs.State.{SourceState}
use Rattle.wef_source_serving.specs.Answers.{Answers, Hearing, KnownSource, known_of}

said_so : (end : End) (charset : Charset) (relates : Option MessageId) (said : Said) → CanBeWritten (answer_of end charset relates said)
said_so end charset relates (Done answer) = (refl, λ none. cc)
said_so end charset relates (Fault name) = (refl, λ none. cc)
said_so end charset relates Spent = (refl, λ none. cc)

replied_so : (end : End) (heard : Heard) (charset : Charset) (moment : ℕ) → CanBeWritten (reply end heard charset moment).answer
replied_so end heard charset moment = said_so (done_by end heard.asked moment) charset heard.relates (said_by end heard.asked moment)

pub can_be_written :
    {E : Type 0} (moment : ℕ) (s t : KnownSource) (request : HttpRequest) (result : Result Answer E) →
    IfOk result (λ answer. Answers moment s request answer t) → IfOk result CanBeWritten
can_be_written moment s t request (Ok answer) ((heard, hears, is), kept) =
    subst CanBeWritten (sym (ap (λ (r : Reply). r.answer) is)) (replied_so s.memory heard request.charset moment)
can_be_written moment s t request (Err wanting) answered = tt

-- an answer of a source is one of what is known of it
pub answered_known :
    {K E : Type 0} (store : K → Store) (s t : SourceState K) (moment : ℕ) (request : HttpRequest) (result : Result Answer E) → t.keeper ≡ s.keeper →
    IfOk result (λ answer. (heard : Heard) × Hears moment request.charset request.body heard × (record { answer = answer; end = t.memory } ≡ reply s.memory heard request.charset moment)) →
    IfOk result (λ answer. Answers moment (known_of store s) request answer (known_of store t))
answered_known store s t moment request (Ok answer) kept answered = (answered, ap store kept)
answered_known store s t moment request (Err wanting) kept answered = tt

-- and so is what it leaves without one
pub left_known :
    {K T E : Type 0} (store : K → Store) (s t : SourceState K) (moment : ℕ) (request : HttpRequest) (result : Result T E) → t.keeper ≡ s.keeper →
    IfErr result (λ _. (t.memory ≡ s.memory) ⊎ ((heard : Heard) × Hears moment request.charset request.body heard × MayHaveReplied s.memory heard moment t.memory)) →
    IfErr result (λ _. ((t.memory ≡ s.memory) ⊎ Hearing moment request (λ heard. MayHaveReplied s.memory heard moment t.memory)) × (store t.keeper ≡ store s.keeper))
left_known store s t moment request (Ok answer) kept left = tt
left_known store s t moment request (Err wanting) kept left = (left, ap store kept)
