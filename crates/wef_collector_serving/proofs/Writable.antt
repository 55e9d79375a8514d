-- What the collector answers is a response: an envelope under 200 or 500, or nothing under 204.
use Rattle.std.proofs.Common.{◌≡◌, ◌⊎◌, inl, inr, ℕ, refl, ap, sym, subst}
use Rattle.std.specs.Prelude.{Option, Result, IfErr, IfOk}
use Rattle.std.specs.declared.result.Result.TheVariants.{Ok, Err}
use Rattle.wef_base.specs.declared.tree.Charset.{Charset}
use Rattle.wef_collector.specs.State.{CollectorState}
use Rattle.wef_front_collector.specs.Replies.{answer_of}
use Rattle.wef_front_collector.specs.declared.saying.Said.{Said}
use Rattle.wef_front_collector.specs.declared.saying.Said.TheVariants.{Ack, Quiet, Offers, Fault}
use Rattle.wef_http.specs.declared.messages.HttpRequest.{HttpRequest}
use Rattle.wef_http_heads.specs.declared.answers.Answer.{Answer}
use Rattle.wef_ids.specs.declared.MessageId.{MessageId}
use Rattle.wef_ids.specs.declared.ids.Ids.{Ids}
use Rattle.wef_keeper.specs.Keeping.{IsLawful, Store}
use Rattle.wef_serving.specs.Serving.{CanBeWritten}
use Rattle.wef_collector_serving.specs.Answers.{Answers, KnownCollector, known_of}

said_so : (ids : Ids) (charset : Charset) (relates : Option MessageId) (said : Said) → CanBeWritten (answer_of ids charset relates said)
said_so ids charset relates Quiet = (refl, λ none. refl)
said_so ids charset relates Ack = (refl, λ none. cc)
said_so ids charset relates (Offers list) = (refl, λ none. cc)
said_so ids charset relates (Fault name) = (refl, λ none. cc)

pub can_be_written :
    {E : Type 0} (moment : ℕ) (s t : KnownCollector) (request : HttpRequest) (result : Result Answer E) →
    IfOk result (λ answer. Answers moment s request answer t) → IfOk result CanBeWritten
can_be_written moment s t request (Ok answer) ((heard, hears, is), lawful) = subst CanBeWritten (sym is.written) (said_so s.memory.ids request.charset heard.relates is.said)
can_be_written moment s t request (Err wanting) answered = tt

-- a collector that is as it was is known as it was
pub left_known :
    {K T E : Type 0} (store : K → Store) (s t : CollectorState K) (Stepped : Type 0) (result : Result T E) → IsLawful (store t.keeper) →
    IfErr result (λ _. (t ≡ s) ⊎ Stepped) → IfErr result (λ _. ((known_of store t ≡ known_of store s) ⊎ Stepped) × IsLawful (store t.keeper))
left_known store s t Stepped (Ok answer) lawful left = tt
left_known store s t Stepped (Err wanting) lawful (inl same) = (inl (ap (known_of store) same), lawful)
left_known store s t Stepped (Err wanting) lawful (inr stepped) = (inr stepped, lawful)
