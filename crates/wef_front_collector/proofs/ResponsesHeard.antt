-- A call that hands an answer to the collector, and what is heard of it.
use Rattle.std.proofs.Common.{◌≡◌, ℕ, subst}
use Rattle.std.specs.Prelude.{Result, IfErr, IfOk}
use Rattle.std.specs.declared.result.Result.TheVariants.{Ok, Err}
use Rattle.wef_collector.specs.declared.memories.Memory.{Memory}
use Rattle.wef_collector.specs.declared.responses.Answered.{Answered}
use Rattle.wef_collector.specs.declared.responses.Response.{Response}
use Rattle.wef_collector_rows.specs.declared.faults.CollectorFault.{CollectorFault}
use Rattle.wef_collector_rows.specs.declared.faults.CollectorFault.TheVariants.{NoMemory}
use Rattle.wef_ids.specs.declared.MessageId.{MessageId}
use Rattle.wef_keeper.specs.Keeping.{Store}
use Rattle.wef_front_collector.specs.HeardResponses.{HearsAnswer, IsHeard, Responds, WantsMemory, hears_of}
use Rattle.wef_front_collector.specs.declared.listening.Hears.{Hears}

pub hears_so :
    {E : Type 0} (done : Result Answered CollectorFault) (result : Result Hears E) (relates : MessageId) (answer : Response) (moment : ℕ) (memory memory_now : Memory) (before now : Store) →
    Responds done relates answer moment memory memory_now before now → IfOk result (λ hears. IfErr done IsHeard) → IfOk result (λ hears. hears ≡ hears_of done) →
    IfOk result (λ hears. HearsAnswer hears relates answer moment memory memory_now before now)
hears_so done (Ok hears) relates answer moment memory memory_now before now responds heard is = (done, responds, heard, is)
hears_so done (Err wanting) relates answer moment memory memory_now before now responds heard is = tt

pub wants_so :
    {E : Type 0} (done : Result Answered CollectorFault) (result : Result Hears E) (relates : MessageId) (answer : Response) (moment : ℕ) (memory memory_now : Memory) (before now : Store) →
    Responds done relates answer moment memory memory_now before now → IfErr result (λ wanting. done ≡ Err NoMemory) →
    IfErr result (λ wanting. WantsMemory relates answer moment memory memory_now before now)
wants_so done (Ok hears) relates answer moment memory memory_now before now responds is = tt
wants_so done (Err wanting) relates answer moment memory memory_now before now responds is =
    subst (λ (given : Result Answered CollectorFault). Responds given relates answer moment memory memory_now before now) is responds
