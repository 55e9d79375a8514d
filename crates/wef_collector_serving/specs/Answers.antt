-- What a collector answers to the requests of a connection.
use Rattle.std.specs.Prelude.{◌≡◌, ◌⊎◌, ℕ, Option}
use Rattle.wef_collector.specs.State.{CollectorState}
use Rattle.wef_collector.specs.declared.memories.Memory.{Memory}
use Rattle.wef_eventing.specs.Addresses.{IsHost}
use Rattle.wef_front_collector.specs.Heard.{Hears}
use Rattle.wef_front_collector.specs.Replies.{IsAnswer, IsUnanswered}
use Rattle.wef_front_collector.specs.declared.hearing.Heard.{Heard}
use Rattle.wef_http.specs.declared.messages.HttpRequest.{HttpRequest}
use Rattle.wef_http_heads.specs.declared.answers.Answer.{Answer}
use Rattle.wef_http_heads.specs.declared.targets.Side.TheVariants.{Collector}
use Rattle.wef_keeper.specs.Keeping.{IsLawful, Store}
use Rattle.wef_ports.specs.Telling.{Told}
use Rattle.wef_serving.specs.Serving.{AnswersAt, LeavesAt, RespondsInTurn}
use Rattle.wef_serving.specs.Turns.{Ends}
use Rattle.wef_serving.specs.declared.ends.ConnectionEnd.{ConnectionEnd}

-- What is known of a collector: what its keeper tells, and what it remembers.
pub record KnownCollector : Type 0 where
  pub store : Store
  pub memory : Memory

abbrev pub known_of : {K : Type 0} → (K → Store) → CollectorState K → KnownCollector
known_of store s = record { store = store s.keeper; memory = s.memory }

-- This is heard in a request, which came to a host that an address may name.
abbrev pub HearsRequest : HttpRequest → Heard → Type 0
HearsRequest request heard = Hears request.target request.charset request.body heard × IsHost request.host

-- a fact of what is heard in a request
abbrev pub Hearing : HttpRequest → (Heard → Type 0) → Type 0
Hearing request Holds = (heard : Heard) × HearsRequest request heard × Holds heard

-- an answer to what was heard in a request: it is in the charset of the request, and batches for what it offers come to its host
abbrev pub AnswersHeard : ℕ → KnownCollector → HttpRequest → Answer → KnownCollector → Heard → Type 0
AnswersHeard moment before request answer now heard =
    IsAnswer request.host heard request.charset moment answer before.memory now.memory before.store now.store

-- At a moment a collector answers a request so, and this is the collector then. Its store has the laws of every keeper's.
abbrev pub Answers : ℕ → KnownCollector → HttpRequest → Answer → KnownCollector → Type 0
Answers moment before request answer now = Hearing request (AnswersHeard moment before request answer now) × IsLawful now.store

-- the same where there was no memory for the answer: nothing was done, or what is asked was, without its answer
abbrev pub Leaves : ℕ → KnownCollector → HttpRequest → KnownCollector → Type 0
Leaves moment before request now =
    ((now ≡ before) ⊎ Hearing request (λ heard. IsUnanswered request.host heard moment before.memory now.memory before.store now.store)) × IsLawful now.store

-- The present connection of a port was served for a collector, at the moments that a clock tells, and ended so.
abbrev pub EndsConnection : Option ℕ → Told → KnownCollector → Told → KnownCollector → ConnectionEnd → Type 0
EndsConnection clock before s now t over = Ends Collector (AnswersAt clock Answers) (LeavesAt clock Leaves) before.coming before s now t over

-- The requests of a connection were answered for a collector, one after the other, at the moments that a clock tells. This holds of
-- any connection, also where its bytes aren't told.
abbrev pub AnswersInTurn : Option ℕ → KnownCollector → KnownCollector → Type 0
AnswersInTurn clock s t = RespondsInTurn (AnswersAt clock Answers) (LeavesAt clock Leaves) s t
