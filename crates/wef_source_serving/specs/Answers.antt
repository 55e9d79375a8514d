-- What a source answers to the requests of a connection. No row of its log decides it, and none changes.
use Rattle.std.specs.Prelude.{◌≡◌, ◌⊎◌, ℕ, Option}
use Rattle.wef_front_source.specs.Heard.{Hears}
use Rattle.wef_front_source.specs.Replies.{MayHaveReplied, reply}
use Rattle.wef_front_source.specs.declared.hearing.Heard.{Heard}
use Rattle.wef_http.specs.declared.messages.HttpRequest.{HttpRequest}
use Rattle.wef_http_heads.specs.declared.answers.Answer.{Answer}
use Rattle.wef_http_heads.specs.declared.targets.Side.TheVariants.{Source}
use Rattle.wef_keeper.specs.Keeping.{Store}
use Rattle.wef_ports.specs.Telling.{Told}
use Rattle.wef_serving.specs.Serving.{AnswersAt, LeavesAt, RespondsInTurn}
use Rattle.wef_serving.specs.Turns.{Ends}
use Rattle.wef_serving.specs.declared.ends.ConnectionEnd.{ConnectionEnd}
use Rattle.wef_source.specs.Machine.{End}
use Rattle.wef_source.specs.State.{SourceState}

-- What is known of a source: what the keeper of its log tells, and what it remembers.
pub record KnownSource : Type 0 where
  pub store : Store
  pub memory : End

abbrev pub known_of : {K : Type 0} → (K → Store) → SourceState K → KnownSource
known_of store s = record { store = store s.keeper; memory = s.memory }

-- a fact of what is heard in a request at a moment
abbrev pub Hearing : ℕ → HttpRequest → (Heard → Type 0) → Type 0
Hearing moment request Holds = (heard : Heard) × Hears moment request.charset request.body heard × Holds heard

-- At a moment a source answers a request so, in its charset, and this is the source then: its store is as it was.
abbrev pub Answers : ℕ → KnownSource → HttpRequest → Answer → KnownSource → Type 0
Answers moment before request answer now =
    Hearing moment request (λ heard. record { answer = answer; end = now.memory } ≡ reply before.memory heard request.charset moment) × (now.store ≡ before.store)

-- the same where there was no memory for the answer: nothing was done, or what is asked was or wasn't, without its answer
abbrev pub Leaves : ℕ → KnownSource → HttpRequest → KnownSource → Type 0
Leaves moment before request now =
    ((now.memory ≡ before.memory) ⊎ Hearing moment request (λ heard. MayHaveReplied before.memory heard moment now.memory)) × (now.store ≡ before.store)

-- The present connection of a port was served for a source, at the moments that a clock tells, and ended so.
abbrev pub EndsConnection : Option ℕ → Told → KnownSource → Told → KnownSource → ConnectionEnd → Type 0
EndsConnection clock before s now t over = Ends Source (AnswersAt clock Answers) (LeavesAt clock Leaves) before.coming before s now t over

-- The requests of a connection were answered for a source, one after the other, at the moments that a clock tells. This holds of any
-- connection, also where its bytes aren't told.
abbrev pub AnswersInTurn : Option ℕ → KnownSource → KnownSource → Type 0
AnswersInTurn clock s t = RespondsInTurn (AnswersAt clock Answers) (LeavesAt clock Leaves) s t
