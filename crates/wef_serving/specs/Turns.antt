-- A connection served turn by turn.
use Rattle.std.specs.Prelude.{◌≡◌, ◌⊎◌, ℕ, true, false, List, ◌++◌, Option, Some, None, Result}
use Rattle.std.specs.declared.result.Result.TheVariants.{Ok, Err}
use Rattle.std.specs.Io.KnownBytes.{Appends}
use Rattle.wef_http_heads.specs.declared.answers.Answer.{Answer}
use Rattle.wef_http.specs.declared.messages.HttpRequest.{HttpRequest}
use Rattle.wef_http_heads.specs.Statuses.{refusal}
use Rattle.wef_http_heads.specs.declared.ends.HttpEnd.{HttpEnd}
use Rattle.wef_http_heads.specs.declared.ends.HttpEnd.TheVariants as http
use Rattle.wef_http_heads.specs.declared.targets.Side.{Side}
use Rattle.wef_http.specs.Sending.{Sends, SendsPart}
use Rattle.wef_ports.specs.Telling.{Told}
use Rattle.wef_serving.specs.Serving.{Serves, refusal_with, response_to}
use Rattle.wef_serving.specs.declared.ends.ConnectionEnd.{ConnectionEnd}
use Rattle.wef_serving.specs.declared.ends.ConnectionEnd.TheVariants as over

-- of the bytes ahead, where they are told, and of what is sent since
abbrev pub OnSent : Option (List ℕ) → Option (List ℕ) → Option (List ℕ) → (List ℕ → List ℕ → Type 0) → Type 0
OnSent None before now Holds = Unit {0}
OnSent (Some bytes) before now Holds = (new : List ℕ) × Appends before now new × Holds bytes new

-- the same, and of the bytes that are ahead then
abbrev pub OnBoth : Option (List ℕ) → Option (List ℕ) → Option (List ℕ) → Option (List ℕ) → (List ℕ → List ℕ → List ℕ → Type 0) → Type 0
OnBoth None before left now Holds = Unit {0}
OnBoth (Some bytes) before None now Holds = ⊥
OnBoth (Some bytes) before (Some rest) now Holds = (new : List ℕ) × Appends before now new × Holds bytes new rest

module _ {S : Type 0} (side : Side) (Answers : S → HttpRequest → Answer → S → Type 0) (Leaves : S → HttpRequest → S → Type 0) where
  -- what is served from now on is served from the beginning, behind what was sent since
  abbrev pub Continues : Option (List ℕ) → Told → S → Option (List ℕ) → Told → S → Type 0
  Continues ahead before s left now t = OnBoth ahead before.sent left now.sent (λ bytes new rest.
      (more : List ℕ) (u : S) (e : ConnectionEnd) → Serves side Answers Leaves rest t more u e → Serves side Answers Leaves bytes s (new ++ more) u e)

  -- the connection was served to its end
  abbrev pub Ends : Option (List ℕ) → Told → S → Told → S → ConnectionEnd → Type 0
  Ends ahead before s now t e = OnSent ahead before.sent now.sent (λ bytes new. Serves side Answers Leaves bytes s new t e)

  -- one turn: a request was answered, or the connection ends
  abbrev pub Turns : Option (List ℕ) → Told → S → Option (List ℕ) → Told → S → Result Unit ConnectionEnd → Type 0
  Turns ahead before s left now t (Ok done) = Continues ahead before s left now t
  Turns ahead before s left now t (Err e) = Ends ahead before s now t e

-- what became of a request that was read: whether it was answered, and what was sent of that
abbrev pub HasAnswered : {S : Type 0} → (S → HttpRequest → Answer → S → Type 0) → (S → HttpRequest → S → Type 0)
    → HttpRequest → Told → S → Told → S → Result Unit ConnectionEnd → Type 0
HasAnswered Answers Leaves request before s now t (Ok done) = (request.keep ≡ true) × (answer : Answer) × Answers s request answer t × Sends before now (response_to request answer)
HasAnswered Answers Leaves request before s now t (Err over.Closed) = (request.keep ≡ false) × (answer : Answer) × Answers s request answer t × Sends before now (response_to request answer)
HasAnswered Answers Leaves request before s now t (Err over.PortFailed) = (answer : Answer) × Answers s request answer t × SendsPart before now (response_to request answer)
HasAnswered Answers Leaves request before s now t (Err over.NoMemory) = (now ≡ before) × (Leaves s request t ⊎ ((answer : Answer) × Answers s request answer t))
HasAnswered Answers Leaves request before s now t (Err e) = ⊥

-- how the refusal with a status was sent
abbrev pub SendsRefusal : ℕ → Told → Told → ConnectionEnd → Type 0
SendsRefusal status before now (over.Refused said) = (said ≡ status) × Sends before now (refusal_with status)
SendsRefusal status before now over.PortFailed = SendsPart before now (refusal_with status)
SendsRefusal status before now over.NoMemory = now ≡ before
SendsRefusal status before now e = ⊥

-- what became of a connection in which no request was read, for this
abbrev pub HasRefused : HttpEnd → Told → Told → ConnectionEnd → Type 0
HasRefused e before now (over.Refused status) = (refusal e ≡ Some status) × Sends before now (refusal_with status)
HasRefused e before now over.PortFailed = ((e ≡ http.ReadFault) × (now ≡ before)) ⊎ ((status : ℕ) × (refusal e ≡ Some status) × SendsPart before now (refusal_with status))
HasRefused e before now over.NoMemory = now ≡ before
HasRefused e before now over.End = (e ≡ http.End) × (now ≡ before)
HasRefused e before now over.Cut = (e ≡ http.Cut) × (now ≡ before)
HasRefused e before now over.Closed = ⊥
