-- What becomes of the bytes of a connection (RFC 9112, 9): requests that are answered one after the other, and how it ends.
use Rattle.std.specs.Prelude.{◌≡◌, ◌⊎◌, ◌≤◌, ℕ, true, false, List, [], ◌++◌, take, Option, Some, None, IfSome}
use Rattle.wef_base.specs.declared.moments.TheConstants.{LAST_MOMENT}
use Rattle.wef_base.specs.declared.tree.Charset.TheVariants.{Utf8}
use Rattle.wef_http_heads.specs.declared.answers.Answer.{Answer}
use Rattle.wef_http.specs.Messages.{IsRequest, RefusesRequest}
use Rattle.wef_http.specs.declared.messages.HttpRequest.{HttpRequest}
use Rattle.wef_http_heads.specs.Statuses.{refusal}
use Rattle.wef_http_heads.specs.declared.ends.HttpEnd.{HttpEnd}
use Rattle.wef_http_heads.specs.declared.ends.HttpEnd.TheVariants as http
use Rattle.wef_http_heads.specs.declared.targets.Side.{Side}
use Rattle.wef_http.specs.Written.{has_body, is_status, response}
use Rattle.wef_serving.specs.declared.ends.ConnectionEnd.{ConnectionEnd}
use Rattle.wef_serving.specs.declared.ends.ConnectionEnd.TheVariants as over

-- the moment that a clock tells, or some moment where it tells none; none is behind the greatest
abbrev pub IsMoment : Option ℕ → ℕ → Type 0
IsMoment clock moment = (moment ≤ LAST_MOMENT) × IfSome clock (λ told. moment ≡ told)

-- at a moment of a clock
abbrev pub AtMoment : Option ℕ → (ℕ → Type 0) → Type 0
AtMoment clock Holds = (moment : ℕ) × IsMoment clock moment × Holds moment

-- how an end answers a request, at the moment that the clock tells
abbrev pub AnswersAt : {S : Type 0} → Option ℕ → (ℕ → S → HttpRequest → Answer → S → Type 0) → S → HttpRequest → Answer → S → Type 0
AnswersAt clock Answers s request answer t = AtMoment clock (λ moment. Answers moment s request answer t)

-- what an end leaves where it has no memory for an answer
abbrev pub LeavesAt : {S : Type 0} → Option ℕ → (ℕ → S → HttpRequest → S → Type 0) → S → HttpRequest → S → Type 0
LeavesAt clock Leaves s request t = AtMoment clock (λ moment. Leaves moment s request t)

-- an answer is an envelope under its status, or empty
abbrev pub CanBeWritten : Answer → Type 0
CanBeWritten answer = (is_status answer.status ≡ true) × (has_body answer.status ≡ false → answer.body ≡ [])

-- the response to a request, in its charset
abbrev pub response_to : HttpRequest → Answer → List ℕ
response_to request answer = response answer.status request.charset answer.body

-- the response that refuses a request
abbrev pub refusal_with : ℕ → List ℕ
refusal_with status = response status Utf8 []

-- the port failed, or memory was wanting
abbrev pub IsBroken : ConnectionEnd → Type 0
IsBroken over.PortFailed = Unit {0}
IsBroken over.NoMemory = Unit {0}
IsBroken e = ⊥

-- The bytes of a connection, the end that serves it before them and behind them, what is sent, and how the connection ends. Each
-- request is answered once, behind those before it, and what follows one that doesn't keep the connection isn't looked at.
pub data Serves {S : Type 0} (side : Side) (Answers : S → HttpRequest → Answer → S → Type 0) (Leaves : S → HttpRequest → S → Type 0)
    : List ℕ → S → List ℕ → S → ConnectionEnd → Type 0 where
  -- the bytes end before a request
  finishes : (bytes : List ℕ) (s : S) → RefusesRequest side bytes http.End → Serves side Answers Leaves bytes s [] s over.End
  -- the bytes end inside a request
  cuts : (bytes : List ℕ) (s : S) → RefusesRequest side bytes http.Cut → Serves side Answers Leaves bytes s [] s over.Cut
  -- a request is refused for its bytes
  refuses : (bytes : List ℕ) (s : S) (e : HttpEnd) (status : ℕ) → RefusesRequest side bytes e → refusal e ≡ Some status
      → Serves side Answers Leaves bytes s (refusal_with status) s (over.Refused status)
  -- a request is answered, and doesn't keep the connection
  closes : (bytes rest : List ℕ) (s t : S) (request : HttpRequest) (answer : Answer) → IsRequest side bytes request rest → Answers s request answer t → request.keep ≡ false
      → Serves side Answers Leaves bytes s (response_to request answer) t over.Closed
  -- a request is answered, and then what follows it
  goes_on : (bytes rest more : List ℕ) (s t u : S) (request : HttpRequest) (answer : Answer) (e : ConnectionEnd) → IsRequest side bytes request rest → Answers s request answer t → request.keep ≡ true
      → Serves side Answers Leaves rest t more u e → Serves side Answers Leaves bytes s (response_to request answer ++ more) u e
  -- the connection breaks while a request is read
  breaks : (bytes : List ℕ) (s : S) (e : ConnectionEnd) → IsBroken e → Serves side Answers Leaves bytes s [] s e
  -- the port fails inside a refusal
  refuses_part : (bytes : List ℕ) (s : S) (e : HttpEnd) (status n : ℕ) → RefusesRequest side bytes e → refusal e ≡ Some status
      → Serves side Answers Leaves bytes s (take n (refusal_with status)) s over.PortFailed
  -- the port fails inside an answer
  answers_part : (bytes rest : List ℕ) (s t : S) (request : HttpRequest) (answer : Answer) (n : ℕ) → IsRequest side bytes request rest → Answers s request answer t
      → Serves side Answers Leaves bytes s (take n (response_to request answer)) t over.PortFailed
  -- there is no memory for an answer
  leaves : (bytes rest : List ℕ) (s t : S) (request : HttpRequest) → IsRequest side bytes request rest → Leaves s request t ⊎ ((answer : Answer) × Answers s request answer t)
      → Serves side Answers Leaves bytes s [] t over.NoMemory

-- What becomes of an end by one request, whatever the bytes that it came in: it is answered, or there is no memory for its answer.
abbrev pub Responds : {S : Type 0} → (S → HttpRequest → Answer → S → Type 0) → (S → HttpRequest → S → Type 0) → S → S → Type 0
Responds Answers Leaves s t = (request : HttpRequest) × (Leaves s request t ⊎ ((answer : Answer) × Answers s request answer t))

-- What becomes of it by any number of them, one after the other.
pub data RespondsInTurn {S : Type 0} (Answers : S → HttpRequest → Answer → S → Type 0) (Leaves : S → HttpRequest → S → Type 0) : S → S → Type 0 where
  to_none : (s : S) → RespondsInTurn Answers Leaves s s
  to_one_more : (s t u : S) → RespondsInTurn Answers Leaves s t → Responds Answers Leaves t u → RespondsInTurn Answers Leaves s u

-- how a connection ends where no request is read, for this
abbrev pub ending_of : Option ℕ → HttpEnd → ConnectionEnd
ending_of (Some status) e = over.Refused status
ending_of None http.End = over.End
ending_of None http.Cut = over.Cut
ending_of None http.ReadFault = over.PortFailed
ending_of None e = over.NoMemory

abbrev pub ending : HttpEnd → ConnectionEnd
ending e = ending_of (refusal e) e
