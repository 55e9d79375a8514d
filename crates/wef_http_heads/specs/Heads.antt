-- The heads that bytes begin with, within the limits, and what is refused.
use Rattle.std.specs.Prelude.{◌≡◌, ◌≢◌, ℕ, ◌⊎◌, ◌<◌, ◌≤◌, List, [], ◌++◌, length, drop, None, Result}
use Rattle.std.specs.declared.result.Result.TheVariants.{Ok, Err}
use Rattle.httparse.specs.Grammar.{Field, RequestHead, ReadsRequest, ResponseHead, ReadsResponse, print_request, print_response}
use Rattle.wef_http_heads.specs.declared.ends.HttpEnd.{HttpEnd}
use Rattle.wef_http_heads.specs.declared.ends.HttpEnd.TheVariants.{NoMemory, End, BadHead, Cut, ReadFault}
use Rattle.wef_http_heads.specs.declared.heads.TheConstants.{FIELD_LIMIT, HEAD_LIMIT}
use Rattle.wef_http_heads.specs.declared.plans.Found.{Found}
use Rattle.wef_http_heads.specs.declared.plans.Found.TheVariants.{Whole, Partial}
use Rattle.wef_http_heads.specs.declared.plans.RequestPlan.{RequestPlan}
use Rattle.wef_http_heads.specs.declared.plans.ResponsePlan.{ResponsePlan}
use Rattle.wef_http_heads.specs.declared.targets.Side.{Side}
use Rattle.wef_http_heads.specs.Ends.{behind_head}
use Rattle.wef_http_heads.specs.Judging.{judged_request, judged_response}

-- a head's text and its fields are within the limits
pub record IsShort (text : List ℕ) (fields : List Field) : Type 0 where
  pub bytes : length text ≤ HEAD_LIMIT
  pub fields_fit : length fields ≤ FIELD_LIMIT

-- bytes are the head of a request within the limits, and then a rest
abbrev pub BeginsRequest : List ℕ → RequestHead → List ℕ → Type 0
BeginsRequest bytes h rest = ReadsRequest bytes h rest × IsShort (print_request h) h.fields

-- the same of a response
abbrev pub BeginsResponse : List ℕ → ResponseHead → List ℕ → Type 0
BeginsResponse bytes h rest = ReadsResponse bytes h rest × IsShort (print_response h) h.fields

-- no continuation of the bytes begins with a head within the limits
abbrev pub IsHopeless : {H : Type 0} → (List ℕ → H → List ℕ → Type 0) → List ℕ → Type 0
IsHopeless {H} Begins bytes = (more : List ℕ) (h : H) (rest : List ℕ) → Begins (bytes ++ more) h rest → ⊥

-- bytes are a head of which this is judged, and then the rest
abbrev pub IsJudged : {H P : Type 0} → (List ℕ → H → List ℕ → Type 0) → (H → Result P HttpEnd) → List ℕ → Result P HttpEnd → List ℕ → Type 0
IsJudged {H} Begins judged bytes given rest = (h : H) × Begins bytes h rest × (judged h ≡ given)

-- What a refusal says of the bytes. Where they end inside a head that no continuation makes good, both BadHead and Cut are allowed.
abbrev pub RefusesHead : {H P : Type 0} → (List ℕ → H → List ℕ → Type 0) → (H → Result P HttpEnd) → List ℕ → HttpEnd → Type 0
RefusesHead Begins judged bytes BadHead = IsHopeless Begins bytes ⊎ ((rest : List ℕ) × IsJudged Begins judged bytes (Err BadHead) rest)
RefusesHead Begins judged bytes Cut = (behind_head bytes ≡ None) × (0 < length bytes)
RefusesHead Begins judged bytes End = bytes ≡ []
RefusesHead Begins judged bytes NoMemory = Unit {0}
RefusesHead Begins judged bytes ReadFault = Unit {0}
RefusesHead Begins judged bytes e = (rest : List ℕ) × IsJudged Begins judged bytes (Err e) rest

-- Bytes are the head of a good request to an end, and then the rest.
abbrev pub PlansRequest : Side → List ℕ → RequestPlan → List ℕ → Type 0
PlansRequest side bytes plan rest = IsJudged BeginsRequest (judged_request side) bytes (Ok plan) rest

-- Bytes don't begin with the head of a good request to an end, for this.
abbrev pub RefusesRequestHead : Side → List ℕ → HttpEnd → Type 0
RefusesRequestHead side bytes e = RefusesHead BeginsRequest (judged_request side) bytes e

-- Bytes are the head of a good response, and then the rest.
abbrev pub PlansResponse : List ℕ → ResponsePlan → List ℕ → Type 0
PlansResponse bytes plan rest = IsJudged BeginsResponse judged_response bytes (Ok plan) rest

-- Bytes don't begin with the head of a good response, for this.
abbrev pub RefusesResponseHead : List ℕ → HttpEnd → Type 0
RefusesResponseHead bytes e = RefusesHead BeginsResponse judged_response bytes e

-- a head that was found is good and has this length; where a part was found, no head has ended and there is room for more
abbrev pub Finds : {P : Type 0} → (List ℕ → P → List ℕ → Type 0) → List ℕ → Found P → Type 0
Finds Plans bytes (Whole plan len) = (0 < len) × (len ≤ length bytes) × (len ≤ HEAD_LIMIT) × Plans bytes plan (drop len bytes)
Finds Plans bytes Partial = (behind_head bytes ≡ None) × (length bytes < HEAD_LIMIT)

abbrev pub FindsRequest : Side → List ℕ → Found RequestPlan → Type 0
FindsRequest side bytes found = Finds (PlansRequest side) bytes found

abbrev pub FindsResponse : List ℕ → Found ResponsePlan → Type 0
FindsResponse bytes found = Finds PlansResponse bytes found

-- a refusal by the bytes at hand, whatever follows
abbrev pub IsOfBytes : HttpEnd → Type 0
IsOfBytes e = (e ≢ End) × (e ≢ Cut) × (e ≢ ReadFault)
