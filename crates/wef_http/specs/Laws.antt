-- Laws of messages: that bytes are at most one of them, and that what is written is read as it was meant.
use Rattle.std.specs.Prelude.{◌≡◌, ◌≢◌, ◌⊎◌, ℕ, List, None, ◌+◌, ◌≤◌, [], ◌++◌, length, true, false, Some, IsUtf8, if◌then◌else◌}
use Rattle.wef_http_heads.specs.declared.ends.HttpEnd.{HttpEnd}
use Rattle.wef_http_heads.specs.declared.ends.HttpEnd.TheVariants.{BadHead, Method, Path, NoLength, Cut}
use Rattle.wef_http_heads.specs.declared.targets.Side.{Side}
use Rattle.wef_http.specs.declared.messages.HttpRequest.{HttpRequest}
use Rattle.wef_http.specs.declared.messages.HttpResponse.{HttpResponse}
use Rattle.wef_http.specs.Messages.{IsRequest, IsResponse, RefusesRequest, RefusesResponse}
use Rattle.wef_http_heads.specs.Ends.{behind_head}
use Rattle.wef_http_heads.specs.Laws.{IsByBytes}
use Rattle.httparse.specs.Grammar.{AllPass, is_uri_byte}
use Rattle.wef_base.specs.declared.tree.Charset.{Charset}
use Rattle.wef_base.specs.declared.tree.Charset.TheVariants.{Utf8}
use Rattle.wef_http_heads.specs.Fields.{is_host}
use Rattle.wef_http_heads.specs.Statuses.{refusal}
use Rattle.wef_http_heads.specs.Targets.{target_at}
use Rattle.wef_http_heads.specs.declared.heads.TheConstants.{BODY_LIMIT, HEAD_LIMIT}
use Rattle.wef_http_heads.specs.declared.targets.Target.{Target}
use Rattle.wef_http.specs.Written.{has_body, is_status, request, request_head, response}

-- where no head has ended, bytes that no continuation makes good may be refused for either
abbrev pub IsChoice : List ℕ → HttpEnd → HttpEnd → Type 0
IsChoice bytes e f = (e ≡ BadHead) × (f ≡ Cut) × (behind_head bytes ≡ None)

-- two reasons in the same bytes are one, but for that choice
abbrev pub IsOneReason : List ℕ → HttpEnd → HttpEnd → Type 0
IsOneReason bytes e f = (e ≡ f) ⊎ IsChoice bytes e f ⊎ IsChoice bytes f e

-- Bytes begin with at most one request, and where they do there is no reason in them to refuse it; else there is at most one.
pub record OneRequest : Type 0 where
  pub same : (side : Side) (bytes : List ℕ) (one two : HttpRequest) (r s : List ℕ) → IsRequest side bytes one r → IsRequest side bytes two s → (one ≡ two) × (r ≡ s)
  pub stands : (side : Side) (bytes : List ℕ) (request : HttpRequest) (r : List ℕ) (e : HttpEnd) → IsRequest side bytes request r → RefusesRequest side bytes e → IsByBytes e → ⊥
  pub reason : (side : Side) (bytes : List ℕ) (e f : HttpEnd) → IsByBytes e → IsByBytes f → RefusesRequest side bytes e → RefusesRequest side bytes f → IsOneReason bytes e f

-- The same of responses, which are never refused for a method, a path or a missing length.
pub record OneResponse : Type 0 where
  pub same : (bytes : List ℕ) (one two : HttpResponse) (r s : List ℕ) → IsResponse bytes one r → IsResponse bytes two s → (one ≡ two) × (r ≡ s)
  pub stands : (bytes : List ℕ) (response : HttpResponse) (r : List ℕ) (e : HttpEnd) → IsResponse bytes response r → RefusesResponse bytes e → IsByBytes e → ⊥
  pub reason : (bytes : List ℕ) (e f : HttpEnd) → IsByBytes e → IsByBytes f → RefusesResponse bytes e → RefusesResponse bytes f → IsOneReason bytes e f
  pub kinds : (bytes : List ℕ) (e : HttpEnd) → RefusesResponse bytes e → (e ≢ Method) × (e ≢ Path) × (e ≢ NoLength)

-- what a request line may have for a path: UTF-8 without spaces and control characters
abbrev pub IsPath : List ℕ → Type 0
IsPath path = AllPass is_uri_byte path × IsUtf8 path

-- the request that is meant for a target and of a host, with a body
abbrev pub request_meant : Target → List ℕ → List ℕ → HttpRequest
request_meant target host body = record { target = target; host = host; charset = Utf8; body = body; keep = false }

-- the response that is meant; one that has no body says no charset, which counts as UTF-8
abbrev pub response_meant : ℕ → Charset → List ℕ → HttpResponse
response_meant status charset body = record { status = status; charset = if has_body status then charset else Utf8; body = body }

-- Each refusal of a request that has a response has one that is written, without a body.
abbrev pub RefusalsAreWritten : Type 0
RefusalsAreWritten = (e : HttpEnd) (status : ℕ) → refusal e ≡ Some status → (is_status status ≡ true) × (has_body status ≡ false)

-- The head of a request has at most 128 bytes beside its host and its path.
abbrev pub RequestHeadsAreShort : Type 0
RequestHeadsAreShort = (host path : List ℕ) (size : ℕ) → size ≤ BODY_LIMIT → length (request_head host path size) ≤ 128 + length host + length path

-- A request for a target that the end serves is read by that end as it was meant, whatever follows it.
abbrev pub RequestsAreRead : Type 0
RequestsAreRead =
    (side : Side) (target : Target) (host path body more : List ℕ)
    → is_host host ≡ true → IsPath path → target_at side path ≡ Some target
    → length (request_head host path (length body)) ≤ HEAD_LIMIT → length body ≤ BODY_LIMIT
    → IsRequest side (request host path body ++ more) (request_meant target host body) more

-- A response is read as it was meant, whatever follows it.
abbrev pub ResponsesAreRead : Type 0
ResponsesAreRead =
    (status : ℕ) (charset : Charset) (body more : List ℕ)
    → is_status status ≡ true → (has_body status ≡ false → body ≡ []) → length body ≤ BODY_LIMIT
    → IsResponse (response status charset body ++ more) (response_meant status charset body) more
