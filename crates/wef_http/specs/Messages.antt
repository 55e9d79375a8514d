-- The messages of a connection (RFC 9112, 2.1): a head, and the body that it says.
use Rattle.std.specs.Prelude.{◌≡◌, ◌⊎◌, List, ℕ, true}
use Rattle.wef_http_heads.specs.Fields.{is_host}
use Rattle.wef_http_heads.specs.Heads.{PlansRequest, PlansResponse, RefusesRequestHead, RefusesResponseHead}
use Rattle.wef_http_heads.specs.declared.ends.HttpEnd.{HttpEnd}
use Rattle.wef_http_heads.specs.declared.plans.RequestPlan.{RequestPlan}
use Rattle.wef_http_heads.specs.declared.plans.ResponsePlan.{ResponsePlan}
use Rattle.wef_http_heads.specs.declared.targets.Side.{Side}
use Rattle.wef_http.specs.Bodies.{FitsBody, IsBody, RefusesBody}
use Rattle.wef_http.specs.declared.messages.HttpRequest.{HttpRequest}
use Rattle.wef_http.specs.declared.messages.HttpResponse.{HttpResponse}

-- A plan has a length within the limit, where it has one, and a good host.
abbrev pub FitsRequest : RequestPlan → Type 0
FitsRequest plan = FitsBody plan.framing × (is_host plan.host ≡ true)

-- the request that a head and a body are
abbrev pub request_with : RequestPlan → List ℕ → HttpRequest
request_with plan body = record { target = plan.target; host = plan.host; charset = plan.charset; body = body; keep = plan.keep }

-- Bytes are this request to an end, and then the rest.
abbrev pub IsRequest : Side → List ℕ → HttpRequest → List ℕ → Type 0
IsRequest side bytes request rest =
    (plan : RequestPlan) × (middle : List ℕ) × PlansRequest side bytes plan middle × IsBody plan.framing middle request.body rest × (request ≡ request_with plan request.body)

-- Bytes don't begin with a request to an end, for this.
abbrev pub RefusesRequest : Side → List ℕ → HttpEnd → Type 0
RefusesRequest side bytes e =
    RefusesRequestHead side bytes e
    ⊎ ((plan : RequestPlan) × (middle : List ℕ) × PlansRequest side bytes plan middle × RefusesBody plan.framing middle e)

-- the response that a head and a body are
abbrev pub response_with : ResponsePlan → List ℕ → HttpResponse
response_with plan body = record { status = plan.status; charset = plan.charset; body = body }

-- Bytes are this response, and then the rest.
abbrev pub IsResponse : List ℕ → HttpResponse → List ℕ → Type 0
IsResponse bytes response rest =
    (plan : ResponsePlan) × (middle : List ℕ) × PlansResponse bytes plan middle × IsBody plan.framing middle response.body rest × (response ≡ response_with plan response.body)

-- Bytes don't begin with a response, for this.
abbrev pub RefusesResponse : List ℕ → HttpEnd → Type 0
RefusesResponse bytes e =
    RefusesResponseHead bytes e
    ⊎ ((plan : ResponsePlan) × (middle : List ℕ) × PlansResponse bytes plan middle × RefusesBody plan.framing middle e)
