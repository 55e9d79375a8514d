-- One message at most, and no refusal beside it.
use Rattle.std.proofs.Common.{◌≡◌, ℕ, List, sym, ◌∙◌, subst, inl, inr}
use Rattle.wef_http_heads.specs.declared.ends.HttpEnd.{HttpEnd}
use Rattle.wef_http_heads.specs.declared.targets.Side.{Side}
use Rattle.wef_http_heads.proofs.One.{one_head}
use Rattle.wef_http.specs.declared.messages.HttpRequest.{HttpRequest}
use Rattle.wef_http.specs.declared.messages.HttpResponse.{HttpResponse}
use Rattle.wef_http.specs.Bodies.{IsBody, RefusesBody}
use Rattle.wef_http.specs.Laws.{OneRequest, OneResponse}
use Rattle.wef_http.specs.Messages.{IsRequest, IsResponse, RefusesRequest, RefusesResponse, request_with, response_with}
use Rattle.wef_http_heads.specs.Laws.{IsByBytes}
use Rattle.wef_http.proofs.OneBody.{body_stands, one_body}
use Rattle.wef_http.proofs.OneReason.{request_reason, response_reason}
use Rattle.wef_http.proofs.ResponseKinds.{response_kinds}

one_request : (side : Side) (bytes : List ℕ) (one two : HttpRequest) (r s : List ℕ) → IsRequest side bytes one r → IsRequest side bytes two s → (one ≡ two) × (r ≡ s)
one_request side bytes one two r s (plan, middle, head, body, is) (other, next, begins, holds, are) =
    let same = one_head.request side bytes plan other middle next head begins in
    let here = subst (λ (xs : List ℕ). IsBody other.framing xs two.body s) (sym same.1) holds in
    let both = one_body plan.framing middle one.body two.body r s body (subst (λ p. IsBody p.framing middle two.body s) (sym same.0) here) in
    (is ∙ (λ i. request_with (same.0 i) (both.0 i)) ∙ sym are, both.1)

request_stands : (side : Side) (bytes : List ℕ) (request : HttpRequest) (r : List ℕ) (e : HttpEnd) → IsRequest side bytes request r → RefusesRequest side bytes e → IsByBytes e → ⊥
request_stands side bytes request r e (plan, middle, head, body, is) (inl bad) by = one_head.request_stands side bytes plan middle e head bad by
request_stands side bytes request r e (plan, middle, head, body, is) (inr (other, next, begins, bad)) by =
    let same = one_head.request side bytes plan other middle next head begins in
    let here = subst (λ (xs : List ℕ). RefusesBody other.framing xs e) (sym same.1) bad in
    body_stands plan.framing middle request.body r e body (subst (λ p. RefusesBody p.framing middle e) (sym same.0) here)

pub only_request : OneRequest
only_request = record { same = one_request; stands = request_stands; reason = request_reason }

one_response : (bytes : List ℕ) (one two : HttpResponse) (r s : List ℕ) → IsResponse bytes one r → IsResponse bytes two s → (one ≡ two) × (r ≡ s)
one_response bytes one two r s (plan, middle, head, body, is) (other, next, begins, holds, are) =
    let same = one_head.response bytes plan other middle next head begins in
    let here = subst (λ (xs : List ℕ). IsBody other.framing xs two.body s) (sym same.1) holds in
    let both = one_body plan.framing middle one.body two.body r s body (subst (λ p. IsBody p.framing middle two.body s) (sym same.0) here) in
    (is ∙ (λ i. response_with (same.0 i) (both.0 i)) ∙ sym are, both.1)

response_stands : (bytes : List ℕ) (response : HttpResponse) (r : List ℕ) (e : HttpEnd) → IsResponse bytes response r → RefusesResponse bytes e → IsByBytes e → ⊥
response_stands bytes response r e (plan, middle, head, body, is) (inl bad) by = one_head.response_stands bytes plan middle e head bad by
response_stands bytes response r e (plan, middle, head, body, is) (inr (other, next, begins, bad)) by =
    let same = one_head.response bytes plan other middle next head begins in
    let here = subst (λ (xs : List ℕ). RefusesBody other.framing xs e) (sym same.1) bad in
    body_stands plan.framing middle response.body r e body (subst (λ p. RefusesBody p.framing middle e) (sym same.0) here)

pub only_response : OneResponse
only_response = record { same = one_response; stands = response_stands; reason = response_reason; kinds = response_kinds }
