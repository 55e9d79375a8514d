-- What the spans of a whole head say of it.
use Rattle.std.proofs.Common.{All, subst, ◌≡◌, ℕ, ◌≤◌, ◌<◌, List, length, take, drop, map, ap, sym, ◌∙◌, arith, inr, Result, Ok, Err}
use Rattle.std.proofs.lemmas.List.{length-append, length-map, length-take-le}
use Rattle.std.proofs.lemmas.List.Elements.{All-weaker}
use Rattle.httparse.specs.declared.spans.HeaderSpan.{HeaderSpan}
use Rattle.httparse.specs.declared.spans.RequestSpans.{RequestSpans}
use Rattle.httparse.specs.declared.spans.ResponseSpans.{ResponseSpans}
use Rattle.httparse.specs.Grammar.{Field, RequestHead, ResponseHead, print_request, print_response}
use Rattle.httparse.specs.Spans.{AreFieldsAt, IsHeaderWithin, IsRequestAt, IsRequestOf, IsRequestWithin, IsResponseAt, IsResponseOf, IsResponseWithin, header_bytes, name_and_value, span_bytes}
use Rattle.wef_http_heads.specs.declared.ends.HttpEnd.{HttpEnd}
use Rattle.wef_http_heads.specs.declared.ends.HttpEnd.TheVariants.{NoMemory, End, BadHead, Method, Path, NoLength, TooLarge, Media, Cut, ReadFault}
use Rattle.wef_http_heads.specs.declared.plans.Found.TheVariants.{Whole}
use Rattle.wef_http_heads.specs.declared.plans.RequestPlan.{RequestPlan}
use Rattle.wef_http_heads.specs.declared.plans.ResponsePlan.{ResponsePlan}
use Rattle.wef_http_heads.specs.declared.targets.Side.{Side}
use Rattle.wef_http_heads.specs.Heads.{BeginsRequest, BeginsResponse, FindsRequest, FindsResponse, IsOfBytes, IsShort, RefusesHead, RefusesRequestHead, RefusesResponseHead}
use Rattle.wef_http_heads.specs.Judging.{judged_request, judged_response, request_of, response_of}
use Rattle.wef_http_heads.specs.Steps.{Judges}

-- what lies in a head lies in the bytes that have it
pub headers_within : (n m : ℕ) (headers : List HeaderSpan) → n ≤ m → All (IsHeaderWithin n) headers → All (IsHeaderWithin m) headers
headers_within n m headers more all =
    All-weaker (IsHeaderWithin n) (IsHeaderWithin m) (λ h within. ((within.0.0, omega (arith, within.0.1)), (within.1.0, omega (arith, within.1.1)))) headers all

-- the fields are as many as the spans
fields_fit : (buf : List ℕ) (headers : List HeaderSpan) (count limit : ℕ) (fields : List Field) → AreFieldsAt buf headers count fields → count ≤ length headers → length headers ≤ limit → length fields ≤ limit
fields_fit buf headers count limit fields are fits room =
    let as_many : length fields ≡ length (take count headers) = sym (length-map fields name_and_value) ∙ ap length (sym are) ∙ length-map (take count headers) (header_bytes buf) in
    let taken = length-take-le count headers fits in
    omega arith

-- a head whose text and spans are within the limits
is_short :
    (buf : List ℕ) (headers : List HeaderSpan) (count : ℕ) (text : List ℕ) (fields : List Field) →
    length text ≤ 65536 → AreFieldsAt buf headers count fields → count ≤ length headers → length headers ≤ 64 → IsShort text fields
is_short buf headers count text fields short are fits room = record { bytes = short; fields_fit = fields_fit buf headers count 64 fields are fits room }

-- a judge's refusal of a head that is there
refused : {H P : Type 0} (Begins : List ℕ → H → List ℕ → Type 0) (judged : H → Result P HttpEnd) (bytes : List ℕ) (h : H) (rest : List ℕ) (e : HttpEnd) → Begins bytes h rest → Judges {A = P} (Err e) (judged h) → RefusesHead Begins judged bytes e × IsOfBytes e
refused Begins judged bytes h rest NoMemory begins is = (tt, ((λ e. cc), (λ e. cc), (λ e. cc)))
refused Begins judged bytes h rest BadHead begins is = (inr (rest, (h, begins, is)), ((λ e. cc), (λ e. cc), (λ e. cc)))
refused Begins judged bytes h rest Method begins is = ((rest, (h, begins, is)), ((λ e. cc), (λ e. cc), (λ e. cc)))
refused Begins judged bytes h rest Path begins is = ((rest, (h, begins, is)), ((λ e. cc), (λ e. cc), (λ e. cc)))
refused Begins judged bytes h rest NoLength begins is = ((rest, (h, begins, is)), ((λ e. cc), (λ e. cc), (λ e. cc)))
refused Begins judged bytes h rest TooLarge begins is = ((rest, (h, begins, is)), ((λ e. cc), (λ e. cc), (λ e. cc)))
refused Begins judged bytes h rest Media begins is = ((rest, (h, begins, is)), ((λ e. cc), (λ e. cc), (λ e. cc)))
refused Begins judged bytes h rest End begins is = absurd is
refused Begins judged bytes h rest Cut begins is = absurd is
refused Begins judged bytes h rest ReadFault begins is = absurd is

-- ---- requests

-- what is judged of the spans of a request
abbrev pub spans_judged : Side → List ℕ → List HeaderSpan → RequestSpans → Result RequestPlan HttpEnd
spans_judged side bytes headers r = request_of side (span_bytes bytes r.method) (span_bytes bytes r.path) r.version (map (header_bytes bytes) (take r.headers headers))

request_judged : (side : Side) (bytes : List ℕ) (headers : List HeaderSpan) (r : RequestSpans) (h : RequestHead) → IsRequestAt bytes headers r h → spans_judged side bytes headers r ≡ judged_request side h
request_judged side bytes headers r h at = λ i. request_of side (at.method i) (at.path i) (at.version i) (at.fields i)

request_begins : (bytes : List ℕ) (headers : List HeaderSpan) (r : RequestSpans) (h : RequestHead) → IsRequestAt bytes headers r h → IsRequestWithin bytes headers r → length headers ≤ 64 → r.len ≤ 65536 → BeginsRequest bytes h (drop r.len bytes)
request_begins bytes headers r h at within room short =
    (at.reads, is_short bytes headers r.headers (print_request h) h.fields (omega (arith, at.len)) at.fields within.section.count_fits room)

request_some : (h : RequestHead) → 0 < length h.method → 0 < length (print_request h)
unfolding print_request
request_some h some = simp (length-append) (omega arith)

pub request_found : (side : Side) (bytes : List ℕ) (headers : List HeaderSpan) (r : RequestSpans) (plan : RequestPlan) → IsRequestOf bytes headers r → IsRequestWithin bytes headers r → length headers ≤ 64 → r.len ≤ 65536 → spans_judged side bytes headers r ≡ Ok plan → FindsRequest side bytes (Whole plan r.len)
request_found side bytes headers r plan (h, at) within room short is =
    let some : 0 < r.len = omega (arith, at.len, request_some h at.reads.0.method.0) in
    (some, within.section.len_fits, short, (h, request_begins bytes headers r h at within room short, sym (request_judged side bytes headers r h at) ∙ is))

pub request_refused : (side : Side) (bytes : List ℕ) (headers : List HeaderSpan) (r : RequestSpans) (e : HttpEnd) → IsRequestOf bytes headers r → IsRequestWithin bytes headers r → length headers ≤ 64 → r.len ≤ 65536 → Judges {A = RequestPlan} (Err e) (spans_judged side bytes headers r) → RefusesRequestHead side bytes e × IsOfBytes e
request_refused side bytes headers r e (h, at) within room short is =
    refused BeginsRequest (judged_request side) bytes h (drop r.len bytes) e (request_begins bytes headers r h at within room short)
    (subst (λ given. Judges {A = RequestPlan} (Err e) given) (request_judged side bytes headers r h at) is)

-- ---- responses

-- what is judged of the spans of a response
abbrev pub spans_judged_of : List ℕ → List HeaderSpan → ResponseSpans → Result ResponsePlan HttpEnd
spans_judged_of bytes headers r = response_of r.code (map (header_bytes bytes) (take r.headers headers))

response_judged : (bytes : List ℕ) (headers : List HeaderSpan) (r : ResponseSpans) (h : ResponseHead) → IsResponseAt bytes headers r h → spans_judged_of bytes headers r ≡ judged_response h
response_judged bytes headers r h at = λ i. response_of (at.code i) (at.fields i)

response_begins : (bytes : List ℕ) (headers : List HeaderSpan) (r : ResponseSpans) (h : ResponseHead) → IsResponseAt bytes headers r h → IsResponseWithin bytes headers r → length headers ≤ 64 → r.len ≤ 65536 → BeginsResponse bytes h (drop r.len bytes)
response_begins bytes headers r h at within room short =
    (at.reads, is_short bytes headers r.headers (print_response h) h.fields (omega (arith, at.len)) at.fields within.section.count_fits room)

response_some : (h : ResponseHead) → 0 < length (print_response h)
unfolding print_response
response_some h = simp (length-append) (omega arith)

pub response_found : (bytes : List ℕ) (headers : List HeaderSpan) (r : ResponseSpans) (plan : ResponsePlan) → IsResponseOf bytes headers r → IsResponseWithin bytes headers r → length headers ≤ 64 → r.len ≤ 65536 → spans_judged_of bytes headers r ≡ Ok plan → FindsResponse bytes (Whole plan r.len)
response_found bytes headers r plan (h, at) within room short is =
    let some : 0 < r.len = omega (arith, at.len, response_some h) in
    (some, within.section.len_fits, short, (h, response_begins bytes headers r h at within room short, sym (response_judged bytes headers r h at) ∙ is))

pub response_refused : (bytes : List ℕ) (headers : List HeaderSpan) (r : ResponseSpans) (e : HttpEnd) → IsResponseOf bytes headers r → IsResponseWithin bytes headers r → length headers ≤ 64 → r.len ≤ 65536 → Judges {A = ResponsePlan} (Err e) (spans_judged_of bytes headers r) → RefusesResponseHead bytes e × IsOfBytes e
response_refused bytes headers r e (h, at) within room short is =
    refused BeginsResponse judged_response bytes h (drop r.len bytes) e (response_begins bytes headers r h at within room short)
    (subst (λ given. Judges {A = ResponsePlan} (Err e) given) (response_judged bytes headers r h at) is)
