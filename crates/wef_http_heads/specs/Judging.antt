-- What a head says of its message, or the first point in which it is refused.
use Rattle.std.specs.Prelude.{ℕ, ◌==◌, nat_le, nat_lt, Bool, not, ◌&&◌, List, map, codes, Option, Some, None, Result, if◌then◌else◌}
use Rattle.std.specs.declared.result.Result.TheVariants.{Ok}
use Rattle.std.specs.Str.{bytes_eq}
use Rattle.httparse.specs.Grammar.{RequestHead, ResponseHead, status_code}
use Rattle.httparse.specs.Spans.{name_and_value}
use Rattle.wef_http_heads.specs.declared.ends.HttpEnd.{HttpEnd}
use Rattle.wef_http_heads.specs.declared.ends.HttpEnd.TheVariants.{BadHead, Method, Path, NoLength, TooLarge, Media}
use Rattle.wef_http_heads.specs.declared.framing.Declared.{Declared}
use Rattle.wef_http_heads.specs.declared.framing.Declared.TheVariants.{Nothing, Length, TooLong, Chunked}
use Rattle.wef_http_heads.specs.declared.plans.Framing as framing
use Rattle.wef_http_heads.specs.declared.plans.Framing.TheVariants as by
use Rattle.wef_http_heads.specs.declared.plans.RequestPlan.{RequestPlan}
use Rattle.wef_http_heads.specs.declared.plans.ResponsePlan.{ResponsePlan}
use Rattle.wef_http_heads.specs.declared.targets.Side.{Side}
use Rattle.wef_http_heads.specs.Fields.{NamedValue, closes, host_in}
use Rattle.wef_http_heads.specs.Framing.{declared_in}
use Rattle.wef_http_heads.specs.Media.{request_charset, response_charset}
use Rattle.wef_http_heads.specs.Steps.{and_then, needed}
use Rattle.wef_http_heads.specs.Targets.{target_at}

-- what is there where a test passes
abbrev pub where_true : {A : Type 0} → Bool → A → Option A
where_true test a = if test then Some a else None

-- what is said of a body that must have a length or chunks
abbrev pub with_body : Declared → Option Declared
with_body Nothing = None
with_body (Length n) = Some (Length n)
with_body TooLong = Some TooLong
with_body Chunked = Some Chunked

-- where the body ends, if it isn't too long; without a length and without chunks it is empty
abbrev pub framing_of : Declared → Option framing.Framing
framing_of Nothing = Some (by.Length 0)
framing_of (Length n) = Some (by.Length n)
framing_of TooLong = None
framing_of Chunked = Some by.Chunks

-- whether the connection stays open: not in HTTP/1.0
abbrev pub keeps : ℕ → List NamedValue → Bool
keeps minor fields = minor == 1 && not (closes fields)

-- A request to an end, by its method, its target, the minor version and its fields: host and framing first, then method, path, length, media and size.
abbrev pub request_of : Side → List ℕ → List ℕ → ℕ → List NamedValue → Result RequestPlan HttpEnd
request_of side method target minor fields =
    and_then (needed BadHead (host_in fields)) (λ host.
    and_then (needed BadHead (declared_in fields)) (λ declared.
    and_then (needed Method (where_true (bytes_eq method (codes "POST")) target)) (λ path.
    and_then (needed Path (target_at side path)) (λ for.
    and_then (needed NoLength (with_body declared)) (λ body.
    and_then (needed Media (request_charset fields)) (λ charset.
    and_then (needed TooLarge (framing_of body)) (λ framing.
    Ok (record {
      target = for;
      host = host;
      charset = charset;
      keep = keeps minor fields;
      framing = framing;
    }))))))))

-- The head of a request, judged for the end that serves it.
abbrev pub judged_request : Side → RequestHead → Result RequestPlan HttpEnd
judged_request side h = request_of side h.method h.target h.minor (map name_and_value h.fields)

-- a status that has no body (RFC 9110, 15.3.5)
abbrev pub is_empty_status : ℕ → Bool
is_empty_status status = status == 204

-- what is said of the body of a response: 204 alone may have neither a length nor chunks
abbrev pub body_of : ℕ → Declared → Option Declared
body_of status declared = if is_empty_status status then Some declared else with_body declared

-- where the body of a response ends: that of 204 is empty, but what is said of it must be within the limit
abbrev pub framing_for : ℕ → framing.Framing → framing.Framing
framing_for status framing = if is_empty_status status then by.Length 0 else framing

-- a status of three digits that isn't below 100
abbrev pub status_within : ℕ → Option ℕ
status_within status = where_true (nat_le 100 status && nat_lt status 1000) status

-- A response, by its status and its fields: status and framing first, then media and size.
abbrev pub response_of : ℕ → List NamedValue → Result ResponsePlan HttpEnd
response_of code fields =
    and_then (needed BadHead (status_within code)) (λ status.
    and_then (needed BadHead (declared_in fields)) (λ declared.
    and_then (needed BadHead (body_of status declared)) (λ body.
    and_then (needed Media (response_charset fields)) (λ charset.
    and_then (needed TooLarge (framing_of body)) (λ framing.
    Ok (record {
      status = status;
      charset = charset;
      framing = framing_for status framing;
    }))))))

-- The head of a response, judged.
abbrev pub judged_response : ResponseHead → Result ResponsePlan HttpEnd
judged_response h = response_of (status_code h) (map name_and_value h.fields)
