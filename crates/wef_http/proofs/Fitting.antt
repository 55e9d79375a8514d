-- A length that a good head says is within the limit, and its host is good.
use Rattle.std.proofs.Common.{◌≡◌, ℕ, ◌≤◌, Bool, true, false, List, [], ◌∷◌, cond, codes, refl, subst, map, nat_le, arith, Option, Some, None, Result, Ok, Err}
use Rattle.std.specs.Prelude.{IfOk, IfSome}
use Rattle.std.proofs.lemmas.Bool.Decides.{nat_tests}
use Rattle.std.specs.Str.{bytes_eq}
use Rattle.httparse.specs.Grammar.{RequestHead, ResponseHead, status_code}
use Rattle.httparse.specs.Spans.{name_and_value}
use Rattle.wef_base.specs.Numbers.{is_numeral, number_within, value_from}
use Rattle.wef_http_heads.specs.Fields.{NamedValue, host_in, is_alike, is_host, the_host, values_of}
use Rattle.wef_http_heads.specs.Framing.{coding_said, declared_by, declared_in, length_or_more, length_said}
use Rattle.wef_http_heads.specs.Judging.{body_of, framing_of, framing_for, is_empty_status, judged_request, judged_response, request_of, response_of, where_true, with_body}
use Rattle.wef_http_heads.specs.Steps.{and_then, needed}
use Rattle.wef_http_heads.specs.declared.ends.HttpEnd.{HttpEnd}
use Rattle.wef_http_heads.specs.declared.ends.HttpEnd.TheVariants.{Method}
use Rattle.wef_http_heads.specs.declared.framing.Declared.{Declared}
use Rattle.wef_http_heads.specs.declared.framing.Declared.TheVariants.{Nothing, Length, TooLong, Chunked}
use Rattle.wef_http_heads.specs.declared.heads.TheConstants.{BODY_LIMIT}
use Rattle.wef_http_heads.specs.declared.plans.Framing as framing
use Rattle.wef_http_heads.specs.declared.plans.Framing.TheVariants as by
use Rattle.wef_http_heads.specs.declared.plans.RequestPlan.{RequestPlan}
use Rattle.wef_http_heads.specs.declared.plans.ResponsePlan.{ResponsePlan}
use Rattle.wef_http_heads.specs.declared.targets.Side.{Side}
use Rattle.wef_http.specs.Bodies.{FitsBody}
use Rattle.wef_http.specs.Messages.{FitsRequest}

abbrev IsWithin : Declared → Type 0
IsWithin (Length n) = n ≤ BODY_LIMIT
IsWithin _ = Unit {0}

-- a step of a judge: what is there has a property, and with it all that follows fits
step : {A B : Type 0} (P : B → Type 0) (Q : A → Type 0) (e : HttpEnd) (there : Option A) (more : A → Result B HttpEnd) → IfSome there Q → ((a : A) → Q a → IfOk (more a) P)
    → IfOk (and_then (needed e there) more) P
step P Q e None more has goes = tt
step P Q e (Some a) more has goes = goes a has

whatever : {A : Type 0} (there : Option A) → IfSome there (λ _. Unit {0})
whatever None = tt
whatever (Some a) = tt

-- the same of what has no property
pass : {A B : Type 0} (P : B → Type 0) (e : HttpEnd) (there : Option A) (more : A → Result B HttpEnd) → ((a : A) → IfOk (more a) P) → IfOk (and_then (needed e there) more) P
pass P e there more goes = step P (λ _. Unit {0}) e there more (whatever there) (λ a _. goes a)

length_within : (digits : List ℕ) → IsWithin (length_or_more (number_within BODY_LIMIT digits))
length_within digits = by (nat_le (value_from 0 digits) BODY_LIMIT) refl
  where
    by : (t : Bool) → nat_le (value_from 0 digits) BODY_LIMIT ≡ t → IsWithin (length_or_more (cond t (Some (value_from 0 digits)) None))
    by true within = grind (arith, nat_tests, within)
    by false past = tt

said_within : (value : List ℕ) → IfSome (length_said value) IsWithin
said_within value = elim (is_numeral value) as (λ t. IfSome (cond t (Some (length_or_more (number_within BODY_LIMIT value))) None) IsWithin) [ true ↦ length_within value | false ↦ tt ]

coding_within : (value : List ℕ) → IfSome (coding_said value) IsWithin
coding_within value = elim (is_alike value (codes "chunked")) as (λ t. IfSome (cond t (Some Chunked) None) IsWithin) [ true ↦ tt | false ↦ tt ]

by_within : (lengths codings : List (List ℕ)) → IfSome (declared_by lengths codings) IsWithin
by_within [] [] = tt
by_within [] (value ∷ []) = coding_within value
by_within [] (value ∷ other ∷ values) = tt
by_within (value ∷ []) [] = said_within value
by_within (value ∷ []) (coding ∷ codings) = tt
by_within (value ∷ other ∷ values) [] = tt
by_within (value ∷ other ∷ values) (coding ∷ codings) = tt

declared_within : (fields : List NamedValue) → IfSome (declared_in fields) IsWithin
unfolding declared_in
declared_within fields = by_within (values_of (codes "Content-Length") fields) (values_of (codes "Transfer-Encoding") fields)

body_within : (declared : Declared) → IsWithin declared → IfSome (with_body declared) IsWithin
body_within Nothing within = tt
body_within (Length n) within = within
body_within TooLong within = tt
body_within Chunked within = tt

framing_within : (declared : Declared) → IsWithin declared → IfSome (framing_of declared) FitsBody
framing_within Nothing within = omega arith
framing_within (Length n) within = within
framing_within TooLong within = tt
framing_within Chunked within = tt

the_host_good : (values : List (List ℕ)) → IfSome (the_host values) (λ host. is_host host ≡ true)
the_host_good [] = tt
the_host_good (value ∷ []) = by (is_host value) refl
  where
    by : (t : Bool) → is_host value ≡ t → IfSome (cond t (Some value) None) (λ host. is_host host ≡ true)
    by true good = good
    by false bad = tt
the_host_good (value ∷ other ∷ values) = tt

host_good : (fields : List NamedValue) → IfSome (host_in fields) (λ host. is_host host ≡ true)
unfolding host_in
host_good fields = the_host_good (values_of (codes "Host") fields)

pub request_fits : (side : Side) (method target : List ℕ) (minor : ℕ) (fields : List NamedValue) → IfOk (request_of side method target minor fields) FitsRequest
request_fits side method target minor fields =
    let P : RequestPlan → Type 0 = FitsRequest in
    step P (λ host. is_host host ≡ true) _ _ _ (host_good fields) λ host named.
    step P IsWithin _ _ _ (declared_within fields) λ declared within.
    pass P Method (where_true (bytes_eq method (codes "POST")) target) _ λ path.
    pass P _ _ _ λ for.
    step P IsWithin _ _ _ (body_within declared within) λ body fits.
    pass P _ _ _ λ charset.
    step P FitsBody _ _ _ (framing_within body fits) λ framing good. (good, named)

response_body_within : (status : ℕ) (declared : Declared) → IsWithin declared → IfSome (body_of status declared) IsWithin
response_body_within status declared within =
    elim (is_empty_status status) as (λ t. IfSome (cond t (Some declared) (with_body declared)) IsWithin) [ true ↦ within | false ↦ body_within declared within ]

response_framing_fits : (status : ℕ) (framing : framing.Framing) → FitsBody framing → FitsBody (framing_for status framing)
response_framing_fits status framing good =
    elim (is_empty_status status) as (λ t. FitsBody (cond t (by.Length 0) framing)) [ true ↦ omega arith | false ↦ good ]

pub response_fits : (code : ℕ) (fields : List NamedValue) → IfOk (response_of code fields) (λ plan. FitsBody plan.framing)
response_fits code fields =
    let P : ResponsePlan → Type 0 = λ plan. FitsBody plan.framing in
    pass P _ _ _ λ status.
    step P IsWithin _ _ _ (declared_within fields) λ declared within.
    step P IsWithin _ _ _ (response_body_within status declared within) λ body fits.
    pass P _ _ _ λ charset.
    step P FitsBody _ _ _ (framing_within body fits) λ framing good. response_framing_fits status framing good

-- what holds of whatever a judge answers holds of what it answered
of_ok : {B : Type 0} (P : B → Type 0) (r : Result B HttpEnd) (b : B) → IfOk r P → r ≡ Ok b → P b
of_ok {B} P r b fits same = subst (λ (given : Result B HttpEnd). IfOk given P) same fits

pub request_plan_fits : (side : Side) (plan : RequestPlan) (h : RequestHead) → judged_request side h ≡ Ok plan → FitsRequest plan
request_plan_fits side plan h same = of_ok FitsRequest (judged_request side h) plan (request_fits side h.method h.target h.minor (map name_and_value h.fields)) same

pub response_plan_fits : (plan : ResponsePlan) (h : ResponseHead) → judged_response h ≡ Ok plan → FitsBody plan.framing
response_plan_fits plan h same = of_ok (λ p. FitsBody p.framing) (judged_response h) plan (response_fits (status_code h) (map name_and_value h.fields)) same
