-- What a response is never refused for.
use Rattle.std.proofs.Common.{◌≡◌, ◌≢◌, ◌⊎◌, ℕ, List, inl, inr, map, subst, sym, Option, Some, None, Result, Err}
use Rattle.std.specs.Prelude.{IfErr}
use Rattle.httparse.specs.Grammar.{ResponseHead, status_code}
use Rattle.httparse.specs.Spans.{name_and_value}
use Rattle.wef_http_heads.specs.Fields.{NamedValue}
use Rattle.wef_http_heads.specs.Heads.{RefusesResponseHead}
use Rattle.wef_http_heads.specs.Judging.{body_of, framing_of, judged_response, response_of, status_within}
use Rattle.wef_http_heads.specs.Framing.{declared_in}
use Rattle.wef_http_heads.specs.Media.{response_charset}
use Rattle.wef_http_heads.specs.Steps.{and_then, needed}
use Rattle.wef_http_heads.specs.declared.ends.HttpEnd.{HttpEnd}
use Rattle.wef_http_heads.specs.declared.ends.HttpEnd.TheVariants.{NoMemory, End, BadHead, Method, Path, NoLength, TooLarge, Media, Cut, ReadFault}
use Rattle.wef_http_heads.specs.declared.plans.Framing as framing
use Rattle.wef_http_heads.specs.declared.plans.Framing.TheVariants.{Length, Chunks}
use Rattle.wef_http_heads.specs.declared.plans.ResponsePlan.{ResponsePlan}
use Rattle.wef_http.specs.Bodies.{RefusesBody}
use Rattle.wef_http.specs.Chunks.{BadOrCut, RefusesChunk, RefusesPiece}
use Rattle.wef_http.specs.Messages.{RefusesResponse}
use Rattle.wef_http.proofs.BadParts.{which}

-- none of the three
abbrev IsOther : HttpEnd → Type 0
IsOther Method = ⊥
IsOther Path = ⊥
IsOther NoLength = ⊥
IsOther _ = Unit {0}

apart : (e : HttpEnd) → IsOther e → (e ≢ Method) × (e ≢ Path) × (e ≢ NoLength)
apart e other = (
  λ same. subst IsOther same other,
  λ same. subst IsOther same other,
  λ same. subst IsOther same other,
)

-- ---- heads

step : {A : Type 0} (e : HttpEnd) (there : Option A) (more : A → Result ResponsePlan HttpEnd) → IsOther e → ((a : A) → IfErr (more a) IsOther) → IfErr (and_then (needed e there) more) IsOther
step e None more other goes = other
step e (Some a) more other goes = goes a

judged_kinds : (code : ℕ) (fields : List NamedValue) → IfErr (response_of code fields) IsOther
judged_kinds code fields =
    step BadHead (status_within code) _ tt λ status.
    step BadHead (declared_in fields) _ tt λ declared.
    step BadHead (body_of status declared) _ tt λ body.
    step Media (response_charset fields) _ tt λ charset.
    step TooLarge (framing_of body) _ tt λ framing. tt

of_head : (h : ResponseHead) (e : HttpEnd) → judged_response h ≡ Err e → IsOther e
of_head h e same = subst (λ (given : Result ResponsePlan HttpEnd). IfErr given IsOther) same (judged_kinds (status_code h) (map name_and_value h.fields))

head_kinds : (bytes : List ℕ) (e : HttpEnd) → RefusesResponseHead bytes e → IsOther e
head_kinds bytes NoMemory refused = tt
head_kinds bytes End refused = tt
head_kinds bytes BadHead refused = tt
head_kinds bytes Method (rest, (h, begins, judged)) = of_head h Method judged
head_kinds bytes Path (rest, (h, begins, judged)) = of_head h Path judged
head_kinds bytes NoLength (rest, (h, begins, judged)) = of_head h NoLength judged
head_kinds bytes TooLarge refused = tt
head_kinds bytes Media refused = tt
head_kinds bytes Cut refused = tt
head_kinds bytes ReadFault refused = tt

-- ---- bodies

cut_kind : (e : HttpEnd) → e ≡ Cut → IsOther e
cut_kind e same = subst IsOther (sym same) tt

part_kind : (Bad Waits : Type 0) (e : HttpEnd) → BadOrCut Bad Waits e → IsOther e
part_kind Bad Waits e refused = by (which e refused)
  where
    by : ((e ≡ BadHead) × Bad) ⊎ ((e ≡ Cut) × Waits) → IsOther e
    by (inl bad) = subst IsOther (sym bad.0) tt
    by (inr cut) = cut_kind e cut.0

piece_kind : (size : ℕ) (bytes : List ℕ) (e : HttpEnd) → RefusesPiece size bytes e → IsOther e
piece_kind size bytes e (inl cut) = cut_kind e cut.0
piece_kind size bytes e (inr (piece, middle, parts, long, refused)) = part_kind _ _ e refused

chunk_kind : (before : ℕ) (bytes : List ℕ) (e : HttpEnd) → RefusesChunk before bytes e → IsOther e
chunk_kind before bytes e (inl refused) = part_kind _ _ e refused
chunk_kind before bytes e (inr (inl (size, middle, line, large, past))) = subst IsOther (sym large) tt
chunk_kind before bytes e (inr (inr (size, middle, line, some, fits, refused))) = piece_kind size middle e refused

body_kind : (by : framing.Framing) (bytes : List ℕ) (e : HttpEnd) → RefusesBody by bytes e → IsOther e
body_kind (Length size) bytes e refused = cut_kind e refused.0
body_kind Chunks bytes e (pieces, middle, chunks, inl refused) = chunk_kind _ middle e refused
body_kind Chunks bytes e (pieces, middle, chunks, inr (behind, last, cut, none)) = cut_kind e cut

pub response_kinds : (bytes : List ℕ) (e : HttpEnd) → RefusesResponse bytes e → (e ≢ Method) × (e ≢ Path) × (e ≢ NoLength)
response_kinds bytes e (inl refused) = apart e (head_kinds bytes e refused)
response_kinds bytes e (inr (plan, middle, head, refused)) = apart e (body_kind plan.framing middle e refused)
