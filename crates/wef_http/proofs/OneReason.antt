-- At most one reason in the same bytes, but for the choice at a head that is cut off.
use Rattle.std.proofs.Common.{◌≡◌, ℕ, ◌<◌, ◌⊎◌, true, List, [], ◌∷◌, length, refl, sym, ap, ◌∙◌, subst, arith, append-nil, inl, inr, lit<, lit≤, Result, Err, Some, None}
use Rattle.std.proofs.lemmas.List.Elements.{All-cons, All-nil}
use lib.Utf8.{encode}
use Rattle.std.specs.Char.{is_ascii_digit}
use Rattle.httparse.specs.Grammar.{RequestHead, ResponseHead, is_token_byte, lf, print_request, print_response, is_uri_byte, is_value_byte, IsField}
use Rattle.httparse.proofs.GrammarLemmas.{request_unique, response_unique}
use Rattle.wef_http_heads.specs.Ends.{behind_head}
use Rattle.wef_http_heads.specs.Heads.{BeginsRequest, BeginsResponse, IsHopeless, IsJudged, RefusesHead}
use Rattle.wef_http_heads.specs.Judging.{judged_request, judged_response}
use Rattle.wef_http_heads.specs.Laws.{IsByBytes}
use Rattle.wef_http_heads.specs.declared.ends.HttpEnd.{HttpEnd}
use Rattle.wef_http_heads.specs.declared.ends.HttpEnd.TheVariants.{NoMemory, End, BadHead, Method, Path, NoLength, TooLarge, Media, Cut, ReadFault}
use Rattle.wef_http_heads.proofs.HeadsEnd.{request_ends, response_ends}
use Rattle.wef_http_heads.proofs.One.{one_head}
use Rattle.wef_http_heads.specs.declared.targets.Side.{Side}
use Rattle.wef_http.specs.Bodies.{RefusesBody}
use Rattle.wef_http.specs.Laws.{IsOneReason}
use Rattle.wef_http.specs.Messages.{RefusesRequest, RefusesResponse}
use Rattle.wef_http.proofs.OneStop.{body_reason}

-- ---- heads

-- the reason for which a head is refused, by its kind
abbrev Reason : {H P : Type 0} → (List ℕ → H → List ℕ → Type 0) → (H → Result P HttpEnd) → List ℕ → HttpEnd → Type 0
Reason Begins judged bytes e =
    ((e ≡ BadHead) × IsHopeless Begins bytes)
    ⊎ ((e ≡ Cut) × (behind_head bytes ≡ None) × (0 < length bytes))
    ⊎ ((e ≡ End) × (bytes ≡ []))
    ⊎ ((rest : List ℕ) × IsJudged Begins judged bytes (Err e) rest)

reason_of : {H P : Type 0} (Begins : List ℕ → H → List ℕ → Type 0) (judged : H → Result P HttpEnd) (bytes : List ℕ) (e : HttpEnd) → IsByBytes e → RefusesHead Begins judged bytes e → Reason Begins judged bytes e
reason_of Begins judged bytes BadHead by (inl hopeless) = inl (refl, hopeless)
reason_of Begins judged bytes BadHead by (inr found) = inr (inr (inr found))
reason_of Begins judged bytes Method by found = inr (inr (inr found))
reason_of Begins judged bytes Path by found = inr (inr (inr found))
reason_of Begins judged bytes NoLength by found = inr (inr (inr found))
reason_of Begins judged bytes TooLarge by found = inr (inr (inr found))
reason_of Begins judged bytes Media by found = inr (inr (inr found))
reason_of Begins judged bytes Cut by cut = inr (inl (refl, cut.0, cut.1))
reason_of Begins judged bytes End by none = inr (inr (inl (refl, none)))
reason_of Begins judged bytes NoMemory by found = absurd (by.0 refl)
reason_of Begins judged bytes ReadFault by found = absurd (by.1 refl)

-- bytes begin with at most one head, a head that they begin with has ended, and there is a head
pub record AreHeads {H : Type 0} (Begins : List ℕ → H → List ℕ → Type 0) : Type 0 where
  pub only : (bytes : List ℕ) (h k : H) (r s : List ℕ) → Begins bytes h r → Begins bytes k s → h ≡ k
  pub ended : (bytes : List ℕ) (h : H) (r : List ℕ) → Begins bytes h r → behind_head bytes ≡ Some r
  pub some : (bytes : List ℕ) × (h : H) × Begins bytes h []

err_is : {P : Type 0} (e f : HttpEnd) → ◌≡◌ {A = Result P HttpEnd} (Err e) (Err f) → e ≡ f
err_is e f same = cc

module _ {H P : Type 0} (Begins : List ℕ → H → List ℕ → Type 0) (judged : H → Result P HttpEnd) (heads : AreHeads Begins) where
  not_hopeless : (bytes rest : List ℕ) (given : Result P HttpEnd) → IsHopeless Begins bytes → IsJudged Begins judged bytes given rest → ⊥
  not_hopeless bytes rest given hopeless (h, begins, is) = hopeless [] h rest (subst (λ (all : List ℕ). Begins all h rest) (sym (append-nil bytes)) begins)

  nothing_hopes : (bytes : List ℕ) → bytes ≡ [] → IsHopeless Begins bytes → ⊥
  nothing_hopes bytes none hopeless = (subst (IsHopeless Begins) none hopeless) heads.some.0 heads.some.1 [] heads.some.2

  not_open : (bytes rest : List ℕ) (given : Result P HttpEnd) → behind_head bytes ≡ None → IsJudged Begins judged bytes given rest → ⊥
  not_open bytes rest given waits (h, begins, is) = let both = sym waits ∙ heads.ended bytes h rest begins in cc

  not_nothing : (bytes rest : List ℕ) (given : Result P HttpEnd) → bytes ≡ [] → IsJudged Begins judged bytes given rest → ⊥
  not_nothing bytes rest given none found = not_open bytes rest given (ap behind_head none) found

  by_reasons : (bytes : List ℕ) (e f : HttpEnd) → Reason Begins judged bytes e → Reason Begins judged bytes f → IsOneReason bytes e f
  by_reasons bytes e f (inl (is, hopeless)) (inl (are, again)) = inl (is ∙ sym are)
  by_reasons bytes e f (inl (is, hopeless)) (inr (inl (are, waits, some))) = inr (inl (is, are, waits))
  by_reasons bytes e f (inl (is, hopeless)) (inr (inr (inl (are, none)))) = absurd (nothing_hopes bytes none hopeless)
  by_reasons bytes e f (inl (is, hopeless)) (inr (inr (inr (rest, found)))) = absurd (not_hopeless bytes rest (Err f) hopeless found)
  by_reasons bytes e f (inr (inl (is, waits, some))) (inl (are, hopeless)) = inr (inr (are, is, waits))
  by_reasons bytes e f (inr (inl (is, waits, some))) (inr (inl (are, again, more))) = inl (is ∙ sym are)
  by_reasons bytes e f (inr (inl (is, waits, some))) (inr (inr (inl (are, none)))) = absurd (omega (arith, some, ap length none))
  by_reasons bytes e f (inr (inl (is, waits, some))) (inr (inr (inr (rest, found)))) = absurd (not_open bytes rest (Err f) waits found)
  by_reasons bytes e f (inr (inr (inl (is, none)))) (inl (are, hopeless)) = absurd (nothing_hopes bytes none hopeless)
  by_reasons bytes e f (inr (inr (inl (is, none)))) (inr (inl (are, waits, some))) = absurd (omega (arith, some, ap length none))
  by_reasons bytes e f (inr (inr (inl (is, none)))) (inr (inr (inl (are, again)))) = inl (is ∙ sym are)
  by_reasons bytes e f (inr (inr (inl (is, none)))) (inr (inr (inr (rest, found)))) = absurd (not_nothing bytes rest (Err f) none found)
  by_reasons bytes e f (inr (inr (inr (rest, found)))) (inl (are, hopeless)) = absurd (not_hopeless bytes rest (Err e) hopeless found)
  by_reasons bytes e f (inr (inr (inr (rest, found)))) (inr (inl (are, waits, some))) = absurd (not_open bytes rest (Err e) waits found)
  by_reasons bytes e f (inr (inr (inr (rest, found)))) (inr (inr (inl (are, none)))) = absurd (not_nothing bytes rest (Err e) none found)
  by_reasons bytes e f (inr (inr (inr (rest, (h, begins, is))))) (inr (inr (inr (behind, (k, others, are))))) =
      inl (err_is e f (sym is ∙ ap judged (heads.only bytes h k rest behind begins others) ∙ are))

  pub one_head_reason : (bytes : List ℕ) (e f : HttpEnd) → IsByBytes e → IsByBytes f → RefusesHead Begins judged bytes e → RefusesHead Begins judged bytes f → IsOneReason bytes e f
  one_head_reason bytes e f by also refused again = by_reasons bytes e f (reason_of Begins judged bytes e by refused) (reason_of Begins judged bytes f also again)

-- ---- a head of each kind

a_request : RequestHead
a_request = record { blank = []; method = 71 ∷ []; target = 47 ∷ []; minor = 1; line_end = lf; fields = []; last = lf }

begins_request : BeginsRequest (print_request a_request) a_request []
unfolding a_request print_request is_token_byte encode
begins_request = (
  (
    record {
      method = (lit< tt, All-cons (λ b. is_token_byte b ≡ true) 71 [] refl (All-nil (λ b. is_token_byte b ≡ true)));
      target = (lit< tt, All-cons (λ b. is_uri_byte b ≡ true) 47 [] refl (All-nil (λ b. is_uri_byte b ≡ true)));
      target_text = (47 ∷ [], (refl, refl));
      minor = lit≤ tt;
      fields = All-nil IsField;
    },
    sym (append-nil _),
  ),
  record { bytes = lit≤ tt; fields_fit = lit≤ tt },
)

a_response : ResponseHead
a_response = record { blank = []; minor = 1; digits = 50 ∷ 48 ∷ 48 ∷ []; reason = None; line_end = lf; fields = []; last = lf }

begins_response : BeginsResponse (print_response a_response) a_response []
unfolding a_response print_response
begins_response =
    let digit : ℕ → Type 0 = λ b. is_ascii_digit b ≡ true in (
      (
        record {
          minor = lit≤ tt;
          digits = (refl, All-cons digit 50 (48 ∷ 48 ∷ []) refl (All-cons digit 48 (48 ∷ []) refl (All-cons digit 48 [] refl (All-nil digit))));
          reason = All-nil (λ b. is_value_byte b ≡ true);
          fields = All-nil IsField;
        },
        sym (append-nil _),
      ),
      record { bytes = lit≤ tt; fields_fit = lit≤ tt },
    )

request_heads : AreHeads BeginsRequest
request_heads = record {
  only = λ bytes h k r s one other. (request_unique bytes h k r s one.0 other.0).0;
  ended = λ bytes h r begins. request_ends bytes h r begins.0;
  some = (print_request a_request, a_request, begins_request);
}

response_heads : AreHeads BeginsResponse
response_heads = record {
  only = λ bytes h k r s one other. (response_unique bytes h k r s one.0 other.0).0;
  ended = λ bytes h r begins. response_ends bytes h r begins.0;
  some = (print_response a_response, a_response, begins_response);
}

-- ---- messages

of_body : (bytes : List ℕ) (e f : HttpEnd) → e ≡ f → IsOneReason bytes e f
of_body bytes e f same = inl same

pub request_reason : (side : Side) (bytes : List ℕ) (e f : HttpEnd) → IsByBytes e → IsByBytes f → RefusesRequest side bytes e → RefusesRequest side bytes f → IsOneReason bytes e f
request_reason side bytes e f by also (inl head) (inl other) = one_head_reason BeginsRequest (judged_request side) request_heads bytes e f by also head other
request_reason side bytes e f by also (inl head) (inr (plan, middle, begins, refused)) = absurd (one_head.request_stands side bytes plan middle e begins head by)
request_reason side bytes e f by also (inr (plan, middle, begins, refused)) (inl head) = absurd (one_head.request_stands side bytes plan middle f begins head also)
request_reason side bytes e f by also (inr (plan, middle, begins, refused)) (inr (other, next, heads, again)) =
    let same = one_head.request side bytes plan other middle next begins heads in
    let here = subst (λ (xs : List ℕ). RefusesBody other.framing xs f) (sym same.1) again in
    of_body bytes e f (body_reason plan.framing middle e f refused (subst (λ p. RefusesBody p.framing middle f) (sym same.0) here))

pub response_reason : (bytes : List ℕ) (e f : HttpEnd) → IsByBytes e → IsByBytes f → RefusesResponse bytes e → RefusesResponse bytes f → IsOneReason bytes e f
response_reason bytes e f by also (inl head) (inl other) = one_head_reason BeginsResponse judged_response response_heads bytes e f by also head other
response_reason bytes e f by also (inl head) (inr (plan, middle, begins, refused)) = absurd (one_head.response_stands bytes plan middle e begins head by)
response_reason bytes e f by also (inr (plan, middle, begins, refused)) (inl head) = absurd (one_head.response_stands bytes plan middle f begins head also)
response_reason bytes e f by also (inr (plan, middle, begins, refused)) (inr (other, next, heads, again)) =
    let same = one_head.response bytes plan other middle next begins heads in
    let here = subst (λ (xs : List ℕ). RefusesBody other.framing xs f) (sym same.1) again in
    of_body bytes e f (body_reason plan.framing middle e f refused (subst (λ p. RefusesBody p.framing middle f) (sym same.0) here))
