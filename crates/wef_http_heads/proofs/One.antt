-- One head at most, and no refusal beside it.
use Rattle.std.proofs.Common.{◌≡◌, ℕ, List, [], refl, sym, ap, ◌∙◌, subst, inl, inr, Result, Ok, Err, Some}
use Rattle.std.proofs.Common.{append-nil}
use Rattle.httparse.proofs.GrammarLemmas.{request_unique, response_unique}
use Rattle.wef_http_heads.specs.declared.ends.HttpEnd.{HttpEnd}
use Rattle.wef_http_heads.specs.declared.ends.HttpEnd.TheVariants.{NoMemory, End, BadHead, Method, Path, NoLength, TooLarge, Media, Cut, ReadFault}
use Rattle.wef_http_heads.specs.Ends.{behind_head}
use Rattle.wef_http_heads.specs.Heads.{BeginsRequest, BeginsResponse, IsJudged, RefusesHead}
use Rattle.wef_http_heads.specs.Judging.{judged_request, judged_response}
use Rattle.wef_http_heads.specs.Laws.{IsByBytes, OneHead}
use Rattle.wef_http_heads.proofs.HeadsEnd.{request_ends, response_ends}

-- bytes begin with at most one head
abbrev IsOnly : {H : Type 0} → (List ℕ → H → List ℕ → Type 0) → Type 0
IsOnly {H} Begins = (bytes : List ℕ) (h k : H) (r s : List ℕ) → Begins bytes h r → Begins bytes k s → (h ≡ k) × (r ≡ s)

-- a head that bytes begin with has ended there
abbrev HasEnd : {H : Type 0} → (List ℕ → H → List ℕ → Type 0) → Type 0
HasEnd {H} Begins = (bytes : List ℕ) (h : H) (r : List ℕ) → Begins bytes h r → behind_head bytes ≡ Some r

ok_is : {P : Type 0} (p q : P) → ◌≡◌ {A = Result P HttpEnd} (Ok p) (Ok q) → p ≡ q
ok_is p q e = cc

one : {H P : Type 0} (Begins : List ℕ → H → List ℕ → Type 0) (judged : H → Result P HttpEnd) → IsOnly Begins → (bytes : List ℕ) (p q : P) (r s : List ℕ) → IsJudged Begins judged bytes (Ok p) r → IsJudged Begins judged bytes (Ok q) s → (p ≡ q) × (r ≡ s)
one Begins judged only bytes p q r s (h, begins, is) (k, others, are) =
    let same = only bytes h k r s begins others in
    (ok_is p q (sym is ∙ ap judged same.0 ∙ are), same.1)

never : {H P : Type 0} (Begins : List ℕ → H → List ℕ → Type 0) (judged : H → Result P HttpEnd) → IsOnly Begins → (bytes : List ℕ) (p : P) (e : HttpEnd) (r s : List ℕ) → IsJudged Begins judged bytes (Ok p) r → IsJudged Begins judged bytes (Err e) s → ⊥
never {P = P} Begins judged only bytes p e r s (h, begins, is) (k, others, are) =
    let same = only bytes h k r s begins others in
    let both : ◌≡◌ {A = Result P HttpEnd} (Ok p) (Err e) = sym is ∙ ap judged same.0 ∙ are in
    cc

stands : {H P : Type 0} (Begins : List ℕ → H → List ℕ → Type 0) (judged : H → Result P HttpEnd) → IsOnly Begins → HasEnd Begins → (bytes : List ℕ) (p : P) (r : List ℕ) (e : HttpEnd) → IsJudged Begins judged bytes (Ok p) r → RefusesHead Begins judged bytes e → IsByBytes e → ⊥
stands Begins judged only ends bytes p r BadHead (h, begins, is) (inl hopeless) by = hopeless [] h r (subst (λ text. Begins text h r) (sym (append-nil bytes)) begins)
stands Begins judged only ends bytes p r BadHead good (inr (s, bad)) by = never Begins judged only bytes p BadHead r s good bad
stands Begins judged only ends bytes p r Method good (s, bad) by = never Begins judged only bytes p Method r s good bad
stands Begins judged only ends bytes p r Path good (s, bad) by = never Begins judged only bytes p Path r s good bad
stands Begins judged only ends bytes p r NoLength good (s, bad) by = never Begins judged only bytes p NoLength r s good bad
stands Begins judged only ends bytes p r TooLarge good (s, bad) by = never Begins judged only bytes p TooLarge r s good bad
stands Begins judged only ends bytes p r Media good (s, bad) by = never Begins judged only bytes p Media r s good bad
stands Begins judged only ends bytes p r Cut (h, begins, is) (none, some) by =
    let ended = ends bytes h r begins in
    cc
stands Begins judged only ends bytes p r End (h, begins, is) nothing by =
    let ended = sym (ap behind_head nothing) ∙ ends bytes h r begins in
    cc
stands Begins judged only ends bytes p r NoMemory good bad by = by.0 refl
stands Begins judged only ends bytes p r ReadFault good bad by = by.1 refl

only_request : IsOnly BeginsRequest
only_request bytes h k r s one other = request_unique bytes h k r s one.0 other.0

only_response : IsOnly BeginsResponse
only_response bytes h k r s one other = response_unique bytes h k r s one.0 other.0

pub one_head : OneHead
one_head = record {
  request = λ side. one BeginsRequest (judged_request side) only_request;
  request_stands = λ side. stands BeginsRequest (judged_request side) only_request (λ bytes h r begins. request_ends bytes h r begins.0);
  response = one BeginsResponse judged_response only_response;
  response_stands = stands BeginsResponse judged_response only_response (λ bytes h r begins. response_ends bytes h r begins.0);
}
