-- What follows of bytes in which no head has ended, and of those whose head is too long.
use Rattle.std.proofs.Common.{◌≡◌, ℕ, ◌<◌, ◌≤◌, Bool, true, false, List, [], ◌∷◌, ◌++◌, length, take, drop, refl, sym, ap, ◌∙◌, arith, cond, append_assoc, ◌==◌}
use Rattle.std.proofs.Common.{append-nil, inl, inr}
use Rattle.std.proofs.Math.Seq.{take-append_seam}
use Rattle.std.proofs.lemmas.List.{take-append-drop, take-append-le}
use Rattle.std.specs.Prelude.{Option, Some, None}
use Rattle.std.specs.Option.{option_map}
use Rattle.httparse.specs.Grammar.{EndsInTarget, HasNoRequest, HasNoResponse, MayBecomeRequest, MayBecomeResponse, ReadsRequest, ReadsResponse, RequestHead, ResponseHead, is_uri_byte, print_blank, print_request, print_response}
use Rattle.httparse.specs.declared.spans.HeaderSpan.{HeaderSpan}
use Rattle.httparse.specs.declared.spans.RequestSpans.{RequestSpans}
use Rattle.httparse.specs.declared.spans.ResponseSpans.{ResponseSpans}
use Rattle.httparse.specs.Spans.{IsRequestOf, IsResponseOf}
use Rattle.httparse.proofs.GrammarLemmas.{request_prefix_free, response_prefix_free}
use Rattle.wef_http_heads.specs.Ends.{Place, Start, Returned, Inside, behind_empty_line, behind_head, behind_lines, is_bare, place_behind}
use Rattle.wef_http_heads.specs.Heads.{BeginsRequest, BeginsResponse, IsHopeless}
use Rattle.wef_http_heads.proofs.HeadsEnd.{begins_line, request_ends, response_ends, skips_empty, stays_all}

-- ---- more bytes

chosen : (test : Bool) (a b c d : Option (List ℕ)) (r s : List ℕ) → (a ≡ Some r → c ≡ Some s) → (b ≡ Some r → d ≡ Some s) → cond test a b ≡ Some r → cond test c d ≡ Some s
chosen true a b c d r s f g h = f h
chosen false a b c d r s f g h = g h

-- what has ended has ended, whatever follows
empty_line_stays : (place : Place) (bytes more r : List ℕ) → behind_empty_line place bytes ≡ Some r → behind_empty_line place (bytes ++ more) ≡ Some (r ++ more)
empty_line_stays place [] more r h = let bad : ⊥ = cc in absurd bad
empty_line_stays place (b ∷ bytes) more r h =
    chosen (b == 10) _ _ _ _ r (r ++ more)
    (chosen (is_bare place) (Some bytes) _ _ _ r (r ++ more) (λ e. ap (option_map (λ t. t ++ more)) e) (empty_line_stays Start bytes more r))
    (empty_line_stays (place_behind place b) bytes more r) h

lines_stay : (place : Place) (bytes more r : List ℕ) → behind_lines place bytes ≡ Some r → behind_lines place (bytes ++ more) ≡ Some (r ++ more)
lines_stay Inside bytes more r h = empty_line_stays Inside bytes more r h
lines_stay Start [] more r h = let bad : ⊥ = cc in absurd bad
lines_stay Start (b ∷ bytes) more r h = chosen (b == 10) _ _ _ _ r (r ++ more) (lines_stay Start bytes more r) (lines_stay (place_behind Start b) bytes more r) h
lines_stay Returned [] more r h = let bad : ⊥ = cc in absurd bad
lines_stay Returned (b ∷ bytes) more r h = chosen (b == 10) _ _ _ _ r (r ++ more) (lines_stay Start bytes more r) (lines_stay (place_behind Returned b) bytes more r) h

none_is : (o : Option (List ℕ)) → ((r : List ℕ) → o ≡ Some r → ⊥) → o ≡ None
none_is None never = refl
none_is (Some r) never = absurd (never r refl)

nothing_more : (r more : List ℕ) → r ++ more ≡ [] → more ≡ []
nothing_more [] more h = h
nothing_more (b ∷ r) more h = let bad : ⊥ = cc in absurd bad

whole_of : (o : Option (List ℕ)) (bytes more r : List ℕ) → behind_head bytes ≡ Some r → behind_head (bytes ++ more) ≡ Some [] → more ≡ []
whole_of o bytes more r ended whole =
    let both : Some (r ++ more) ≡ Some [] = sym (lines_stay Start bytes more r ended) ∙ whole in
    let same : r ++ more ≡ [] = cc in
    nothing_more r more same

-- ---- a head that isn't whole yet hasn't ended

ends_in_target : (bytes : List ℕ) → EndsInTarget bytes → behind_head bytes ≡ None
ends_in_target bytes (blank, method, target, token, uri, is) =
    ap behind_head (is ∙ append_assoc (print_blank blank) method (32 ∷ target))
    ∙ skips_empty blank (method ++ 32 ∷ target)
    ∙ begins_line method (32 ∷ target) token.0 token.1
    ∙ ap (behind_empty_line Inside) (sym (append-nil target))
    ∙ stays_all is_uri_byte refl target [] uri

pub partial_request : (bytes : List ℕ) → HasNoRequest bytes → MayBecomeRequest bytes → behind_head bytes ≡ None
partial_request bytes none (inl may) = none_is (behind_head bytes) (λ r ended.
    let nil = whole_of None bytes may.0 r ended (request_ends (bytes ++ may.0) may.1 [] may.2) in
    none may.1 [] (may.2.0, sym (append-nil bytes) ∙ ap (λ (m : List ℕ). bytes ++ m) (sym nil) ∙ may.2.1))
partial_request bytes none (inr ends) = ends_in_target bytes ends

pub partial_response : (bytes : List ℕ) → HasNoResponse bytes → MayBecomeResponse bytes → behind_head bytes ≡ None
partial_response bytes none may = none_is (behind_head bytes) (λ r ended.
    let nil = whole_of None bytes may.0 r ended (response_ends (bytes ++ may.0) may.1 [] may.2) in
    none may.1 [] (may.2.0, sym (append-nil bytes) ∙ ap (λ (m : List ℕ). bytes ++ m) (sym nil) ∙ may.2.1))

-- ---- a head that hasn't ended within the limit is hopeless

-- what is no longer than a front lies in it
front_of : (bytes more text rest : List ℕ) → bytes ++ more ≡ text ++ rest → length text ≤ length bytes → bytes ≡ text ++ drop (length text) bytes
front_of bytes more text rest e fits =
    sym (take-append-drop (length text) bytes)
    ∙ ap (λ (front : List ℕ). front ++ drop (length text) bytes)
    (sym (take-append-le (length text) bytes more fits) ∙ ap (take (length text)) e ∙ take-append_seam text rest)

-- bytes in which no head has ended, and that are as many as its text has, don't begin with it
not_ended :
    (bytes more text rest : List ℕ) → bytes ++ more ≡ text ++ rest → length text ≤ length bytes →
    ((left : List ℕ) → bytes ≡ text ++ left → behind_head bytes ≡ Some left) → behind_head bytes ≡ None → ⊥
not_ended bytes more text rest e fits ends none =
    let ended = ends (drop (length text) bytes) (front_of bytes more text rest e fits) in
    let bad : ⊥ = cc in
    bad

pub full_request : (bytes : List ℕ) → behind_head bytes ≡ None → 65536 ≤ length bytes → IsHopeless BeginsRequest bytes
full_request bytes none full more h rest begins =
    not_ended bytes more (print_request h) rest begins.0.1 (omega (arith, begins.1.bytes)) (λ left front. request_ends bytes h left (begins.0.0, front)) none

pub full_response : (bytes : List ℕ) → behind_head bytes ≡ None → 65536 ≤ length bytes → IsHopeless BeginsResponse bytes
full_response bytes none full more h rest begins =
    not_ended bytes more (print_response h) rest begins.0.1 (omega (arith, begins.1.bytes)) (λ left front. response_ends bytes h left (begins.0.0, front)) none

-- ---- a head that is too long is hopeless

long_head : (bytes : List ℕ) (h : RequestHead) (rest : List ℕ) → ReadsRequest bytes h rest → 65536 < length (print_request h) → IsHopeless BeginsRequest bytes
long_head bytes h rest reads long more k other begins =
    let same = ap (λ (x : RequestHead). length (print_request x)) (request_prefix_free bytes more h k rest other reads begins.0).0 in
    omega (arith, begins.1.bytes)

long_head_of : (bytes : List ℕ) (h : ResponseHead) (rest : List ℕ) → ReadsResponse bytes h rest → 65536 < length (print_response h) → IsHopeless BeginsResponse bytes
long_head_of bytes h rest reads long more k other begins =
    let same = ap (λ (x : ResponseHead). length (print_response x)) (response_prefix_free bytes more h k rest other reads begins.0).0 in
    omega (arith, begins.1.bytes)

-- the same by the spans of a head
pub long_request : (bytes : List ℕ) (headers : List HeaderSpan) (r : RequestSpans) → IsRequestOf bytes headers r → 65536 < r.len → IsHopeless BeginsRequest bytes
long_request bytes headers r (h, at) long = long_head bytes h (drop r.len bytes) at.reads (omega (arith, at.len))

pub long_response : (bytes : List ℕ) (headers : List HeaderSpan) (r : ResponseSpans) → IsResponseOf bytes headers r → 65536 < r.len → IsHopeless BeginsResponse bytes
long_response bytes headers r (h, at) long = long_head_of bytes h (drop r.len bytes) at.reads (omega (arith, at.len))
