-- Where a head of the grammar ends: with the first empty line behind its first line.
use Rattle.std.proofs.Common.{All, ◌≡◌, ℕ, ◌+◌, ◌<◌, Bool, true, false, List, [], ◌∷◌, ◌++◌, length, refl, ap, ◌∙◌, arith, cond, append_assoc, ◌==◌}
use Rattle.std.proofs.lemmas.Bool.Decides.{nat_tests}
use Rattle.std.proofs.lemmas.List.Elements.{recursion_from_All}
use Rattle.std.specs.Prelude.{Option, Some, None, IsTrue}
use Rattle.std.specs.List.{AllByRecursion, flat_map}
use Rattle.std.specs.Char.{is_ascii_digit}
use Rattle.httparse.specs.Grammar.{AllPass, Field, IsField, LineEnd, RequestHead, ReadsRequest, ResponseHead, ReadsResponse, crlf, lf, is_token_byte, is_uri_byte, is_value_byte, print_blank, print_end, print_field, print_reason, print_section, print_version, reason_phrase}
use Rattle.httparse.proofs.GrammarLemmas.{cons-append, print_request-append, print_response-append}
use Rattle.wef_http_heads.specs.Ends.{Start, Returned, Inside, behind_empty_line, behind_head, behind_lines, place_behind}

-- what passes a test isn't what fails it
pub other : (test : ℕ → Bool) (n b : ℕ) → test n ≡ false → test b ≡ true → b == n ≡ false
other test n b fails passes = decide (b == n) refl
  where
    decide : (t : Bool) → b == n ≡ t → b == n ≡ false
    decide false e = e
    decide true e =
        let same : b ≡ n = grind (arith, nat_tests, e) in
        let bad : ⊥ = cc in
        absurd bad

-- bytes of a test that LF fails lie inside a line
pub stays : (test : ℕ → Bool) → test 10 ≡ false → (word more : List ℕ) → AllByRecursion (λ b. IsTrue (test b)) word → behind_empty_line Inside (word ++ more) ≡ behind_empty_line Inside more
stays test fails [] more all = refl
stays test fails (b ∷ bs) more all =
    ap (λ (feed : Bool). cond feed (behind_empty_line Start (bs ++ more)) (behind_empty_line Inside (bs ++ more))) (other test 10 b fails all.0)
    ∙ stays test fails bs more all.1

pub stays_all : (test : ℕ → Bool) → test 10 ≡ false → (word more : List ℕ) → AllPass test word → behind_empty_line Inside (word ++ more) ≡ behind_empty_line Inside more
stays_all test fails word more all = stays test fails word more (recursion_from_All (λ b. IsTrue (test b)) word all)

token_feed : is_token_byte 10 ≡ false
unfolding is_token_byte
token_feed = refl

token_return : is_token_byte 13 ≡ false
unfolding is_token_byte
token_return = refl

-- a token at the start of a line, in front of the first line or behind it
pub begins_line : (word more : List ℕ) → 0 < length word → AllPass is_token_byte word → behind_lines Start (word ++ more) ≡ behind_empty_line Inside more
begins_line [] more some all = absurd (omega arith)
begins_line (b ∷ bs) more some all =
    let each = recursion_from_All (λ b. IsTrue (is_token_byte b)) (b ∷ bs) all in
    ap (λ (feed : Bool). cond feed (behind_lines Start (bs ++ more)) (behind_lines (place_behind Start b) (bs ++ more))) (other is_token_byte 10 b token_feed each.0)
    ∙ ap (λ (returned : Bool). behind_lines (cond returned Returned Inside) (bs ++ more)) (other is_token_byte 13 b token_return each.0)
    ∙ stays is_token_byte token_feed bs more each.1

begins_field : (word more : List ℕ) → 0 < length word → AllPass is_token_byte word → behind_empty_line Start (word ++ more) ≡ behind_empty_line Inside more
begins_field [] more some all = absurd (omega arith)
begins_field (b ∷ bs) more some all =
    let each = recursion_from_All (λ b. IsTrue (is_token_byte b)) (b ∷ bs) all in
    ap (λ (feed : Bool). cond feed (Some (bs ++ more)) (behind_empty_line (place_behind Start b) (bs ++ more))) (other is_token_byte 10 b token_feed each.0)
    ∙ ap (λ (returned : Bool). behind_empty_line (cond returned Returned Inside) (bs ++ more)) (other is_token_byte 13 b token_return each.0)
    ∙ stays is_token_byte token_feed bs more each.1

-- the end of a line that isn't empty, and of one that is
line_ends : (end : LineEnd) (more : List ℕ) → behind_empty_line Inside (print_end end ++ more) ≡ behind_empty_line Start more
line_ends crlf more = refl
line_ends lf more = refl

empty_ends : (end : LineEnd) (more : List ℕ) → behind_empty_line Start (print_end end ++ more) ≡ Some more
empty_ends crlf more = refl
empty_ends lf more = refl

-- empty lines in front of the first line don't count
pub skips_empty : (ends : List LineEnd) (more : List ℕ) → behind_lines Start (print_blank ends ++ more) ≡ behind_lines Start more
skips_empty [] more = refl
skips_empty (crlf ∷ ends) more = skips_empty ends more
skips_empty (lf ∷ ends) more = skips_empty ends more

field_passes : (name raw : List ℕ) (end : LineEnd) (more : List ℕ) → 0 < length name → AllPass is_token_byte name → AllPass is_value_byte raw → behind_empty_line Start (name ++ 58 ∷ (raw ++ (print_end end ++ more))) ≡ behind_empty_line Start more
field_passes name raw end more some token value =
    begins_field name (58 ∷ (raw ++ (print_end end ++ more))) some token
    ∙ stays_all is_value_byte refl raw (print_end end ++ more) value
    ∙ line_ends end more

-- a section's fields, and the empty line behind them
section_ends : (fields : List Field) (last : LineEnd) (rest : List ℕ) → AllByRecursion IsField fields → behind_empty_line Start (print_section fields last ++ rest) ≡ Some rest
section_ends [] last rest all = empty_ends last rest
section_ends (f ∷ fs) last rest all =
    ap (behind_empty_line Start) (regroup f.name f.raw (print_end f.end) (flat_map print_field fs) (print_end last) rest)
    ∙ field_passes f.name f.raw f.end (print_section fs last ++ rest) all.0.name.0 all.0.name.1 all.0.raw
    ∙ section_ends fs last rest all.1
  where
    regroup : (a b c d e r : List ℕ) → ((a ++ 58 ∷ b ++ c) ++ d ++ e) ++ r ≡ a ++ 58 ∷ (b ++ (c ++ ((d ++ e) ++ r)))
    regroup a b c d e r = simp (append_assoc, cons-append)

section_ends_all : (fields : List Field) (last : LineEnd) (rest : List ℕ) → All IsField fields → behind_empty_line Start (print_section fields last ++ rest) ≡ Some rest
section_ends_all fields last rest all = section_ends fields last rest (recursion_from_All IsField fields all)

version_passes : (minor : ℕ) (more : List ℕ) → behind_empty_line Inside (print_version minor ++ more) ≡ behind_empty_line Inside more
version_passes minor more =
    let no_feed : (48 + minor) == 10 ≡ false = grind (arith, nat_tests) in
    ap (λ (feed : Bool). cond feed (behind_empty_line Start more) (behind_empty_line Inside more)) no_feed

pub request_ends : (bytes : List ℕ) (h : RequestHead) (rest : List ℕ) → ReadsRequest bytes h rest → behind_head bytes ≡ Some rest
request_ends bytes h rest reads =
    let section = print_section h.fields h.last ++ rest in
    let line = print_version h.minor ++ (print_end h.line_end ++ section) in
    ap behind_head (reads.1 ∙ print_request-append h rest)
    ∙ skips_empty h.blank (h.method ++ 32 ∷ (h.target ++ 32 ∷ line))
    ∙ begins_line h.method (32 ∷ (h.target ++ 32 ∷ line)) reads.0.method.0 reads.0.method.1
    ∙ stays_all is_uri_byte refl h.target (32 ∷ line) reads.0.target.1
    ∙ version_passes h.minor (print_end h.line_end ++ section)
    ∙ line_ends h.line_end section
    ∙ section_ends_all h.fields h.last rest reads.0.fields

reason_passes : (reason : Option (List ℕ)) (more : List ℕ) → AllPass is_value_byte (reason_phrase reason) → behind_empty_line Inside (print_reason reason ++ more) ≡ behind_empty_line Inside more
reason_passes None more all = refl
reason_passes (Some phrase) more all = stays_all is_value_byte refl phrase more all

-- a response begins with its version
version_begins : (minor : ℕ) (more : List ℕ) → behind_lines Start (print_version minor ++ more) ≡ behind_empty_line Inside (print_version minor ++ more)
version_begins minor more = refl

pub response_ends : (bytes : List ℕ) (h : ResponseHead) (rest : List ℕ) → ReadsResponse bytes h rest → behind_head bytes ≡ Some rest
response_ends bytes h rest reads =
    let section = print_section h.fields h.last ++ rest in
    let line = print_reason h.reason ++ (print_end h.line_end ++ section) in
    ap behind_head (reads.1 ∙ print_response-append h rest)
    ∙ skips_empty h.blank (print_version h.minor ++ 32 ∷ (h.digits ++ line))
    ∙ version_begins h.minor (32 ∷ (h.digits ++ line))
    ∙ version_passes h.minor (32 ∷ (h.digits ++ line))
    ∙ stays_all is_ascii_digit refl h.digits line reads.0.digits.1
    ∙ reason_passes h.reason (print_end h.line_end ++ section) reads.0.reason
    ∙ line_ends h.line_end section
    ∙ section_ends_all h.fields h.last rest reads.0.fields
