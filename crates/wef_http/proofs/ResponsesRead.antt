-- A response that is written is read.
use Rattle.std.proofs.Common.{◌≡◌, ℕ, ◌≤◌, Bool, true, false, ◌&&◌, ◌||◌, ◌==◌, cond, List, [], ◌∷◌, ◌++◌, length, refl, sym, subst, ◌∙◌, ap, arith, codes, append_assoc, append-nil, length-append}
use Rattle.std.specs.Prelude.{Some, map, nat_le}
use Rattle.std.specs.declared.result.Result.TheVariants.{Ok}
use Rattle.std.specs.Char.{is_ascii_digit}
use Rattle.std.specs.Fmt.{decimal, digits}
use Rattle.std.specs.List.{All, flat_map, list_all}
use Rattle.std.specs.Option.{option_map}
use Rattle.std.specs.Str.Parse.{digits_value}
use Rattle.std.proofs.lemmas.Bool.{and_parts, cond-true}
use Rattle.std.proofs.lemmas.Bool.Decides.{nat_tests}
use Rattle.std.proofs.lemmas.Fmt.{length-decimal-le}
use Rattle.std.proofs.lemmas.List.Elements.{All-from_recursion, All-nil}
use Rattle.std.proofs.lemmas.List.Sums.{AllPass-from_list_all}
use Rattle.httparse.specs.Grammar.{Field, IsField, IsResponseHead, ResponseHead, crlf, is_value_byte, print_field, print_response}
use Rattle.httparse.specs.Spans.{name_and_value}
use Rattle.httparse.proofs.OnLiterals.{httparse_on_literals}
use Rattle.wef_base.specs.declared.tree.Charset.{Charset}
use Rattle.wef_base.specs.declared.tree.Charset.TheVariants.{Utf8, Utf16}
use Rattle.wef_http_heads.specs.declared.framing.Declared.TheVariants.{Length}
use Rattle.wef_http_heads.specs.declared.heads.TheConstants.{BODY_LIMIT, FIELD_LIMIT, HEAD_LIMIT}
use Rattle.wef_http_heads.specs.Fields.{NamedValue}
use Rattle.wef_http_heads.specs.Framing.{declared_in}
use Rattle.wef_http_heads.specs.Heads.{PlansResponse}
use Rattle.wef_http_heads.specs.Judging.{response_of}
use Rattle.wef_http_heads.specs.Media.{is_uncoded, or_utf8, response_charset}
use Rattle.wef_http_heads.specs.declared.plans.Framing.TheVariants as by
use Rattle.wef_http_heads.specs.declared.plans.ResponsePlan.{ResponsePlan}
use Rattle.wef_http.specs.Laws.{ResponsesAreRead}
use Rattle.wef_http.specs.Written.{answer_fields, fields, field, has_body, is_status, line_end, media_type, reason, response, response_head, status_line}
use Rattle.wef_http.proofs.MediaRead.{media_read}
use Rattle.wef_http.proofs.FieldsRead.{field_is, field_line, length_read, length_visible, media_visible, value_read}

-- ---- one status after the other

either : {Q : Type 0} (a b : Bool) → (a ≡ true → Q) → (b ≡ true → Q) → (a || b) ≡ true → Q
either true b f g h = f refl
either false b f g h = g h

same_number : (P : ℕ → Type 0) (n status : ℕ) → P n → (status == n) ≡ true → P status
same_number P n status p h = let is : n ≡ status = grind (arith, nat_tests, h) in subst P is p

by_status : (P : ℕ → Type 0) → P 200 → P 500 → P 204 → P 400 → P 404 → P 405 → P 411 → P 413 → P 415 → (status : ℕ) → is_status status ≡ true → P status
by_status P ok fault empty bad path method no_length large media status =
    let at : (n : ℕ) → P n → (status == n) ≡ true → P status = λ n p h. same_number P n status p h in
    either _ _
    (either _ _ (either _ _ (at 200 ok) (at 500 fault)) (at 204 empty))
    (either _ _ (either _ _ (either _ _ (either _ _ (either _ _ (at 400 bad) (at 404 path)) (at 405 method)) (at 411 no_length)) (at 413 large)) (at 415 media))

-- ---- the fields

abbrev answer_lines : Charset → ℕ → List Field
answer_lines charset size = field_line (codes "Content-Type") (media_type charset) ∷ field_line (codes "Content-Length") (decimal size) ∷ []

abbrev refusal_lines : List Field
refusal_lines = field_line (codes "Content-Length") (codes "0") ∷ field_line (codes "Connection") (codes "close") ∷ []

abbrev allowing_lines : List Field
allowing_lines = field_line (codes "Allow") (codes "POST") ∷ refusal_lines

-- what the head says
abbrev plan : ℕ → Charset → ℕ → ResponsePlan
plan status charset size = record { status = status; charset = cond (has_body status) charset Utf8; framing = by.Length size }

-- the three digits and the words of a status, as the grammar wants them
is_printable : ℕ → Bool
is_printable status =
    (length (decimal status) == 3) && (list_all is_ascii_digit (decimal status) && (list_all is_value_byte (reason status) && (digits_value 10 (decimal status) == status)))

record IsPrintable (status : ℕ) : Type 0 where
  three : length (decimal status) ≡ 3
  digits : list_all is_ascii_digit (decimal status) ≡ true
  words : list_all is_value_byte (reason status) ≡ true
  value : digits_value 10 (decimal status) ≡ status

printable_is : (status : ℕ) → is_printable status ≡ true → IsPrintable status
unfolding is_printable
printable_is status h =
    let first = and_parts (length (decimal status) == 3) _ h in
    let second = and_parts (list_all is_ascii_digit (decimal status)) _ first.1 in
    let third = and_parts (list_all is_value_byte (reason status)) _ second.1 in
    record { three = grind (arith, nat_tests, first.0); digits = second.0; words = third.0; value = grind (arith, nat_tests, third.1) }

-- fields are those of a response, which is judged by them as it was meant
record AreSaid (status : ℕ) (charset : Charset) (size : ℕ) (lines : List Field) : Type 0 where
  printable : IsPrintable status
  good : All IsField lines
  text : flat_map print_field lines ≡ fields status charset size
  judged : response_of status (map name_and_value lines) ≡ Ok (plan status charset size)
  few : length lines ≤ FIELD_LIMIT
  short : length (response_head status charset size) ≤ HEAD_LIMIT

-- ---- what has no body is closed, and computes

refusal_good : All IsField refusal_lines
unfolding httparse_on_literals
refusal_good = All-from_recursion IsField refusal_lines (field_is (codes "Content-Length") (codes "0") refl refl, (field_is (codes "Connection") (codes "close") refl refl, tt))

allowing_good : All IsField allowing_lines
unfolding httparse_on_literals
allowing_good = All-from_recursion IsField allowing_lines
    (field_is (codes "Allow") (codes "POST") refl refl, (field_is (codes "Content-Length") (codes "0") refl refl, (field_is (codes "Connection") (codes "close") refl refl, tt)))

-- a response of a status, whose body has so many bytes, has fields that are said
abbrev IsSaid : ℕ → Type 0
IsSaid status = (charset : Charset) (size : ℕ) → (has_body status ≡ false → size ≡ 0) → size ≤ BODY_LIMIT → (lines : List Field) × AreSaid status charset size lines

-- of what has no body all computes
empty_said : (status : ℕ) (lines : List Field) → has_body status ≡ false → All IsField lines → is_printable status ≡ true
    → ((charset : Charset) → flat_map print_field lines ≡ fields status charset 0)
    → ((charset : Charset) → response_of status (map name_and_value lines) ≡ Ok (plan status charset 0))
    → nat_le (length lines) FIELD_LIMIT ≡ true
    → ((charset : Charset) → nat_le (length (response_head status charset 0)) HEAD_LIMIT ≡ true)
    → IsSaid status
empty_said status lines bodiless good printable text judged few short charset size empty fits =
    subst (λ (n : ℕ). (lines : List Field) × AreSaid status charset n lines) (sym (empty bodiless)) (
      lines,
      record {
        printable = printable_is status printable;
        good = good;
        text = text charset;
        judged = judged charset;
        few = grind (arith, nat_tests, few);
        short = grind (arith, nat_tests, short charset);
      },
    )

empty_statuses : IsSaid 204 × IsSaid 400 × IsSaid 404 × IsSaid 405 × IsSaid 411 × IsSaid 413 × IsSaid 415
unfolding is_printable reason digits httparse_on_literals declared_in response_charset is_uncoded response_head
empty_statuses = (
  empty_said 204 [] refl (All-nil IsField) refl (λ _. refl) (λ _. refl) refl (λ _. refl),
  empty_said 400 refusal_lines refl refusal_good refl (λ _. refl) (λ _. refl) refl (λ _. refl),
  empty_said 404 refusal_lines refl refusal_good refl (λ _. refl) (λ _. refl) refl (λ _. refl),
  empty_said 405 allowing_lines refl allowing_good refl (λ _. refl) (λ _. refl) refl (λ _. refl),
  empty_said 411 refusal_lines refl refusal_good refl (λ _. refl) (λ _. refl) refl (λ _. refl),
  empty_said 413 refusal_lines refl refusal_good refl (λ _. refl) (λ _. refl) refl (λ _. refl),
  empty_said 415 refusal_lines refl refusal_good refl (λ _. refl) (λ _. refl) refl (λ _. refl),
)

-- ---- an answer

answer_good : (charset : Charset) (size : ℕ) → size ≤ BODY_LIMIT → All IsField (answer_lines charset size)
unfolding httparse_on_literals
answer_good charset size fits = All-from_recursion IsField (answer_lines charset size) (
  field_is (codes "Content-Type") (media_type charset) refl (media_visible charset),
  (field_is (codes "Content-Length") (decimal size) refl (length_visible size fits), tt),
)

abbrev named : Charset → ℕ → List NamedValue
named charset size = (codes "Content-Type", media_type charset) ∷ (codes "Content-Length", decimal size) ∷ []

values : (charset : Charset) (size : ℕ) → size ≤ BODY_LIMIT → map name_and_value (answer_lines charset size) ≡ named charset size
values charset size fits = λ i.
    (codes "Content-Type", value_read (codes "Content-Type") (media_type charset) (media_visible charset) i)
    ∷ (codes "Content-Length", value_read (codes "Content-Length") (decimal size) (length_visible size fits) i)
    ∷ []

framing_said : (charset : Charset) (size : ℕ) → size ≤ BODY_LIMIT → declared_in (named charset size) ≡ Some (Length size)
unfolding declared_in
framing_said charset size fits = length_read size fits

charset_is : (charset : Charset) (size : ℕ) → response_charset (named charset size) ≡ Some charset
unfolding response_charset is_uncoded
charset_is charset size = ap (option_map or_utf8) (media_read charset)

kind_short : (charset : Charset) → length (field (codes "Content-Type") (media_type charset)) ≤ 64
unfolding media_type
kind_short Utf8 = omega arith
kind_short Utf16 = omega arith

answer_short : (first kind name number end : List ℕ) → length first ≤ 64 → length kind ≤ 64 → length name ≤ 64 → length number ≤ 8 → length end ≤ 2
    → length (first ++ (kind ++ (name ++ number ++ end)) ++ end) ≤ HEAD_LIMIT
answer_short first kind name number end f k n d e = simp length-append (omega arith)

answer_said : (status : ℕ) → has_body status ≡ true → is_printable status ≡ true
    → ((charset : Charset) (size : ℕ) → response_head status charset size ≡ status_line status ++ answer_fields charset size ++ line_end)
    → length (status_line status) ≤ 64
    → ((charset : Charset) (size : ℕ) → size ≤ BODY_LIMIT → response_of status (named charset size) ≡ Ok (plan status charset size))
    → IsSaid status
answer_said status answers printable head line judged charset size empty fits =
    let number : length (decimal size) ≤ 8 = length-decimal-le 8 size (omega arith) (omega arith) (omega arith) in (
      answer_lines charset size,
      record {
        printable = printable_is status printable;
        good = answer_good charset size fits;
        text = ap (λ (text : List ℕ). field (codes "Content-Type") (media_type charset) ++ text) (append-nil (field (codes "Content-Length") (decimal size)))
            ∙ sym (cond-true (has_body status) (answer_fields charset size) _ answers);
        judged = ap (response_of status) (values charset size fits) ∙ judged charset size fits;
        few = omega arith;
        short = subst (λ (text : List ℕ). length text ≤ HEAD_LIMIT) (sym (head charset size))
            (answer_short (status_line status) (field (codes "Content-Type") (media_type charset)) (codes "Content-Length: ") (decimal size) line_end
            line (kind_short charset) (omega arith) number (omega arith));
      },
    )

answers : IsSaid 200 × IsSaid 500
unfolding is_printable reason digits httparse_on_literals response_head
answers = (
  answer_said 200 refl refl (λ _ _. refl) (omega arith) (λ charset size fits. rw (framing_said charset size fits, charset_is charset size) refl),
  answer_said 500 refl refl (λ _ _. refl) (omega arith) (λ charset size fits. rw (framing_said charset size fits, charset_is charset size) refl),
)

-- ---- the law

said : (status : ℕ) → is_status status ≡ true → IsSaid status
said = by_status IsSaid answers.0 answers.1 empty_statuses.0 empty_statuses.1 empty_statuses.2 empty_statuses.3 empty_statuses.4 empty_statuses.5 empty_statuses.6

-- the response's head as a tree of the grammar
abbrev tree : ℕ → List Field → ResponseHead
tree status lines = record { blank = []; minor = 1; digits = decimal status; reason = Some (reason status); line_end = crlf; fields = lines; last = crlf }

first_line : (version status space reason end rest last : List ℕ)
    → version ++ (space ++ status) ++ (space ++ reason) ++ end ++ (rest ++ last) ≡ (version ++ space ++ status ++ space ++ reason ++ end) ++ rest ++ last
first_line version status space reason end rest last = simp append_assoc

printed : (status : ℕ) (charset : Charset) (size : ℕ) (lines : List Field) → AreSaid status charset size lines
    → print_response (tree status lines) ≡ response_head status charset size
unfolding print_response response_head
printed status charset size lines said =
    first_line (codes "HTTP/1.1") (decimal status) (codes " ") (reason status) line_end (flat_map print_field lines) line_end
    ∙ ap (λ (text : List ℕ). status_line status ++ text ++ line_end) said.text

of_grammar : (status : ℕ) (charset : Charset) (size : ℕ) (lines : List Field) → AreSaid status charset size lines → IsResponseHead (tree status lines)
of_grammar status charset size lines said = record {
  minor = omega arith;
  digits = (said.printable.three, AllPass-from_list_all is_ascii_digit (decimal status) said.printable.digits);
  reason = AllPass-from_list_all is_value_byte (reason status) said.printable.words;
  fields = said.good;
}

head_read : (status : ℕ) (charset : Charset) (body more : List ℕ) (lines : List Field) → AreSaid status charset (length body) lines
    → PlansResponse (response status charset body ++ more) (plan status charset (length body)) (body ++ more)
head_read status charset body more lines said =
    let size = length body in
    let text = printed status charset size lines said in
    let whole = append_assoc (response_head status charset size) body more ∙ ap (λ (head : List ℕ). head ++ (body ++ more)) (sym text) in (
      tree status lines,
      (
        (of_grammar status charset size lines said, whole),
        record { bytes = subst (λ (head : List ℕ). length head ≤ HEAD_LIMIT) (sym text) said.short; fields_fit = said.few },
      ),
      ap (λ (code : ℕ). response_of code (map name_and_value lines)) said.printable.value ∙ said.judged,
    )

pub responses_read : ResponsesAreRead
responses_read status charset body more known empty fits =
    let (lines, are) = said status known charset (length body) (λ bodiless. ap length (empty bodiless)) fits in
    (plan status charset (length body), body ++ more, head_read status charset body more lines are, (refl, refl), refl)
