-- A request that is written is read.
use Rattle.std.proofs.Common.{◌≡◌, ℕ, ◌<◌, ◌≤◌, Bool, true, false, ◌&&◌, List, [], ◌∷◌, ◌++◌, length, refl, sym, subst, ◌∙◌, ap, arith, codes, append_assoc, append-nil, length-append, ◌+◌}
use Rattle.std.specs.Prelude.{None, Some, map, nat_lt}
use Rattle.std.specs.declared.result.Result.TheVariants.{Ok}
use Rattle.std.specs.Fmt.{decimal}
use Rattle.std.specs.List.{All, list_all}
use Rattle.std.proofs.lemmas.Bool.{cond-true}
use Rattle.std.proofs.lemmas.Fmt.{length-decimal-le}
use Rattle.std.proofs.lemmas.List.Elements.{All-from_recursion}
use Rattle.httparse.specs.Grammar.{Field, IsField, IsRequestHead, RequestHead, crlf, print_request}
use Rattle.httparse.specs.Spans.{name_and_value}
use Rattle.httparse.proofs.OnLiterals.{httparse_on_literals}
use Rattle.std.specs.Option.{option_map}
use Rattle.wef_base.specs.declared.tree.Charset.TheVariants.{Utf8}
use Rattle.wef_http_heads.specs.declared.framing.Declared.TheVariants.{Length}
use Rattle.wef_http_heads.specs.declared.heads.TheConstants.{BODY_LIMIT, HEAD_LIMIT}
use Rattle.wef_http_heads.specs.declared.targets.Side.{Side}
use Rattle.wef_http_heads.specs.declared.targets.Target.{Target}
use Rattle.wef_http_heads.specs.Fields.{NamedValue, closes, host_in, is_host, is_visible}
use Rattle.wef_http_heads.specs.Framing.{declared_in}
use Rattle.wef_http_heads.specs.Judging.{judged_request, request_of}
use Rattle.wef_http_heads.specs.Media.{is_uncoded, or_utf8, request_charset}
use Rattle.wef_http_heads.specs.Targets.{target_at}
use Rattle.wef_http_heads.specs.declared.plans.Framing.TheVariants as by
use Rattle.wef_http_heads.specs.declared.plans.RequestPlan.{RequestPlan}
use Rattle.wef_http_heads.specs.Heads.{PlansRequest}
use Rattle.wef_http.specs.Laws.{IsPath, RequestHeadsAreShort, RequestsAreRead}
use Rattle.wef_http.specs.Written.{field, line, line_end, media_type, request, request_head}
use Rattle.wef_http.proofs.MediaRead.{media_read}
use Rattle.wef_http.proofs.FieldsRead.{field_is, field_line, length_read, length_visible, media_visible, token_is, value_read}

-- the fields of a request
abbrev fields : List ℕ → ℕ → List Field
fields host size =
    field_line (codes "Host") host ∷ field_line (codes "Content-Type") (media_type Utf8)
    ∷ field_line (codes "Content-Length") (decimal size) ∷ field_line (codes "Connection") (codes "close") ∷ []

-- their names and values
abbrev named : List ℕ → ℕ → List NamedValue
named host size =
    (codes "Host", host) ∷ (codes "Content-Type", media_type Utf8) ∷ (codes "Content-Length", decimal size) ∷ (codes "Connection", codes "close") ∷ []

-- the request's head as a tree of the grammar
abbrev tree : List ℕ → List ℕ → ℕ → RequestHead
tree host path size = record { blank = []; method = codes "POST"; target = path; minor = 1; line_end = crlf; fields = fields host size; last = crlf }

-- ---- it is the tree's text

lines_joined : (first a b c d end : List ℕ) → first ++ ((a ++ (b ++ (c ++ (d ++ [])))) ++ end) ≡ first ++ a ++ b ++ c ++ d ++ end
lines_joined first a b c d end = simp (append_assoc, append-nil)

printed : (host path : List ℕ) (size : ℕ) → print_request (tree host path size) ≡ request_head host path size
unfolding print_request request_head
printed host path size =
    lines_joined (line (codes "POST " ++ path ++ codes " HTTP/1.1")) (field (codes "Host") host) (field (codes "Content-Type") (media_type Utf8))
    (field (codes "Content-Length") (decimal size)) (field (codes "Connection") (codes "close")) line_end

-- ---- it is of the grammar

host_visible : (host : List ℕ) → is_host host ≡ true → list_all is_visible host ≡ true
host_visible host h = and_part (nat_lt 0 (length host)) (list_all is_visible host) h
  where
    and_part : (a b : Bool) → (a && b) ≡ true → b ≡ true
    and_part true b e = e
    and_part false b e = cc

target_some : (side : Side) (target : Target) (path : List ℕ) → target_at side path ≡ Some target → 0 < length path
unfolding target_at
target_some side target [] h = cc
target_some side target (b ∷ path) h = omega arith

each_field : (host : List ℕ) (size : ℕ) → is_host host ≡ true → size ≤ BODY_LIMIT → All IsField (fields host size)
unfolding httparse_on_literals
each_field host size h fits = All-from_recursion IsField (fields host size) (
  field_is (codes "Host") host refl (host_visible host h),
  (
    field_is (codes "Content-Type") (media_type Utf8) refl (media_visible Utf8),
    (
      field_is (codes "Content-Length") (decimal size) refl (length_visible size fits),
      (field_is (codes "Connection") (codes "close") refl refl, tt),
    ),
  ),
)

of_grammar : (side : Side) (target : Target) (host path : List ℕ) (size : ℕ)
    → is_host host ≡ true → IsPath path → target_at side path ≡ Some target → size ≤ BODY_LIMIT → IsRequestHead (tree host path size)
unfolding httparse_on_literals
of_grammar side target host path size h good at fits = record {
  method = token_is (codes "POST") refl;
  target = (target_some side target path at, good.0);
  target_text = good.1;
  minor = omega arith;
  fields = each_field host size h fits;
}

-- ---- it is judged as it was meant

values : (host : List ℕ) (size : ℕ) → is_host host ≡ true → size ≤ BODY_LIMIT → map name_and_value (fields host size) ≡ named host size
values host size h fits = λ i.
    (codes "Host", value_read (codes "Host") host (host_visible host h) i)
    ∷ (codes "Content-Type", value_read (codes "Content-Type") (media_type Utf8) (media_visible Utf8) i)
    ∷ (codes "Content-Length", value_read (codes "Content-Length") (decimal size) (length_visible size fits) i)
    ∷ (codes "Connection", value_read (codes "Connection") (codes "close") refl i)
    ∷ []

host_said : (host : List ℕ) (size : ℕ) → is_host host ≡ true → host_in (named host size) ≡ Some host
unfolding host_in
host_said host size h = cond-true (is_host host) (Some host) None h

framing_said : (host : List ℕ) (size : ℕ) → size ≤ BODY_LIMIT → declared_in (named host size) ≡ Some (Length size)
unfolding declared_in
framing_said host size fits = length_read size fits

said : (host : List ℕ) (size : ℕ) → request_charset (named host size) ≡ Some Utf8
unfolding request_charset is_uncoded
said host size = ap (option_map or_utf8) (media_read Utf8)

closed : (host : List ℕ) (size : ℕ) → closes (named host size) ≡ true
unfolding closes httparse_on_literals
closed host size = refl

-- what the head says
abbrev plan : Target → List ℕ → ℕ → RequestPlan
plan target host size = record { target = target; host = host; charset = Utf8; keep = false; framing = by.Length size }

judged : (side : Side) (target : Target) (host path : List ℕ) (size : ℕ)
    → is_host host ≡ true → target_at side path ≡ Some target → size ≤ BODY_LIMIT
    → judged_request side (tree host path size) ≡ Ok (plan target host size)
judged side target host path size h at fits =
    ap (request_of side (codes "POST") path 1) (values host size h fits)
    ∙ rw (host_said host size h, framing_said host size fits, at, said host size, closed host size) refl

-- ---- it is short

pieces_short : (post path version host_name host kind size_name number close end : List ℕ)
    → length post ≤ 5 → length version ≤ 9 → length host_name ≤ 6 → length kind ≤ 50 → length size_name ≤ 16 → length number ≤ 8 → length close ≤ 19 → length end ≤ 2
    → length ((post ++ path ++ version ++ end) ++ (host_name ++ host ++ end) ++ kind ++ (size_name ++ number ++ end) ++ close ++ end) ≤ 128 + length host + length path
pieces_short post path version host_name host kind size_name number close end p v h k s n c e = simp length-append (omega arith)

pub heads_short : RequestHeadsAreShort
unfolding request_head media_type
heads_short host path size fits =
    pieces_short (codes "POST ") path (codes " HTTP/1.1") (codes "Host: ") host (field (codes "Content-Type") (media_type Utf8)) (codes "Content-Length: ") (decimal size)
    (field (codes "Connection") (codes "close")) line_end (omega arith) (omega arith) (omega arith) (omega arith) (omega arith)
    (length-decimal-le 8 size (omega arith) (omega arith) (omega arith)) (omega arith) (omega arith)

-- ---- the law

head_read : (side : Side) (target : Target) (host path body more : List ℕ)
    → is_host host ≡ true → IsPath path → target_at side path ≡ Some target
    → length (request_head host path (length body)) ≤ HEAD_LIMIT → length body ≤ BODY_LIMIT
    → PlansRequest side (request host path body ++ more) (plan target host (length body)) (body ++ more)
head_read side target host path body more h good at short fits =
    let size = length body in
    let text = printed host path size in
    let whole = append_assoc (request_head host path size) body more ∙ ap (λ (head : List ℕ). head ++ (body ++ more)) (sym text) in (
      tree host path size,
      (
        (of_grammar side target host path size h good at fits, whole),
        record { bytes = subst (λ (head : List ℕ). length head ≤ HEAD_LIMIT) (sym text) short; fields_fit = omega arith },
      ),
      judged side target host path size h at fits,
    )

pub requests_read : RequestsAreRead
requests_read side target host path body more h good at short fits =
    (plan target host (length body), body ++ more, head_read side target host path body more h good at short fits, (refl, refl), refl)
