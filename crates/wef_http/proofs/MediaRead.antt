-- The media type that is written is read.
use Rattle.std.proofs.Common.{◌≡◌, ℕ, Bool, true, false, ◌&&◌, not, ◌==◌, cond, List, [], ◌∷◌, ◌++◌, refl, ◌∙◌, ap, codes}
use Rattle.std.specs.Prelude.{Option, Some, None}
use Rattle.std.specs.List.{list_all, onto_first}
use Rattle.std.specs.Option.{option_and_then, option_map}
use Rattle.std.proofs.lemmas.Bool.{and_parts}
use Rattle.httparse.proofs.OnLiterals.{httparse_on_literals}
use Rattle.wef_base.specs.declared.tree.Charset.{Charset}
use Rattle.wef_base.specs.declared.tree.Charset.TheVariants.{Utf8, Utf16}
use Rattle.wef_http_heads.specs.declared.media.Quoting.TheVariants.{Outside, Inside}
use Rattle.wef_http_heads.specs.Media.{charset_of_parts, charset_said, first_charset, or_else, parts_from}
use Rattle.wef_http.specs.Written.{charset_name, media_type}

-- neither a semicolon nor a quote
abbrev is_plain : ℕ → Bool
is_plain b = not (b == 59) && not (b == 34)

plain_parts : (b : ℕ) → is_plain b ≡ true → ((b == 59) ≡ false) × ((b == 34) ≡ false)
plain_parts b h = by_test (b == 59) (b == 34) h
  where
    by_test : (semicolon quote : Bool) → (not semicolon && not quote) ≡ true → (semicolon ≡ false) × (quote ≡ false)
    by_test false false e = (refl, refl)
    by_test false true e = cc
    by_test true quote e = cc

-- what stands before the first semicolon is a part, and the parts behind it follow
first_part : (front rest : List ℕ) → list_all is_plain front ≡ true → parts_from Outside (front ++ 59 ∷ rest) ≡ front ∷ parts_from Outside rest
first_part [] rest h = refl
first_part (b ∷ front) rest h =
    let p = and_parts (is_plain b) (list_all is_plain front) h in
    let plain = plain_parts b p.0 in
    let more = front ++ 59 ∷ rest in
    (λ i. cond (plain.0 i) ([] ∷ parts_from Outside more) (onto_first b (parts_from (cond (plain.1 i) Inside Outside) more)))
    ∙ ap (onto_first b) (first_part front rest p.1)

last_part : (text : List ℕ) → list_all is_plain text ≡ true → parts_from Outside text ≡ text ∷ []
last_part [] h = refl
last_part (b ∷ text) h =
    let p = and_parts (is_plain b) (list_all is_plain text) h in
    let plain = plain_parts b p.0 in
    (λ i. cond (plain.0 i) ([] ∷ parts_from Outside text) (onto_first b (parts_from (cond (plain.1 i) Inside Outside) text)))
    ∙ ap (onto_first b) (last_part text p.1)

two_parts : (kind parameter : List ℕ) → list_all is_plain kind ≡ true → list_all is_plain parameter ≡ true
    → charset_said (kind ++ 59 ∷ parameter) ≡ charset_of_parts (kind ∷ parameter ∷ [])
two_parts kind parameter k p = ap charset_of_parts (first_part kind parameter k ∙ ap (λ (parts : List (List ℕ)). kind ∷ parts) (last_part parameter p))

-- the parts stay closed, since a reader of parts computes long on a literal
kind : List ℕ
kind = codes "application/soap+xml"

parameter : Charset → List ℕ
parameter charset = codes "charset=" ++ charset_name charset

plain_kind : list_all is_plain kind ≡ true
unfolding kind
plain_kind = refl

plain_parameter : (charset : Charset) → list_all is_plain (parameter charset) ≡ true
unfolding parameter
plain_parameter Utf8 = refl
plain_parameter Utf16 = refl

written : (charset : Charset) → media_type charset ≡ kind ++ 59 ∷ parameter charset
unfolding media_type kind parameter
written charset = refl

read : (charset : Charset) → charset_of_parts (kind ∷ parameter charset ∷ []) ≡ Some (Some charset)
unfolding kind parameter httparse_on_literals
read Utf8 = refl
read Utf16 = refl

pub media_read : (charset : Charset) → first_charset (media_type charset ∷ []) ≡ Some (Some charset)
media_read charset =
    ap (λ (said : Option (Option Charset)). option_and_then (λ c. option_map (λ other. or_else c other) (Some None)) said)
    (ap charset_said (written charset) ∙ two_parts kind (parameter charset) plain_kind (plain_parameter charset) ∙ read charset)
