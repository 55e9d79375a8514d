-- A text in UTF-8 is trimmed byte by byte as it is character by character.
use Rattle.std.proofs.Common.{◌≡◌, ℕ, ◌+◌, ◌/◌, ◌<◌, ◌≤◌, Bool, true, false, cond, ◌||◌, ltb, List, [], ◌∷◌, ◌++◌, refl, ap, sym, ◌∙◌, arith, encode_utf8_all}
use Rattle.std.specs.List.{list_any}
use Rattle.std.specs.Option.{ok_or}
use Rattle.std.specs.Str.{chars, IsUtf8}
use Rattle.std.proofs.lemmas.Bool.Decides.{nat_tests}
use Rattle.std.proofs.lemmas.Str.{encode_ascii, encodes-chars}
use lib.Utf8.{encode, next}
use Rattle.wef_base.specs.Names.{is_space, trimmed, trimmed_characters, unless_last_space, without_end, without_start}
use Rattle.wef_base.specs.declared.names.ValueFault.TheVariants.{NotAMoment}
use Rattle.wef_times.specs.Instants.{instant_at, instant_in}
use Rattle.wef_query_values.specs.Comparisons.{instant_of_text}
use Rattle.wef_query_values.specs.Laws.{InstantsAreRead}
use Rattle.wef_query_values.proofs.Ends.{other}

-- ---- one character

high : (b : ℕ) → 128 ≤ b → is_space b ≡ false
high b h = grind (arith, nat_tests)

space_ascii : (c : ℕ) → is_space c ≡ true → c < 128
space_ascii c h = grind (arith, nat_tests)

-- a byte of any list that isn't a space, by its first
or_rest : (b : ℕ) (bs : List ℕ) → is_space b ≡ false → list_any is_space bs ≡ false → list_any is_space (b ∷ bs) ≡ false
or_rest b bs p q = λ i. p i || q i

-- the bytes of a character that is no space hold none
encode_spaceless : (c : ℕ) → is_space c ≡ false → list_any is_space (encode c) ≡ false
unfolding encode
encode_spaceless c h = by_one (ltb c 128)
  where
    last : (n : ℕ) → list_any is_space (next n ∷ []) ≡ false
    last n = or_rest (next n) [] (high (next n) (omega arith)) refl

    two : (n m : ℕ) → list_any is_space (next n ∷ next m ∷ []) ≡ false
    two n m = or_rest (next n) (next m ∷ []) (high (next n) (omega arith)) (last m)

    three : (n m k : ℕ) → list_any is_space (next n ∷ next m ∷ next k ∷ []) ≡ false
    three n m k = or_rest (next n) (next m ∷ next k ∷ []) (high (next n) (omega arith)) (two m k)

    by_three : (t : Bool) → list_any is_space (cond t ((224 + c / 4096) ∷ next (c / 64) ∷ next c ∷ []) ((240 + c / 262144) ∷ next (c / 4096) ∷ next (c / 64) ∷ next c ∷ [])) ≡ false
    by_three true = or_rest (224 + c / 4096) (next (c / 64) ∷ next c ∷ []) (high (224 + c / 4096) (omega arith)) (two (c / 64) c)
    by_three false = or_rest (240 + c / 262144) (next (c / 4096) ∷ next (c / 64) ∷ next c ∷ []) (high (240 + c / 262144) (omega arith)) (three (c / 4096) (c / 64) c)

    by_two : (t : Bool) → list_any is_space (cond t ((192 + c / 64) ∷ next c ∷ [])
        (cond (ltb c 65536) ((224 + c / 4096) ∷ next (c / 64) ∷ next c ∷ []) ((240 + c / 262144) ∷ next (c / 4096) ∷ next (c / 64) ∷ next c ∷ []))) ≡ false
    by_two true = or_rest (192 + c / 64) (next c ∷ []) (high (192 + c / 64) (omega arith)) (last c)
    by_two false = by_three (ltb c 65536)

    by_one : (t : Bool) → list_any is_space (cond t (c ∷ []) (cond (ltb c 2048) ((192 + c / 64) ∷ next c ∷ [])
        (cond (ltb c 65536) ((224 + c / 4096) ∷ next (c / 64) ∷ next c ∷ []) ((240 + c / 262144) ∷ next (c / 4096) ∷ next (c / 64) ∷ next c ∷ [])))) ≡ false
    by_one true = or_rest c [] h refl
    by_one false = by_two (ltb c 2048)

-- and there is one
first_byte : (c : ℕ) → (b : ℕ) × (bs : List ℕ) × (encode c ≡ b ∷ bs)
unfolding encode
first_byte c = by_one (ltb c 128) (ltb c 2048) (ltb c 65536)
  where
    by_one : (t u v : Bool) → (b : ℕ) × (bs : List ℕ) × (cond t (c ∷ []) (cond u ((192 + c / 64) ∷ next c ∷ [])
        (cond v ((224 + c / 4096) ∷ next (c / 64) ∷ next c ∷ []) ((240 + c / 262144) ∷ next (c / 4096) ∷ next (c / 64) ∷ next c ∷ []))) ≡ b ∷ bs)
    by_one true u v = (c, [], refl)
    by_one false true v = (192 + c / 64, next c ∷ [], refl)
    by_one false false true = (224 + c / 4096, next (c / 64) ∷ next c ∷ [], refl)
    by_one false false false = (240 + c / 262144, next (c / 4096) ∷ next (c / 64) ∷ next c ∷ [], refl)

-- ---- in front

stays : (bs ys : List ℕ) (b : ℕ) → list_any is_space (b ∷ bs) ≡ false → without_start ((b ∷ bs) ++ ys) ≡ (b ∷ bs) ++ ys
stays bs ys b h = ap (λ t. cond t (without_start (bs ++ ys)) (b ∷ (bs ++ ys))) (neither (is_space b) h)
  where
    neither : (t : Bool) → (t || list_any is_space bs) ≡ false → t ≡ false
    neither true e = cc
    neither false e = refl

start_bytes : (cs : List ℕ) → without_start (encode_utf8_all cs) ≡ encode_utf8_all (without_start cs)
start_bytes [] = refl
start_bytes (c ∷ cs) = by_space (is_space c) refl (start_bytes cs)
  where
    by_space : (t : Bool) → is_space c ≡ t → without_start (encode_utf8_all cs) ≡ encode_utf8_all (without_start cs) →
        without_start (encode c ++ encode_utf8_all cs) ≡ encode_utf8_all (cond t (without_start cs) (c ∷ cs))
    by_space true space e =
        ap (λ bs. without_start (bs ++ encode_utf8_all cs)) (encode_ascii c (space_ascii c space))
        ∙ ap (λ t. cond t (without_start (encode_utf8_all cs)) (c ∷ encode_utf8_all cs)) space
        ∙ e
    by_space false space e =
        let some = first_byte c in
        let plain : list_any is_space (some.0 ∷ some.1) ≡ false = ap (list_any is_space) (sym some.2) ∙ encode_spaceless c space in
        ap (λ bs. without_start (bs ++ encode_utf8_all cs)) some.2
        ∙ stays some.1 (encode_utf8_all cs) some.0 plain
        ∙ ap (λ bs. bs ++ encode_utf8_all cs) (sym some.2)

-- ---- behind

kept : (bs ys : List ℕ) → list_any is_space bs ≡ false → without_end (bs ++ ys) ≡ bs ++ without_end ys
kept [] ys h = refl
kept (b ∷ bs) ys h =
    let both = neither (is_space b) h in
    ap (unless_last_space b) (kept bs ys both.1) ∙ other b (bs ++ without_end ys) both.0
  where
    neither : (t : Bool) → (t || list_any is_space bs) ≡ false → (t ≡ false) × (list_any is_space bs ≡ false)
    neither true e = let bad : ⊥ = cc in absurd bad
    neither false e = (refl, e)

end_bytes : (cs : List ℕ) → without_end (encode_utf8_all cs) ≡ encode_utf8_all (without_end cs)
end_bytes [] = refl
end_bytes (c ∷ cs) = by_space (is_space c) refl (end_bytes cs)
  where
    alone : (zs : List ℕ) → is_space c ≡ true → unless_last_space c (encode_utf8_all zs) ≡ encode_utf8_all (unless_last_space c zs)
    alone [] space = (λ i. cond (space i) [] (c ∷ [])) ∙ sym (ap (λ t. encode_utf8_all (cond t [] (c ∷ []))) space)
    alone (d ∷ ds) space =
        let some = first_byte d in
        ap (λ bs. unless_last_space c (bs ++ encode_utf8_all ds)) some.2
        ∙ (λ i. sym (encode_ascii c (space_ascii c space)) i ++ (sym some.2 i ++ encode_utf8_all ds))

    by_space : (t : Bool) → is_space c ≡ t → without_end (encode_utf8_all cs) ≡ encode_utf8_all (without_end cs) →
        without_end (encode c ++ encode_utf8_all cs) ≡ encode_utf8_all (unless_last_space c (without_end cs))
    by_space true space e =
        ap (λ bs. without_end (bs ++ encode_utf8_all cs)) (encode_ascii c (space_ascii c space))
        ∙ ap (unless_last_space c) e
        ∙ alone (without_end cs) space
    by_space false space e =
        kept (encode c) (encode_utf8_all cs) (encode_spaceless c space)
        ∙ ap (λ ys. encode c ++ ys) e
        ∙ ap encode_utf8_all (sym (other c (without_end cs) space))

pub trimmed_bytes : (text : List ℕ) → IsUtf8 text → trimmed_characters text ≡ trimmed text
trimmed_bytes text utf8 =
    ap trimmed_characters (sym (encodes-chars text utf8)) ∙ ap without_end (start_bytes (chars text)) ∙ end_bytes (without_start (chars text))

pub instants_are_read : InstantsAreRead
unfolding instant_in instant_of_text
instants_are_read text utf8 = ap (λ cs. ok_or (instant_at cs) NotAMoment) (sym (trimmed_bytes text utf8))
