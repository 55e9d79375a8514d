-- Comparing a name in a text with a text of bytes, character by character.
use Rattle.std.proofs.Common.{◌≡◌, ℕ, ◌==◌, Bool, true, false, cond, List, [], ◌∷◌, ◌++◌, length, encode_utf8, encode_utf8_all, IsUtf8, refl, sym, ap, ◌∙◌, arith}
use Rattle.std.specs.Prelude.{Option, Some, None}
use Rattle.std.specs.Cmp.{both_ways}
use Rattle.std.specs.Cmp.Lexicographic.{bytes_decides}
use Rattle.std.proofs.lemmas.Bool.Decides.{nat_tests}
use Rattle.std.proofs.lemmas.Str.{IsUtf8-past_char, cons_from_encodes, length-le-encodes}
use Rattle.wef_base.specs.Names.{same}
use Rattle.wef_tree_pieces.specs.Pieces.{behind_character}

none_some : {A : Type 0} (x : A) → None ≡ Some x → ⊥
none_some x e = cc

-- where a text goes on behind a character, the character stands in front
begins : (rest more : List ℕ) (c : ℕ) → Some more ≡ behind_character c rest → rest ≡ c ∷ more
begins [] more c e = absurd (none_some more (sym e))
begins (d ∷ ds) more c e = by (d == c) refl e
  where
    by : (is : Bool) → (d == c) ≡ is → Some more ≡ cond is (Some ds) None → d ∷ ds ≡ c ∷ more
    by true f e = (λ i. same_number f i ∷ sym (some_is e) i)
      where
        same_number : (d == c) ≡ true → d ≡ c
        same_number f = grind (arith, nat_tests, f)

        some_is : Some more ≡ Some ds → more ≡ ds
        some_is e = ap (λ (o : Option (List ℕ)). elim o [ Some x ↦ x | None ↦ more ]) e
    by false f e = absurd (none_some more (sym e))

-- behind the same character both go on
spelt_on : (rest more bytes behind : List ℕ) (c : ℕ) → bytes ≡ encode_utf8 c ++ behind → Some more ≡ behind_character c rest →
    same (encode_utf8_all rest) bytes ≡ same (encode_utf8_all more) behind
spelt_on rest more bytes behind c is e =
    (λ i. same (encode_utf8_all (begins rest more c e i)) (is i))
    ∙ both_ways _ _
    (λ h. (bytes_decides _ _).1 (cut ((bytes_decides _ _).0 h)))
    (λ h. (bytes_decides _ _).1 (ap (λ (x : List ℕ). encode_utf8 c ++ x) ((bytes_decides _ _).0 h)))
  where
    tail : List ℕ → List ℕ
    tail [] = []
    tail (x ∷ xs) = xs

    cut : encode_utf8_all (c ∷ more) ≡ encode_utf8 c ++ behind → encode_utf8_all more ≡ behind
    cut h = let found = cons_from_encodes (c ∷ more) behind c h in ap (λ x. encode_utf8_all (tail x)) found.1 ∙ found.2

-- and so does what the comparison keeps
pub spelt_further :
    (whole : Bool) (rest more bytes behind : List ℕ) (c : ℕ) → bytes ≡ encode_utf8 c ++ behind → Some more ≡ behind_character c rest →
    record { utf8 : IsUtf8 bytes; compared : same (encode_utf8_all rest) bytes ≡ whole } →
    record { utf8 : IsUtf8 behind; compared : same (encode_utf8_all more) behind ≡ whole }
spelt_further whole rest more bytes behind c is e held =
    record { utf8 = IsUtf8-past_char bytes behind c held.utf8 is; compared = sym (spelt_on rest more bytes behind c is e) ∙ held.compared }

-- where another character stands, or none, they differ
pub spelt_off : (rest bytes behind : List ℕ) (c : ℕ) → bytes ≡ encode_utf8 c ++ behind → None ≡ behind_character c rest →
    same (encode_utf8_all rest) bytes ≡ false
spelt_off rest bytes behind c is e = by (same (encode_utf8_all rest) bytes) refl
  where
    itself : (c == c) ≡ true
    itself = grind (arith, nat_tests)

    not_same : encode_utf8_all rest ≡ encode_utf8 c ++ behind → ⊥
    not_same h =
        let found = cons_from_encodes rest behind c h in
        none_some found.0 (e ∙ ap (behind_character c) found.1 ∙ ap (λ t. cond t (Some found.0) None) itself)

    by : (b : Bool) → same (encode_utf8_all rest) bytes ≡ b → b ≡ false
    by true h = absurd (not_same ((bytes_decides _ _).0 h ∙ is))
    by false h = refl

-- at the end of the bytes nothing may be left
pub spelt_out : (rest bytes : List ℕ) → length bytes ≡ 0 → same (encode_utf8_all rest) bytes ≡ (length rest == 0)
spelt_out [] [] none = refl
spelt_out rest (b ∷ bs) none = absurd (omega arith)
spelt_out (c ∷ cs) [] none = by (same (encode_utf8_all (c ∷ cs)) []) refl
  where
    by : (b : Bool) → same (encode_utf8_all (c ∷ cs)) [] ≡ b → b ≡ (length (c ∷ cs) == 0)
    by true h = let e : length (encode_utf8_all (c ∷ cs)) ≡ 0 = ap length ((bytes_decides (encode_utf8_all (c ∷ cs)) []).0 h) in let l = length-le-encodes (c ∷ cs) in absurd (omega arith)
    by false h = let some : (length (c ∷ cs) == 0) ≡ false = grind (arith, nat_tests) in sym some
