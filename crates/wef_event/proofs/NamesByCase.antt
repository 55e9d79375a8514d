-- What a name is doesn't depend on the case of its letters.
use Rattle.std.proofs.Common.{◌≡◌, ℕ, ◌+◌, nat_lt, Bool, true, false, cond, ◌||◌, List, [], ◌∷◌, length, map, encode_utf8_all, refl, ap, sym, ◌∙◌, arith}
use Rattle.std.specs.Prelude.{Some, None}
use Rattle.std.specs.Bool.{MatchBool}
use Rattle.std.specs.Char.{to_ascii_lowercase}
use Rattle.std.specs.List.{list_any}
use Rattle.std.specs.Str.{IsAscii}
use Rattle.std.proofs.lemmas.Bool.Decides.{nat_tests}
use Rattle.std.proofs.lemmas.Str.{chars-IsAscii}
use Rattle.std.proofs.lemmas.Str.Ascii.{lowercase-lowercase}
use Rattle.wef_base.specs.Names.{channel_name, is_forbidden, is_space, name_of_characters, spelt, trimmed_characters, unless_last_space, without_end, without_start}
use Rattle.wef_base.specs.declared.names.Letters.TheVariants.{Small}

abbrev small : List ℕ → List ℕ
small cs = map to_ascii_lowercase cs

-- what a test says of capitals and of their small letters alike it says of all characters
kept_by_case : (test : ℕ → Bool) → ((c : ℕ) → nat_lt c 65 ≡ false → nat_lt c 91 ≡ true → test (c + 32) ≡ test c) → (c : ℕ) → test (to_ascii_lowercase c) ≡ test c
kept_by_case test capitals c = by (nat_lt c 65) refl (nat_lt c 91) refl
  where
    by : (a : Bool) → nat_lt c 65 ≡ a → (b : Bool) → nat_lt c 91 ≡ b → test (cond a c (cond b (c + 32) c)) ≡ test c
    by true e b f = refl
    by false e false f = refl
    by false e true f = capitals c e f

space_kept : (c : ℕ) → is_space (to_ascii_lowercase c) ≡ is_space c
space_kept = kept_by_case is_space capitals
  where
    capitals : (c : ℕ) → nat_lt c 65 ≡ false → nat_lt c 91 ≡ true → is_space (c + 32) ≡ is_space c
    capitals c e f = grind (arith, nat_tests)

forbidden_kept : (c : ℕ) → is_forbidden (to_ascii_lowercase c) ≡ is_forbidden c
forbidden_kept = kept_by_case is_forbidden capitals
  where
    capitals : (c : ℕ) → nat_lt c 65 ≡ false → nat_lt c 91 ≡ true → is_forbidden (c + 32) ≡ is_forbidden c
    capitals c e f = grind (arith, nat_tests)

start_small : (cs : List ℕ) → without_start (small cs) ≡ small (without_start cs)
start_small [] = refl
start_small (c ∷ cs) = ap (λ (b : Bool). cond b (without_start (small cs)) (small (c ∷ cs))) (space_kept c) ∙ by (is_space c) (start_small cs)
  where
    by : (b : Bool) → without_start (small cs) ≡ small (without_start cs) → cond b (without_start (small cs)) (small (c ∷ cs)) ≡ small (cond b (without_start cs) (c ∷ cs))
    by true e = e
    by false e = refl

last_small : (c : ℕ) (cs : List ℕ) → unless_last_space (to_ascii_lowercase c) (small cs) ≡ small (unless_last_space c cs)
last_small c [] = ap (λ (b : Bool). cond b [] (to_ascii_lowercase c ∷ [])) (space_kept c) ∙ by (is_space c)
  where
    by : (b : Bool) → cond b [] (to_ascii_lowercase c ∷ []) ≡ small (cond b [] (c ∷ []))
    by true = refl
    by false = refl
last_small c (d ∷ ds) = refl

end_small : (cs : List ℕ) → without_end (small cs) ≡ small (without_end cs)
end_small [] = refl
end_small (c ∷ cs) = ap (unless_last_space (to_ascii_lowercase c)) (end_small cs) ∙ last_small c (without_end cs)

trimmed_small : (cs : List ℕ) → trimmed_characters (small cs) ≡ small (trimmed_characters cs)
trimmed_small cs = ap without_end (start_small cs) ∙ end_small (without_start cs)

any_small : (cs : List ℕ) → list_any is_forbidden (small cs) ≡ list_any is_forbidden cs
any_small [] = refl
any_small (c ∷ cs) = λ i. forbidden_kept c i || any_small cs i

spelt_small : (cs : List ℕ) → map (spelt Small) (small cs) ≡ map (spelt Small) cs
spelt_small [] = refl
spelt_small (c ∷ cs) = λ i. lowercase-lowercase c i ∷ spelt_small cs i

name_small : (cs : List ℕ) → name_of_characters Small 256 (small cs) ≡ name_of_characters Small 256 cs
name_small [] = refl
name_small (c ∷ cs) = λ i. cond (any_small (c ∷ cs) i || nat_lt 256 (length (encode_utf8_all (spelt_small (c ∷ cs) i)))) None (Some (encode_utf8_all (spelt_small (c ∷ cs) i)))

by_small : (cs : List ℕ) → name_of_characters Small 256 (trimmed_characters cs) ≡ name_of_characters Small 256 (trimmed_characters (small cs))
by_small cs = sym (name_small (trimmed_characters cs)) ∙ ap (name_of_characters Small 256) (sym (trimmed_small cs))

-- two words of ASCII that differ in the case of their letters alone give one name
pub named_by_case : (word name : List ℕ) → IsAscii word → IsAscii name → map to_ascii_lowercase word ≡ map to_ascii_lowercase name → channel_name word ≡ channel_name name
unfolding channel_name
named_by_case word name plain plain_name alike =
    ap (λ (cs : List ℕ). name_of_characters Small 256 (trimmed_characters cs)) (chars-IsAscii word plain)
    ∙ by_small word ∙ ap (λ (cs : List ℕ). name_of_characters Small 256 (trimmed_characters cs)) alike ∙ sym (by_small name)
    ∙ ap (λ (cs : List ℕ). name_of_characters Small 256 (trimmed_characters cs)) (sym (chars-IsAscii name plain_name))

-- what a test says where it is met
pub holds : (A B : Type 0) (b : Bool) → b ≡ true → MatchBool b A B → A
holds A B true e h = h
holds A B false e h = let bad : ⊥ = cc in absurd bad
