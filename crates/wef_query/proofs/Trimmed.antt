-- What is trimmed has no spaces at its ends, so that trimming it once more leaves it as it is.
use Rattle.std.proofs.Common.{◌≡◌, ℕ, Bool, true, false, not, cond, List, [], ◌∷◌, encode_utf8_all, refl, ap, ◌∙◌}
use Rattle.std.specs.Str.{IsUtf8, all_scalars, chars}
use Rattle.std.proofs.lemmas.Str.{chars-encodes, scalars-chars}
use Rattle.wef_base.specs.Names.{is_space, trimmed, trimmed_characters, unless_last_space, without_end, without_start}
use Rattle.wef_base.proofs.Kept.{scalars-without_end, scalars-without_start}

-- characters of which the first is no space
abbrev pub starts_solid : List ℕ → Bool
starts_solid [] = true
starts_solid (c ∷ cs) = not (is_space c)

-- trimming the start leaves these as they are
pub start_stays : (cs : List ℕ) → starts_solid cs ≡ true → without_start cs ≡ cs
start_stays [] solid = refl
start_stays (c ∷ cs) solid = by (is_space c) solid
  where
    by : (b : Bool) → not b ≡ true → cond b (without_start cs) (c ∷ cs) ≡ c ∷ cs
    by true e = let bad : ⊥ = cc in absurd bad
    by false e = refl

pub start_solid : (cs : List ℕ) → starts_solid (without_start cs) ≡ true
start_solid [] = refl
start_solid (c ∷ cs) = by (is_space c) refl (start_solid cs)
  where
    by : (b : Bool) → is_space c ≡ b → starts_solid (without_start cs) ≡ true → starts_solid (cond b (without_start cs) (c ∷ cs)) ≡ true
    by true e rest = rest
    by false e rest = ap not e

last_solid : (c : ℕ) (cs : List ℕ) → is_space c ≡ false → starts_solid (unless_last_space c cs) ≡ true
last_solid c [] e = ap (λ (b : Bool). starts_solid (cond b [] (c ∷ []))) e ∙ ap not e
last_solid c (d ∷ ds) e = ap not e

pub end_solid : (cs : List ℕ) → starts_solid cs ≡ true → starts_solid (without_end cs) ≡ true
end_solid [] solid = refl
end_solid (c ∷ cs) solid = last_solid c (without_end cs) (negated (is_space c) solid)
  where
    negated : (b : Bool) → not b ≡ true → b ≡ false
    negated true e = let bad : ⊥ = cc in absurd bad
    negated false e = refl

last_kept : (c : ℕ) (b : Bool) → is_space c ≡ b → without_end (cond b [] (c ∷ [])) ≡ cond b [] (c ∷ [])
last_kept c true e = refl
last_kept c false e = ap (λ (b : Bool). cond b [] (c ∷ [])) e

end_kept : (c : ℕ) (cs : List ℕ) → without_end cs ≡ cs → without_end (unless_last_space c cs) ≡ unless_last_space c cs
end_kept c [] rest = last_kept c (is_space c) refl
end_kept c (d ∷ ds) rest = ap (unless_last_space c) rest

pub end_twice : (cs : List ℕ) → without_end (without_end cs) ≡ without_end cs
end_twice [] = refl
end_twice (c ∷ cs) = end_kept c (without_end cs) (end_twice cs)

-- ---- texts

characters_again : (cs : List ℕ) → trimmed_characters (trimmed_characters cs) ≡ trimmed_characters cs
characters_again cs =
    ap without_end (start_stays (trimmed_characters cs) (end_solid (without_start cs) (start_solid cs))) ∙ end_twice (without_start cs)

-- a text that is trimmed twice
pub trimmed_again : (text : List ℕ) → IsUtf8 text → trimmed (trimmed text) ≡ trimmed text
trimmed_again text utf8 =
    let cs = chars text in
    let scalars : all_scalars (trimmed_characters cs) ≡ true = scalars-without_end (without_start cs) (scalars-without_start cs (scalars-chars text utf8)) in
    ap (λ xs. encode_utf8_all (trimmed_characters xs)) (chars-encodes (trimmed_characters cs) scalars) ∙ ap encode_utf8_all (characters_again cs)
