-- Spaces at the end of a text, character by character.
use Rattle.std.proofs.Common.{◌≡◌, ℕ, Bool, false, cond, List, [], ◌∷◌, refl, ap, ◌∙◌}
use Rattle.wef_base.specs.Names.{is_space, unless_last_space}

-- c and what follows, where it is known whether c is a space
abbrev pub ends_by : Bool → ℕ → List ℕ → List ℕ
ends_by t c [] = cond t [] (c ∷ [])
ends_by t c (d ∷ ds) = c ∷ d ∷ ds

pub ends : (c : ℕ) (ys : List ℕ) → unless_last_space c ys ≡ ends_by (is_space c) c ys
ends c [] = refl
ends c (d ∷ ds) = refl

pub goes_on : (c : ℕ) (ys : List ℕ) → ends_by false c ys ≡ c ∷ ys
goes_on c [] = refl
goes_on c (d ∷ ds) = refl

-- what isn't a space stays
pub other : (c : ℕ) (ys : List ℕ) → is_space c ≡ false → unless_last_space c ys ≡ c ∷ ys
other c ys e = ends c ys ∙ ap (λ t. ends_by t c ys) e ∙ goes_on c ys
