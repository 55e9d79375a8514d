-- What trimming the end does, seen from the end.
use Rattle.std.proofs.Common.{◌≡◌, ℕ, true, false, List, [], ◌∷◌, ◌++◌, refl, ap, cond, ◌∙◌}
use Rattle.std.proofs.Common.{Bool}
use Rattle.wef_base.specs.Names.{is_space, unless_last_space, without_end}

-- a space at the end doesn't count
pub without_end_space : (xs : List ℕ) (c : ℕ) → is_space c ≡ true → without_end (xs ++ c ∷ []) ≡ without_end xs
without_end_space [] c space = ap (λ (b : Bool). cond b [] (c ∷ [])) space
without_end_space (x ∷ xs) c space = ap (unless_last_space x) (without_end_space xs c space)

-- before more, a character stays
stays : (x : ℕ) (xs : List ℕ) (c : ℕ) → unless_last_space x (xs ++ c ∷ []) ≡ x ∷ (xs ++ c ∷ [])
stays x [] c = refl
stays x (y ∷ ys) c = refl

-- before another character, everything stays
pub without_end_other : (xs : List ℕ) (c : ℕ) → is_space c ≡ false → without_end (xs ++ c ∷ []) ≡ xs ++ c ∷ []
without_end_other [] c other = ap (λ (b : Bool). cond b [] (c ∷ [])) other
without_end_other (x ∷ xs) c other = ap (unless_last_space x) (without_end_other xs c other) ∙ stays x xs c
