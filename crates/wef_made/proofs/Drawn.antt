-- Numbers that are drawn one by one.
use Rattle.std.proofs.Common.{◌≡◌, ℕ, zero, suc, ◌-◌, ◌==◌, Bool, true, false, List, [], ◌∷◌, refl, ap, arith}
use Rattle.std.proofs.lemmas.Bool.Decides.{nat_tests}
use Rattle.wef_made.specs.Made.{draw_of, draws, next_state}

pub one_drawn : (x n : ℕ) → n == 0 ≡ false → draws x n ≡ draw_of (next_state x) ∷ draws (next_state x) (n - 1)
one_drawn x zero e = grind (arith, nat_tests, e)
one_drawn x (suc n) e = let same : n ≡ suc n - 1 = omega arith in ap (λ m. draw_of (next_state x) ∷ draws (next_state x) m) same

pub none_drawn : (x n : ℕ) → n == 0 ≡ true → draws x n ≡ []
none_drawn x zero e = refl
none_drawn x (suc n) e = grind (arith, nat_tests, e)
