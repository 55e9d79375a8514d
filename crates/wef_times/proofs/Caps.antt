-- Numbers that stop at a limit.
use Rattle.std.proofs.Common.{◌≡◌, ℕ, ◌+◌, ◌-◌, ◌*◌, ◌≤◌, min, List, [], ◌∷◌, refl, ap, arith}
use Rattle.std.specs.Prelude.{Option, Some, None, option_map}
use Rattle.std.proofs.Math.Nat.{le-mul_of_pos_right}
use Rattle.wef_base.specs.Numbers.{value_from}
use Rattle.wef_times.specs.Durations.{capped}

-- what more digits make of two numbers that are alike up to a limit is so too
alike : (limit n m : ℕ) (cs : List ℕ) → min n limit ≡ min m limit → min (value_from n cs) limit ≡ min (value_from m cs) limit
alike limit n m [] e = e
alike limit n m (c ∷ cs) e = alike limit (n * 10 + (c - 48)) (m * 10 + (c - 48)) cs (omega arith)

-- a number that is stopped at the limit before more digits come
pub stopped : (limit n : ℕ) (cs : List ℕ) → min (value_from (min n limit) cs) limit ≡ min (value_from n cs) limit
stopped limit n cs = alike limit (min n limit) n cs (omega arith)

-- a sum that is stopped may have been stopped on the way
pub sum_stopped : (a b : ℕ) → capped (a + capped b) ≡ capped (a + b)
sum_stopped a b = omega arith

pub product_stopped : (a size b : ℕ) → 1 ≤ size → capped (capped a * size + b) ≡ capped (a * size + b)
product_stopped a size b h =
    let whole : a ≤ a * size = le-mul_of_pos_right a h in
    let front : capped a ≤ capped a * size = le-mul_of_pos_right (capped a) h in
    grind arith

-- the same of what may not be there
pub option_stopped : (a : ℕ) (b : Option ℕ) → option_map (λ ms. capped (a + ms)) (option_map capped b) ≡ option_map capped (option_map (λ ms. a + ms) b)
option_stopped a None = refl
option_stopped a (Some b) = ap Some (sum_stopped a b)
