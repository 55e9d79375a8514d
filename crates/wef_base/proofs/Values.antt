-- A numeral's value only grows with more digits.
use Rattle.std.proofs.Common.{◌≡◌, ℕ, ◌+◌, ◌-◌, ◌*◌, ◌<◌, ◌≤◌, List, [], ◌∷◌, refl, arith, false, nat_le}
use Rattle.std.specs.Prelude.{None}
use Rattle.std.proofs.lemmas.Bool.Decides.{nat_tests}
use Rattle.wef_base.specs.Numbers.{value_from, number_within}

pub value_from_least : (n : ℕ) (cs : List ℕ) → n ≤ value_from n cs
value_from_least n [] = omega arith
value_from_least n (c ∷ cs) = let more = value_from_least (n * 10 + (c - 48)) cs in omega arith

test_fails : (limit value : ℕ) → limit < value → nat_le value limit ≡ false
test_fails limit value h = grind (arith, nat_tests)

-- past the limit there is no number
pub too_large : (limit so_far : ℕ) (digits rest : List ℕ) → limit < so_far → value_from so_far rest ≡ value_from 0 digits → number_within limit digits ≡ None
too_large limit so_far digits rest h e =
    let least = value_from_least so_far rest in
    let above : limit < value_from 0 digits = omega arith in
    let fails = test_fails limit (value_from 0 digits) above in
    rw fails refl
