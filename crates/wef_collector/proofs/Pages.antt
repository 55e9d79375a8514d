-- When a page is full.
use Rattle.std.proofs.Common.{◌≡◌, ℕ, min, List, length, take, nat_le, nat_eq, ap, ◌∙◌, arith}
use Rattle.std.proofs.lemmas.List.{length-take}
use Rattle.std.proofs.lemmas.Bool.Decides.{nat_tests}

-- a page is full exactly where there are as many
pub is_full_page : {X : Type 0} (n : ℕ) (all page : List X) → page ≡ take n all → nat_eq (length page) n ≡ nat_le n (length all)
is_full_page n all page is =
    let size : length page ≡ min n (length all) = ap length is ∙ length-take n all in
    by_size n (length all) (length page) size
  where
    by_size : (n k size : ℕ) → size ≡ min n k → nat_eq size n ≡ nat_le n k
    by_size n k size e = grind (arith, nat_tests, e)
