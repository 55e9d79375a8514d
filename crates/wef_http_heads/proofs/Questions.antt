-- What stands before the first item that passes a test, by its place.
use Rattle.std.proofs.Common.{◌≡◌, ℕ, ◌≤◌, Bool, true, false, List, take, length, min, sym, ap, ◌∙◌, arith, cond, nat_lt, refl}
use Rattle.std.proofs.Math.Seq.{take-length}
use Rattle.std.proofs.lemmas.Bool.Decides.{nat_tests}
use Rattle.std.proofs.lemmas.List.{take_min}
use Rattle.std.proofs.lemmas.Option.{cond_some}
use Rattle.std.specs.List.{before_first, position, position_or_len}
use Rattle.std.specs.Prelude.{Some, None}

pub before_found : (test : ℕ → Bool) (xs : List ℕ) (k : ℕ) → position test xs ≡ Some k → take k xs ≡ before_first test xs
before_found test xs k h =
    ap (λ n. take n xs) (sym (cond_some (nat_lt (position_or_len test xs) (length xs)) (position_or_len test xs) k h).1)

-- more than there are takes all
enough : (n : ℕ) (xs : List ℕ) → length xs ≤ n → take n xs ≡ xs
enough n xs h =
    let all : min n (length xs) ≡ length xs = omega arith in
    sym (take_min n xs) ∙ ap (λ m. take m xs) all ∙ take-length xs

none_is : (b : Bool) (n : ℕ) → cond b (Some n) None ≡ None → b ≡ false
none_is true n h = cc
none_is false n h = refl

pub before_none : (test : ℕ → Bool) (xs : List ℕ) → position test xs ≡ None → xs ≡ before_first test xs
before_none test xs h =
    let past : nat_lt (position_or_len test xs) (length xs) ≡ false = none_is _ (position_or_len test xs) h in
    let beyond : length xs ≤ position_or_len test xs = grind (arith, nat_tests, past) in
    sym (enough (position_or_len test xs) xs beyond)
