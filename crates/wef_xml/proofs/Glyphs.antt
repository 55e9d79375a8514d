-- The ten digits, and the digits of numbers.
use Rattle.std.proofs.Common.{◌≡◌, ℕ, zero, suc, ◌/◌, ◌%◌, ◌<◌, ◌==◌, Bool, true, false, cond, List, ◌∷◌, arith}
use Rattle.std.specs.Fmt.{digit_glyph, digits_onto}
use Rattle.std.specs.List.{list_all}
use Rattle.std.proofs.lemmas.Bool.{and_from}

-- what holds of each of the ten holds of the digit of a number below ten
pub each_glyph : (P : ℕ → ℕ → Type 0) → P 0 48 → P 1 49 → P 2 50 → P 3 51 → P 4 52 → P 5 53 → P 6 54 → P 7 55 → P 8 56 → P 9 57 → (d : ℕ) → d < 10 → P d (digit_glyph false d)
each_glyph P a b c d e f g h i j zero less = a
each_glyph P a b c d e f g h i j (suc zero) less = b
each_glyph P a b c d e f g h i j (suc (suc zero)) less = c
each_glyph P a b c d e f g h i j (suc (suc (suc zero))) less = d
each_glyph P a b c d e f g h i j (suc (suc (suc (suc zero)))) less = e
each_glyph P a b c d e f g h i j (suc (suc (suc (suc (suc zero))))) less = f
each_glyph P a b c d e f g h i j (suc (suc (suc (suc (suc (suc zero)))))) less = g
each_glyph P a b c d e f g h i j (suc (suc (suc (suc (suc (suc (suc zero))))))) less = h
each_glyph P a b c d e f g h i j (suc (suc (suc (suc (suc (suc (suc (suc zero)))))))) less = i
each_glyph P a b c d e f g h i j (suc (suc (suc (suc (suc (suc (suc (suc (suc zero))))))))) less = j
each_glyph P a b c d e f g h i j (suc (suc (suc (suc (suc (suc (suc (suc (suc (suc n)))))))))) less = absurd (omega arith)

-- a test that each of the ten passes is passed by the digits of a number, behind those so far
pub digits_pass : (test : ℕ → Bool) → ((d : ℕ) → d < 10 → test (digit_glyph false d) ≡ true) → (steps n : ℕ) (behind : List ℕ) → list_all test behind ≡ true → list_all test (digits_onto steps 10 false n behind) ≡ true
digits_pass test each zero n behind h = h
digits_pass test each (suc steps) n behind h =
    let more : list_all test (digit_glyph false (n % 10) ∷ behind) ≡ true = and_from _ _ (each (n % 10) (omega arith)) h in
    by (n / 10 == 0) (digit_glyph false (n % 10) ∷ behind) more (digits_pass test each steps (n / 10) (digit_glyph false (n % 10) ∷ behind) more)
  where
    by : (b : Bool) (done : List ℕ) → list_all test done ≡ true → list_all test (digits_onto steps 10 false (n / 10) done) ≡ true → list_all test (cond b done (digits_onto steps 10 false (n / 10) done)) ≡ true
    by true done here further = here
    by false done here further = further
