-- Proofs by the two values of a test, and what tests of numbers and names say.
use Rattle.std.proofs.Common.{◌≡◌, ℕ, ◌<◌, ◌≤◌, ◌==◌, Bool, true, false, ◌&&◌, ◌||◌, cond, refl, sym, List, nat_lt, nat_le, arith, ◌⊎◌}
use Rattle.std.specs.Cmp.Lexicographic.{bytes_decides}
use Rattle.std.proofs.lemmas.Bool.Decides.{nat_tests}
use Rattle.wef_base.specs.Names.{same}

-- what holds of each of two values holds of the chosen one
pub by_bool : {A : Type 0} (P : A → Type 0) (t : Bool) {x y : A} → (t ≡ true → P x) → (t ≡ false → P y) → P (cond t x y)
by_bool P true yes_case no_case = yes_case refl
by_bool P false yes_case no_case = no_case refl

-- what holds at both values of a test holds
pub by_test : (P : Bool → Type 0) (t : Bool) → (t ≡ true → P true) → (t ≡ false → P false) → P t
by_test P true yes_case no_case = yes_case refl
by_test P false yes_case no_case = no_case refl

pub apart : {A : Type 0} → false ≡ true → A
apart e = cc

pub both_true : (a b : Bool) → (a && b) ≡ true → (a ≡ true) × (b ≡ true)
both_true true b e = (refl, e)
both_true false b e = apart e

pub and_true : (a b : Bool) → a ≡ true → b ≡ true → (a && b) ≡ true
and_true true b p q = q
and_true false b p q = p

pub either : (a b : Bool) → a ≡ true → (a || b) ≡ true
either true b e = refl
either false b e = cc

pub or_true : (a b : Bool) → b ≡ true → (a || b) ≡ true
or_true true b e = refl
or_true false b e = e

pub either_false : (a b : Bool) → (a || b) ≡ false → (a ≡ false) × (b ≡ false)
either_false true b e = apart (sym e)
either_false false b e = (refl, e)

pub lt_holds : (m n : ℕ) → nat_lt m n ≡ true → m < n
lt_holds m n e = grind (arith, nat_tests)

pub lt_fails : (m n : ℕ) → nat_lt m n ≡ false → n ≤ m
lt_fails m n e = grind (arith, nat_tests)

pub lt_tested : (m n : ℕ) → m < n → nat_lt m n ≡ true
lt_tested m n e = grind (arith, nat_tests)

pub le_holds : (m n : ℕ) → nat_le m n ≡ true → m ≤ n
le_holds m n e = grind (arith, nat_tests)

pub le_fails : (m n : ℕ) → nat_le m n ≡ false → n < m
le_fails m n e = grind (arith, nat_tests)

pub le_tested : (m n : ℕ) → m ≤ n → nat_le m n ≡ true
le_tested m n e = grind (arith, nat_tests)

pub le_refused : (m n : ℕ) → n < m → nat_le m n ≡ false
le_refused m n e = grind (arith, nat_tests)

pub eq_refused : (m n : ℕ) → (m < n) ⊎ (n < m) → (m == n) ≡ false
eq_refused m n e = grind (arith, nat_tests)

pub eq_itself : (n : ℕ) → (n == n) ≡ true
eq_itself n = grind (arith, nat_tests)

-- names that are the same byte for byte are one
pub one_name : (a b : List ℕ) → same a b ≡ true → a ≡ b
one_name a b e = (bytes_decides a b).0 e

pub same_itself : (a : List ℕ) → same a a ≡ true
same_itself a = (bytes_decides a a).1 refl
