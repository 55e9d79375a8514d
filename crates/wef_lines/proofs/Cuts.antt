-- Cutting a text at a byte.
use Rattle.std.proofs.Common.{◌≡◌, ℕ, ◌+◌, ◌<◌, ◌==◌, false, List, length, get_or, take, All, ap, sym, ◌∙◌, subst, arith, add-one}
use Rattle.std.proofs.Math.Seq.{take-suc}
use Rattle.std.proofs.lemmas.Bool.Decides.{nat_tests}
use Rattle.std.proofs.lemmas.List.Elements.{All-push}

-- a byte that doesn't separate isn't the end of what is cut
pub none_before : (separator at : ℕ) (text : List ℕ) → at < length text → (get_or text at 0 ≡ separator → ⊥) → All (λ b. (b == separator) ≡ false) (take at text)
    → All (λ b. (b == separator) ≡ false) (take (at + 1) text)
none_before separator at text inside other before =
    subst (λ front. All (λ b. (b == separator) ≡ false) front) (sym (ap (λ n. take n text) (add-one at) ∙ take-suc text at 0 inside))
    (All-push (λ b. (b == separator) ≡ false) (take at text) (get_or text at 0) before (differs (get_or text at 0) separator other))
  where
    differs : (n m : ℕ) → (n ≡ m → ⊥) → (n == m) ≡ false
    differs n m h = grind (arith, nat_tests, h)
