-- What a read from memory gives and leaves.
use Rattle.std.proofs.Common.{◌≡◌, ℕ, ◌+◌, ◌≤◌, List, ◌++◌, length, take, drop, sym, ◌∙◌, ap, arith}
use Rattle.std.proofs.lemmas.List.{take-append-drop, drop-drop, take_at, length-take}

-- the bytes given are the first ones that were left, and those left now the others
pub given_first : (at n : ℕ) (bytes rest copied behind : List ℕ) → rest ≡ drop at bytes → copied ≡ take n rest → n ≤ length rest →
    drop at bytes ≡ take n (copied ++ behind) ++ drop (at + n) bytes
given_first at n bytes rest copied behind r c fits =
    let long : length (take n rest) ≡ n = length-take n rest ∙ omega arith in
    let front : take n (copied ++ behind) ≡ take n rest = ap (λ (xs : List ℕ). take n (xs ++ behind)) c ∙ take_at (take n rest) behind n long in
    let back : drop (at + n) bytes ≡ drop n rest = sym (drop-drop n at bytes) ∙ ap (drop n) (sym r) in
    sym r ∙ sym (take-append-drop n rest) ∙ sym (λ i. front i ++ back i)
