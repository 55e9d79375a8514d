-- Cutting a text part by part.
use Rattle.std.proofs.Common.{◌≡◌, ℕ, ◌+◌, ◌<◌, ◌≤◌, ◌==◌, Bool, true, false, cond, List, [], ◌∷◌, ◌++◌, length, get_or, take, drop, All, refl, ap, sym, ◌∙◌, arith, take-append-drop, eq-eqb}
use Rattle.std.specs.List.{onto_first}
use Rattle.std.proofs.lemmas.List.{drop_more}
use Rattle.std.proofs.lemmas.List.Splits.{slice_split_at}
use Rattle.wef_base.specs.Words.{parts}

-- the first part ends at the first byte that separates
pub cut_at : (separator at : ℕ) (text : List ℕ) → at < length text → get_or text at 0 ≡ separator → All (λ b. (b == separator) ≡ false) (take at text)
    → parts separator text ≡ take at text ∷ parts separator (drop (at + 1) text)
cut_at separator at text inside ends before =
    let whole : text ≡ take at text ++ separator ∷ drop (at + 1) text =
    sym (take-append-drop at text) ∙ ap (λ more. take at text ++ more) (drop_more text at 0 inside ∙ ap (λ b. b ∷ drop (at + 1) text) ends) in
    ap (parts separator) whole ∙ slice_split_at (λ b. b == separator) (take at text) separator (drop (at + 1) text) before (eq-eqb separator separator refl)

-- a text has a part, at least
pub record HasFirst (separator : ℕ) (text : List ℕ) : Type 0 where
  pub first : List ℕ
  pub more : List (List ℕ)
  pub are : parts separator text ≡ first ∷ more

with_first : (b : ℕ) (ends : Bool) (ps : List (List ℕ)) → (first : List ℕ) × (more : List (List ℕ)) × (cond ends ([] ∷ ps) (onto_first b ps) ≡ first ∷ more)
with_first b true ps = ([], ps, refl)
with_first b false [] = (b ∷ [], [], refl)
with_first b false (p ∷ ps) = (b ∷ p, ps, refl)

pub has_first : (separator : ℕ) (text : List ℕ) → HasFirst separator text
has_first separator [] = record { first = []; more = []; are = refl }
has_first separator (b ∷ bs) = let found = with_first b (b == separator) (parts separator bs) in record { first = found.0; more = found.1; are = found.2 }

-- and at most one more than it has bytes
count_with : (n b : ℕ) (ends : Bool) (ps : List (List ℕ)) → length ps ≤ n + 1 → length (cond ends ([] ∷ ps) (onto_first b ps)) ≤ n + 2
count_with n b true ps h = omega arith
count_with n b false [] h = omega arith
count_with n b false (p ∷ ps) h = omega arith

pub part_count : (separator : ℕ) (text : List ℕ) → length (parts separator text) ≤ length text + 1
part_count separator [] = omega arith
part_count separator (b ∷ bs) = let most = count_with (length bs) b (b == separator) (parts separator bs) (part_count separator bs) in omega arith
