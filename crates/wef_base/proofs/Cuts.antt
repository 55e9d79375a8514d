-- Cutting a text at a byte, one byte after the other.
use Rattle.std.proofs.Common.{◌≡◌, ℕ, ◌==◌, Bool, true, false, List, [], ◌∷◌, ◌++◌, refl, ap, ◌∙◌, sym, append_assoc, cond}
use Rattle.std.proofs.Common.{append-nil}
use Rattle.std.specs.List.{onto_first}
use Rattle.wef_base.specs.Words.{parts}

-- the parts, the first of them behind what was read of it already
abbrev pub behind : List ℕ → List (List ℕ) → List (List ℕ)
behind piece [] = piece ∷ []
behind piece (p ∷ ps) = (piece ++ p) ∷ ps

-- with nothing read of the first part, there are the parts alone
pub behind_nothing : (separator : ℕ) (text : List ℕ) → behind [] (parts separator text) ≡ parts separator text
behind_nothing separator [] = refl
behind_nothing separator (b ∷ bs) = by_first (b == separator) (parts separator bs)
  where
    by_first : (ends : Bool) (ps : List (List ℕ)) → behind [] (cond ends ([] ∷ ps) (onto_first b ps)) ≡ cond ends ([] ∷ ps) (onto_first b ps)
    by_first true ps = refl
    by_first false [] = refl
    by_first false (p ∷ ps) = refl

-- a byte that doesn't separate belongs to the part
behind_byte : (piece : List ℕ) (b : ℕ) (ps : List (List ℕ)) → behind piece (onto_first b ps) ≡ behind (piece ++ b ∷ []) ps
behind_byte piece b [] = refl
behind_byte piece b (p ∷ ps) = λ i. sym (append_assoc piece (b ∷ []) p) i ∷ ps

pub goes_on : (separator : ℕ) (piece : List ℕ) (b : ℕ) (bs : List ℕ) → b == separator ≡ false → behind piece (parts separator (b ∷ bs)) ≡ behind (piece ++ b ∷ []) (parts separator bs)
goes_on separator piece b bs e = ap (λ (ends : Bool). behind piece (cond ends ([] ∷ parts separator bs) (onto_first b (parts separator bs)))) e ∙ behind_byte piece b (parts separator bs)

pub ends_here : (separator : ℕ) (piece : List ℕ) (b : ℕ) (bs : List ℕ) → b == separator ≡ true → behind piece (parts separator (b ∷ bs)) ≡ piece ∷ behind [] (parts separator bs)
ends_here separator piece b bs e =
    ap (λ (ends : Bool). behind piece (cond ends ([] ∷ parts separator bs) (onto_first b (parts separator bs)))) e
    ∙ (λ i. append-nil piece i ∷ sym (behind_nothing separator bs) i)
