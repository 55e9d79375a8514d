-- Line ends of a text without a carriage return.
use Rattle.std.proofs.Common.{◌≡◌, ℕ, ◌==◌, Bool, true, false, ◌||◌, ◌&&◌, cond, List, [], ◌∷◌, refl, ap}
use Rattle.std.specs.List.{list_any}
use Rattle.wef_xml.specs.Decoding.{line_ends}

-- they are one as they stand
pub as_they_stand : (cs : List ℕ) → list_any (λ c. c == 13) cs ≡ false → cs ≡ line_ends false cs
as_they_stand [] none = refl
as_they_stand (c ∷ cs) none = by (c == 13) (c == 10) none (as_they_stand cs)
  where
    by : (is_return is_feed : Bool) → (is_return || list_any (λ c. c == 13) cs) ≡ false →
        (list_any (λ c. c == 13) cs ≡ false → cs ≡ line_ends false cs) →
        c ∷ cs ≡ cond is_return (10 ∷ line_ends true cs) (cond (is_feed && false) (line_ends false cs) (c ∷ line_ends false cs))
    by true is_feed e more = absurd cc
    by false true e more = ap (λ (rest : List ℕ). c ∷ rest) (more e)
    by false false e more = ap (λ (rest : List ℕ). c ∷ rest) (more e)
