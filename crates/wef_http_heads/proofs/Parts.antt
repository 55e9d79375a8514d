-- Cutting a value at the semicolons outside quotes, one byte after the other.
use Rattle.std.proofs.Common.{◌≡◌, ℕ, Bool, true, false, List, [], ◌∷◌, ◌++◌, refl, ap, ◌∙◌, sym, append_assoc, cond}
use Rattle.std.proofs.Common.{append-nil}
use Rattle.std.specs.List.{onto_first}
use Rattle.wef_base.proofs.Cuts.{behind}
use Rattle.wef_http_heads.specs.declared.media.Quoting.{Quoting}
use Rattle.wef_http_heads.specs.Media.{parts_from, quoting_behind, separates}

-- with nothing read of the first part, there are the parts alone
pub behind_nothing : (quoting : Quoting) (value : List ℕ) → behind [] (parts_from quoting value) ≡ parts_from quoting value
behind_nothing quoting [] = refl
behind_nothing quoting (b ∷ bs) = by_first (separates quoting b) (parts_from quoting bs) (parts_from (quoting_behind quoting b) bs)
  where
    by_first : (ends : Bool) (ps qs : List (List ℕ)) → behind [] (cond ends ([] ∷ ps) (onto_first b qs)) ≡ cond ends ([] ∷ ps) (onto_first b qs)
    by_first true ps qs = refl
    by_first false ps [] = refl
    by_first false ps (q ∷ qs) = refl

-- a byte that doesn't separate belongs to the part
behind_byte : (part : List ℕ) (b : ℕ) (ps : List (List ℕ)) → behind part (onto_first b ps) ≡ behind (part ++ b ∷ []) ps
behind_byte part b [] = refl
behind_byte part b (p ∷ ps) = λ i. sym (append_assoc part (b ∷ []) p) i ∷ ps

pub goes_on : (quoting : Quoting) (part : List ℕ) (b : ℕ) (bs : List ℕ) → separates quoting b ≡ false → behind part (parts_from quoting (b ∷ bs)) ≡ behind (part ++ b ∷ []) (parts_from (quoting_behind quoting b) bs)
goes_on quoting part b bs e =
    ap (λ (ends : Bool). behind part (cond ends ([] ∷ parts_from quoting bs) (onto_first b (parts_from (quoting_behind quoting b) bs)))) e
    ∙ behind_byte part b (parts_from (quoting_behind quoting b) bs)

pub ends_here : (quoting : Quoting) (part : List ℕ) (b : ℕ) (bs : List ℕ) → separates quoting b ≡ true → behind part (parts_from quoting (b ∷ bs)) ≡ part ∷ behind [] (parts_from quoting bs)
ends_here quoting part b bs e =
    ap (λ (ends : Bool). behind part (cond ends ([] ∷ parts_from quoting bs) (onto_first b (parts_from (quoting_behind quoting b) bs)))) e
    ∙ (λ i. append-nil part i ∷ sym (behind_nothing quoting bs) i)
