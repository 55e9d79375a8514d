-- Parts that are appended one after the other.
use Rattle.std.proofs.Common.{◌≡◌, List, [], ◌∷◌, ◌++◌, append_assoc}
use Rattle.wef_base.specs.declared.tree.Element.{Element}

pub appended : (front : List Element) (a b q : Element) (some : List Element) (v : Element)
    → ((((front ++ a ∷ []) ++ b ∷ []) ++ q ∷ []) ++ some) ++ v ∷ [] ≡ front ++ (a ∷ b ∷ q ∷ (some ++ v ∷ []))
appended front a b q some v = simp append_assoc
