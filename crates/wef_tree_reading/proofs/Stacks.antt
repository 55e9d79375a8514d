-- The open elements as they lie in memory, the innermost last.
use Rattle.std.proofs.Common.{◌≡◌, ℕ, ◌-◌, ◌<◌, List, [], ◌∷◌, ◌++◌, length, get_or, ap, sym, ◌∙◌, arith, length-append}
use Rattle.std.specs.Prelude.{reverse, slice_set}
use Rattle.std.proofs.Math.ListN.{set}
use Rattle.std.proofs.Math.Seq.{set-append_seam, get_or-append_seam}
use Rattle.std.proofs.lemmas.List.{reverse-append, reverse-reverse}
use Rattle.wef_base.specs.declared.tree.Node.{Node}
use Rattle.wef_tree_reading.specs.Building.{with_child}
use Rattle.wef_tree_reading.specs.declared.stack.Open.{Open}

-- where the last of a list is
last_at : (os : List Open) (o : Open) → length (os ++ o ∷ []) - 1 ≡ length os
last_at os o = omega (arith, length-append os (o ∷ []))

last_set : (os : List Open) (o y : Open) → reverse (set (os ++ o ∷ []) (length (os ++ o ∷ []) - 1) y) ≡ y ∷ reverse os
last_set os o y = ap (λ n. reverse (set (os ++ o ∷ []) n y)) (last_at os o) ∙ ap reverse (set-append_seam os o [] y) ∙ reverse-append os (y ∷ [])

last_got : (os : List Open) (o x : Open) → get_or (os ++ o ∷ []) (length (os ++ o ∷ []) - 1) x ≡ o
last_got os o x = ap (λ n. get_or (os ++ o ∷ []) n x) (last_at os o) ∙ get_or-append_seam os o [] x

-- with the last of them changed to have one more child, the innermost has
pub last_changed : (xs : List Open) (n : ℕ) (x y : Open) (child : Node) → n ≡ length xs → 0 < n → x ≡ get_or xs (n - 1) x → y ≡ record x { children = x.children ++ child ∷ [] }
    → reverse (slice_set xs (n - 1) y) ≡ with_child child (reverse xs)
last_changed xs n x y child many some is made = by (reverse xs) (reverse-reverse xs)
  where
    by : (zs : List Open) → reverse zs ≡ xs → reverse (set xs (n - 1) y) ≡ with_child child zs
    by [] e = absurd (omega (arith, ap length e))
    by (o ∷ os) e =
        let whole : xs ≡ reverse os ++ o ∷ [] = sym e ∙ reverse-append (o ∷ []) os in
        let place : n - 1 ≡ length xs - 1 = ap (λ (k : ℕ). k - 1) many in
        let same : x ≡ o = is ∙ ap (λ (k : ℕ). get_or xs k x) place ∙ ap (λ (zs : List Open). get_or zs (length zs - 1) x) whole ∙ last_got (reverse os) o x in
        ap (λ (k : ℕ). reverse (set xs k y)) place
        ∙ ap (λ (zs : List Open). reverse (set zs (length zs - 1) y)) whole
        ∙ last_set (reverse os) o y
        ∙ (λ i. made i ∷ reverse-reverse os i)
        ∙ ap (λ (z : Open). record z { children = z.children ++ child ∷ [] } ∷ os) same
