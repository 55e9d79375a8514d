-- What predicates leave, node by node and predicate by predicate.
use Rattle.std.proofs.Common.{◌≡◌, ℕ, ◌+◌, ◌<◌, ◌≤◌, Bool, true, false, ◌&&◌, ◌||◌, cond, List, [], ◌∷◌, ◌++◌, length, map, take, drop, get_or, not, ◌==◌, refl, sym, ◌∙◌, ap, append_assoc, arith}
use Rattle.std.specs.List.{list_any, flat_map}
use Rattle.std.proofs.Math.Bool.{and_assoc, and-false, and-true, or-true}
use Rattle.std.proofs.lemmas.List.{append-nil, length-append, map-append, take_more, take-append-drop, take-take}
use Rattle.std.proofs.lemmas.List.Folds.{list_any-append}
use Rattle.std.proofs.lemmas.Grind.{flat_map-append}
use Rattle.std.proofs.lemmas.Bool.Decides.{nat_tests}
use Rattle.wef_query_paths.specs.declared.path.Predicate.{Predicate}
use Rattle.wef_query_paths.specs.declared.path.Step.{Step, out-Step}
use Rattle.wef_query_values.specs.Places.{Place}
use Rattle.wef_query_values.specs.Meaning.{Test, Finds, after, holds, kept, left_by}
use Rattle.wef_query_values.specs.Walk.{leaves, tests}

-- a node, where a test of it passes
abbrev if_so : Bool → Place → List Place
if_so b x = cond b (x ∷ []) []

kept_more : (p : Test) (n : ℕ) (xs : List Place) (x : Place) (m : ℕ) → n + length xs + 1 ≡ m → kept p n (xs ++ (x ∷ [])) ≡ kept p n xs ++ if_so (p x m) x
kept_more p n [] x m e = let place : n + 1 ≡ m = omega arith in ap (λ k. if_so (p x k) x) place
kept_more p n (y ∷ ys) x m e =
    let more : kept p (n + 1) (ys ++ (x ∷ [])) ≡ kept p (n + 1) ys ++ if_so (p x m) x = kept_more p (n + 1) ys x m (omega arith) in
    elim (p y (n + 1)) as (λ b. cond b (y ∷ kept p (n + 1) (ys ++ (x ∷ []))) (kept p (n + 1) (ys ++ (x ∷ []))) ≡ cond b (y ∷ kept p (n + 1) ys) (kept p (n + 1) ys) ++ if_so (p x m) x)
    [ true ↦ ap (λ zs. y ∷ zs) more | false ↦ more ]

pub left_more : (ps : List Test) (xs : List Place) (x : Place) → left_by ps (xs ++ (x ∷ [])) ≡ left_by ps xs ++ if_so (leaves ps xs x) x
left_more [] xs x = refl
left_more (p ∷ ps) xs x =
    ap (left_by ps) (kept_more p 0 xs x (length xs + 1) (omega arith))
    ∙ elim (p x (length xs + 1)) as (λ b. left_by ps (kept p 0 xs ++ if_so b x) ≡ left_by ps (kept p 0 xs) ++ if_so (b && leaves ps (kept p 0 xs) x) x)
    [ true ↦ left_more ps (kept p 0 xs) x | false ↦ ap (left_by ps) (append-nil (kept p 0 xs)) ∙ sym (append-nil (left_by ps (kept p 0 xs))) ]

leaves-append : (ps qs : List Test) (xs : List Place) (x : Place) → leaves (ps ++ qs) xs x ≡ (leaves ps xs x && leaves qs (left_by ps xs) x)
leaves-append [] qs xs x = refl
leaves-append (p ∷ ps) qs xs x =
    ap (λ b. p x (length xs + 1) && b) (leaves-append ps qs (kept p 0 xs) x)
    ∙ sym (and_assoc (p x (length xs + 1)) (leaves ps (kept p 0 xs) x) (leaves qs (left_by ps (kept p 0 xs)) x))

-- one predicate more
leaves_next : (ps : List Predicate) (k : ℕ) (d : Predicate) (xs : List Place) (x : Place) → k < length ps
    → leaves (map holds (take (k + 1) ps)) xs x ≡ (leaves (map holds (take k ps)) xs x && holds (get_or ps k d) x (length (left_by (map holds (take k ps)) xs) + 1))
leaves_next ps k d xs x h =
    ap (λ qs. leaves qs xs x) (ap (map holds) (take_more ps k d h) ∙ map-append holds (take k ps) (get_or ps k d ∷ []))
    ∙ leaves-append (map holds (take k ps)) (holds (get_or ps k d) ∷ []) xs x
    ∙ ap (λ b. leaves (map holds (take k ps)) xs x && b) (and-true (holds (get_or ps k d) x (length (left_by (map holds (take k ps)) xs) + 1)))

leaves_front : (ps qs : List Test) (xs : List Place) (x : Place) → leaves ps xs x ≡ false → leaves (ps ++ qs) xs x ≡ false
leaves_front ps qs xs x gone = leaves-append ps qs xs x ∙ ap (λ b. b && leaves qs (left_by ps xs) x) gone

-- what the first predicates don't leave, all don't
pub leaves_gone : (ps : List Predicate) (k : ℕ) (xs : List Place) (x : Place) → leaves (map holds (take k ps)) xs x ≡ false → leaves (map holds ps) xs x ≡ false
leaves_gone ps k xs x gone =
    ap (λ qs. leaves (map holds qs) xs x) (sym (take-append-drop k ps)) ∙ ap (λ qs. leaves qs xs x) (map-append holds (take k ps) (drop k ps))
    ∙ leaves_front (map holds (take k ps)) (map holds (drop k ps)) xs x gone

-- one predicate more, which is asked with some number that does for its place
pub asked_next : (ps : List Predicate) (k : ℕ) (d : Predicate) (xs : List Place) (x : Place) (place : ℕ) (b : Bool) → k < length ps → d ≡ get_or ps k d
    → leaves (map holds (take k ps)) xs x ≡ true → holds (get_or ps k d) x place ≡ holds (get_or ps k d) x (length (left_by (map holds (take k ps)) xs) + 1)
    → b ≡ holds d x place → leaves (map holds (take (k + 1) ps)) xs x ≡ b
asked_next ps k d xs x place b h is stays same asked =
    leaves_next ps k d xs x h ∙ (λ i. stays i && sym same i) ∙ ap (λ p. holds p x place) (sym is) ∙ sym asked

-- ---- how many are left

pub count_yes : (ps : List Test) (xs : List Place) (x : Place) → leaves ps xs x ≡ true → length (left_by ps (xs ++ (x ∷ []))) ≡ length (left_by ps xs) + 1
count_yes ps xs x stays =
    ap length (left_more ps xs x ∙ ap (λ b. left_by ps xs ++ if_so b x) stays) ∙ length-append (left_by ps xs) (x ∷ [])

pub count_no : (ps : List Test) (xs : List Place) (x : Place) → leaves ps xs x ≡ false → length (left_by ps (xs ++ (x ∷ []))) ≡ length (left_by ps xs)
count_no ps xs x gone = ap length (left_more ps xs x ∙ ap (λ b. left_by ps xs ++ if_so b x) gone ∙ append-nil (left_by ps xs))

-- ---- what steps reach from what is left

after-append : (ss : List Finds) (xs ys : List Place) → after ss (xs ++ ys) ≡ after ss xs ++ after ss ys
after-append [] xs ys = refl
after-append (s ∷ ss) xs ys = ap (after ss) (flat_map-append s xs ys) ∙ after-append ss (flat_map s xs) (flat_map s ys)

after_none : (ss : List Finds) → after ss [] ≡ []
after_none [] = refl
after_none (s ∷ ss) = after_none ss

-- whether steps reach a node that passes from one of those that predicates leave
abbrev pub found : (Place → Bool) → List Finds → List Test → List Place → Bool
found w ss ps xs = list_any w (after ss (left_by ps xs))

found_more : (w : Place → Bool) (ss : List Finds) (ps : List Test) (xs : List Place) (x : Place)
    → found w ss ps (xs ++ (x ∷ [])) ≡ (found w ss ps xs || (leaves ps xs x && list_any w (after ss (x ∷ []))))
found_more w ss ps xs x =
    ap (λ zs. list_any w (after ss zs)) (left_more ps xs x)
    ∙ ap (list_any w) (after-append ss (left_by ps xs) (if_so (leaves ps xs x) x))
    ∙ list_any-append w (after ss (left_by ps xs)) (after ss (if_so (leaves ps xs x) x))
    ∙ elim (leaves ps xs x) as (λ b. (found w ss ps xs || list_any w (after ss (if_so b x))) ≡ (found w ss ps xs || (b && list_any w (after ss (x ∷ [])))))
    [ true ↦ refl | false ↦ ap (λ zs. found w ss ps xs || list_any w zs) (after_none ss) ]

pub found_gone : (w : Place → Bool) (ss : List Finds) (ps : List Test) (xs : List Place) (x : Place) → leaves ps xs x ≡ false → found w ss ps xs ≡ false
    → found w ss ps (xs ++ (x ∷ [])) ≡ false
found_gone w ss ps xs x gone none = found_more w ss ps xs x ∙ (λ i. none i || (gone i && list_any w (after ss (x ∷ []))))

pub found_fails : (w : Place → Bool) (ss : List Finds) (ps : List Test) (xs : List Place) (x : Place) → list_any w (after ss (x ∷ [])) ≡ false → found w ss ps xs ≡ false
    → found w ss ps (xs ++ (x ∷ [])) ≡ false
found_fails w ss ps xs x fails none = found_more w ss ps xs x ∙ (λ i. none i || (leaves ps xs x && fails i)) ∙ and-false (leaves ps xs x)

pub found_here : (w : Place → Bool) (ss : List Finds) (ps : List Test) (xs : List Place) (x : Place) → leaves ps xs x ≡ true → list_any w (after ss (x ∷ [])) ≡ true
    → found w ss ps (xs ++ (x ∷ [])) ≡ true
found_here w ss ps xs x stays here = found_more w ss ps xs x ∙ (λ i. found w ss ps xs || (stays i && here i)) ∙ or-true (found w ss ps xs)

pub found_front : (w : Place → Bool) (ss : List Finds) (ps : List Test) (xs ys : List Place) → found w ss ps xs ≡ true → found w ss ps (xs ++ ys) ≡ true
found_front w ss ps xs [] there = ap (found w ss ps) (append-nil xs) ∙ there
found_front w ss ps xs (y ∷ ys) there =
    ap (found w ss ps) (sym (append_assoc xs (y ∷ []) ys))
    ∙ found_front w ss ps (xs ++ (y ∷ [])) ys (found_more w ss ps xs y ∙ ap (λ b. b || (leaves ps xs y && list_any w (after ss (y ∷ [])))) there)

-- ---- nothing

pub left_none : (ps : List Test) → left_by ps [] ≡ []
left_none [] = refl
left_none (p ∷ ps) = left_none ps

pub found_none : (w : Place → Bool) (ss : List Finds) (ps : List Test) → found w ss ps [] ≡ false
found_none w ss ps = ap (λ xs. list_any w (after ss xs)) (left_none ps) ∙ ap (list_any w) (after_none ss)

-- a list of which any item will do
pub any_node : (xs : List Place) → list_any (λ _. true) xs ≡ not (length xs == 0)
any_node [] = refl
any_node (x ∷ xs) = grind (arith, nat_tests)

-- ---- no more than there were

kept_within : (p : Test) (n : ℕ) (xs : List Place) → length (kept p n xs) ≤ length xs
kept_within p n [] = omega arith
kept_within p n (x ∷ xs) =
    let rest : length (kept p (n + 1) xs) ≤ length xs = kept_within p (n + 1) xs in
    elim (p x (n + 1)) as (λ b. length (cond b (x ∷ kept p (n + 1) xs) (kept p (n + 1) xs)) ≤ length (x ∷ xs)) [ true ↦ omega arith | false ↦ omega arith ]

pub left_within : (ps : List Test) (xs : List Place) → length (left_by ps xs) ≤ length xs
left_within [] xs = omega arith
left_within (p ∷ ps) xs = omega (arith, left_within ps (kept p 0 xs), kept_within p 0 xs)

-- what the first predicates don't leave, more of them don't
pub tests_gone : (s : Step) (k e : ℕ) (xs : List Place) (y : Place) → k ≤ e → leaves (tests s k) xs y ≡ false → leaves (tests s e) xs y ≡ false
tests_gone s k e xs y h gone =
    leaves_gone (take e (out-Step s).predicates) k xs y (ap (λ ps. leaves (map holds ps) xs y) (take-take k e (out-Step s).predicates h) ∙ gone)
