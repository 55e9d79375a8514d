-- What a set in the order of bytes says of names.
use Rattle.std.proofs.Common.{◌≡◌, ℕ, Bool, true, false, ◌||◌, cond, List, [], ◌∷◌, refl, sym, ◌∙◌}
use Rattle.std.specs.List.{list_any}
use Rattle.std.specs.Cmp.Lexicographic.{nat_list_eq_equiv, slice_cmp, texts_ties}
use Rattle.std.specs.Ordering.{is_eq, nat_cmp}
use Rattle.wef_base.specs.Names.{same}
use Rattle.wef_replay.specs.Good.{is_among}

-- a name that ties with one of these is one of these
pub among_by_order : (names : List (List ℕ)) (s : List ℕ) → list_any (λ (name : List ℕ). is_eq (slice_cmp nat_cmp s name)) names ≡ is_among names s
among_by_order [] s = refl
among_by_order (name ∷ names) s = let tie = sym (texts_ties s name) in λ i. tie i || among_by_order names s i

first_or_rest : (b c : Bool) → cond b true c ≡ (b || c)
first_or_rest true c = refl
first_or_rest false c = refl

-- names that have what others have, and one more, are those others with that one in front
pub among_one_more : (new old : List (List ℕ)) (k : List ℕ)
    → ((q : List ℕ) → list_any (λ (name : List ℕ). is_eq (slice_cmp nat_cmp q name)) new ≡ cond (is_eq (slice_cmp nat_cmp k q)) true (list_any (λ (name : List ℕ). is_eq (slice_cmp nat_cmp q name)) old))
    → (q : List ℕ) → is_among new q ≡ is_among (k ∷ old) q
among_one_more new old k updates q =
    let test : is_eq (slice_cmp nat_cmp k q) ≡ same q k = sym (texts_ties k q) ∙ nat_list_eq_equiv.symm k q in
    sym (among_by_order new q) ∙ updates q ∙ (λ i. cond (test i) true (among_by_order old q i)) ∙ first_or_rest (same q k) (is_among old q)
