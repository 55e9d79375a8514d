-- The numbers of new prefixes rise, and pass over those that are taken.
use Rattle.std.proofs.Common.{◌≡◌, ℕ, zero, suc, ◌+◌, ◌-◌, ◌≤◌, ◌<◌, Bool, true, false, ◌||◌, cond, List, [], ◌∷◌, length, map, drop, refl, ap, sym, ◌∙◌, subst, arith}
use Rattle.std.specs.Prelude.{Some, None}
use Rattle.std.specs.List.{list_any}
use Rattle.std.specs.Str.Parse.{digits_value}
use Rattle.std.proofs.Math.Dec.{eqb}
use Rattle.std.proofs.lemmas.Bool.Decides.{nat_tests}
use Rattle.std.proofs.lemmas.Map.Steps.{le-length_from_below}
use Rattle.std.proofs.lemmas.List.{length-map}
use Rattle.wef_base.specs.Names.{same}
use Rattle.wef_xml.specs.Prefixes.{bindings_from, in_digits, next_free, numbered_prefix}
use Rattle.wef_tree_writing.specs.Levels.{bound_to}
use Rattle.wef_tree.proofs.BoundPrefixes.{AreDistinct, has_space, never, same_turned}
use Rattle.wef_tree_writing.proofs.Digits.{digits_are_value, some_digit}
use Rattle.wef_tree_reading.proofs.GoodOpens.{one_name, or_right}

number_of : List ℕ → ℕ
number_of p = digits_value 10 (drop 1 p)

number_is : (n : ℕ) → number_of (numbered_prefix n) ≡ n
unfolding number_of
number_is n = digits_are_value n

-- a numbered prefix is longer than one letter
is_longer : (n : ℕ) → length (numbered_prefix n) ≡ 1 → ⊥
is_longer n e = let some : 0 < length (in_digits n) = some_digit n in absurd (omega arith)

-- two numbers have different prefixes
numbers_differ : (m n : ℕ) → m < n → same (numbered_prefix n) (numbered_prefix m) ≡ false
numbers_differ m n less = by (same (numbered_prefix n) (numbered_prefix m)) refl
  where
    by : (t : Bool) → same (numbered_prefix n) (numbered_prefix m) ≡ t → t ≡ false
    by true e =
        let is : n ≡ m = sym (number_is n) ∙ ap number_of (one_name (numbered_prefix n) (numbered_prefix m) e) ∙ number_is m in
        absurd (omega arith)
    by false e = refl

-- a number whose prefix is taken is one of those of the taken prefixes
taken_number :
    (taken : List (List ℕ)) (n q : ℕ) → list_any (same (numbered_prefix (n + q))) taken ≡ true → list_any (eqb q) (map (λ p. number_of p - n) taken) ≡ true
taken_number [] n q e = e
taken_number (p ∷ ps) n q e = by (same (numbered_prefix (n + q)) p) refl e (taken_number ps n q)
  where
    by : (t : Bool) → same (numbered_prefix (n + q)) p ≡ t → (t || list_any (same (numbered_prefix (n + q))) ps) ≡ true →
        (list_any (same (numbered_prefix (n + q))) ps ≡ true → list_any (eqb q) (map (λ r. number_of r - n) ps) ≡ true) →
        (eqb q (number_of p - n) || list_any (eqb q) (map (λ r. number_of r - n) ps)) ≡ true
    by true t f more =
        let is : number_of p ≡ n + q = ap number_of (sym (one_name (numbered_prefix (n + q)) p t)) ∙ number_is (n + q) in
        let e : eqb q (number_of p - n) ≡ true = grind (arith, nat_tests) in
        ap (λ b. b || list_any (eqb q) (map (λ r. number_of r - n) ps)) e
    by false t f more = or_right (eqb q (number_of p - n)) (list_any (eqb q) (map (λ r. number_of r - n) ps)) (more f)

-- where the last that was tried is taken, all were
all_taken :
    (k : ℕ) (taken : List (List ℕ)) (n q : ℕ) → list_any (same (numbered_prefix (next_free k taken n))) taken ≡ true → q ≤ k →
    list_any (same (numbered_prefix (n + q))) taken ≡ true
all_taken zero taken n q e h = let is : n ≡ n + q = omega arith in subst (λ (m : ℕ). list_any (same (numbered_prefix m)) taken ≡ true) is e
all_taken (suc k) taken n q e h = by (list_any (same (numbered_prefix n)) taken) refl e (all_taken k taken (suc n))
  where
    further : list_any (same (numbered_prefix n)) taken ≡ true → ((r : ℕ) → r ≤ k → list_any (same (numbered_prefix (suc n + r))) taken ≡ true) → (r : ℕ) → r ≤ suc k →
        list_any (same (numbered_prefix (n + r))) taken ≡ true
    further is more zero l = let e : n ≡ n + 0 = omega arith in subst (λ (m : ℕ). list_any (same (numbered_prefix m)) taken ≡ true) e is
    further is more (suc r) l = let e : suc n + r ≡ n + suc r = omega arith in subst (λ (m : ℕ). list_any (same (numbered_prefix m)) taken ≡ true) e (more r (omega arith))

    by : (t : Bool) → list_any (same (numbered_prefix n)) taken ≡ t → list_any (same (numbered_prefix (cond t (next_free k taken (suc n)) n))) taken ≡ true →
        ((r : ℕ) → list_any (same (numbered_prefix (next_free k taken (suc n)))) taken ≡ true → r ≤ k → list_any (same (numbered_prefix (suc n + r))) taken ≡ true) →
        list_any (same (numbered_prefix (n + q))) taken ≡ true
    by true t f more = further t (λ r l. more r f l) q h
    by false t f more = never (list_any (same (numbered_prefix n)) taken) f t

-- the number that is found is not below the first
not_below : (k : ℕ) (taken : List (List ℕ)) (n : ℕ) → n ≤ next_free k taken n
not_below zero taken n = omega arith
not_below (suc k) taken n = by (list_any (same (numbered_prefix n)) taken) (not_below k taken (suc n))
  where
    by : (t : Bool) → suc n ≤ next_free k taken (suc n) → n ≤ cond t (next_free k taken (suc n)) n
    by true h = omega arith
    by false h = omega arith

-- it is free
not_taken : (taken : List (List ℕ)) (n : ℕ) → list_any (same (numbered_prefix (next_free (length taken) taken n))) taken ≡ false
not_taken taken n = by (list_any (same (numbered_prefix (next_free (length taken) taken n))) taken) refl
  where
    by : (t : Bool) → list_any (same (numbered_prefix (next_free (length taken) taken n))) taken ≡ t → t ≡ false
    by true e =
        let all : suc (length taken) ≤ length (map (λ p. number_of p - n) taken) =
        le-length_from_below (map (λ p. number_of p - n) taken) (suc (length taken))
        (λ q less. taken_number taken n q (all_taken (length taken) taken n q e (omega arith))) in
        absurd (omega (arith, length-map taken (λ p. number_of p - n)))
    by false e = refl

-- a number below the first is none of theirs
number_free :
    (taken spaces : List (List ℕ)) (n m : ℕ) → m < n → bound_to (bindings_from taken n spaces) (numbered_prefix m) ≡ None
number_free taken [] n m less = refl
number_free taken (s ∷ ss) n m less =
    let free = next_free (length taken) taken n in
    let low : n ≤ free = not_below (length taken) taken n in
    ap (λ t. cond t (Some s) (bound_to (bindings_from taken (suc free) ss) (numbered_prefix m))) (numbers_differ m free (omega arith))
    ∙ number_free taken ss (suc free) m (omega arith)

-- new bindings have prefixes of their own
pub new_distinct : (taken spaces : List (List ℕ)) (n : ℕ) → AreDistinct (bindings_from taken n spaces)
new_distinct taken [] n = tt
new_distinct taken (s ∷ ss) n =
    let free = next_free (length taken) taken n in
    (number_free taken ss (suc free) free (omega arith), new_distinct taken ss (suc free))

-- they leave the taken prefixes
pub taken_free :
    (taken spaces : List (List ℕ)) (n : ℕ) (p : List ℕ) → list_any (same p) taken ≡ true →
    bound_to (bindings_from taken n spaces) p ≡ None
taken_free taken [] n p is = refl
taken_free taken (s ∷ ss) n p is =
    by (same (numbered_prefix (next_free (length taken) taken n)) p) refl (taken_free taken ss (suc (next_free (length taken) taken n)) p is)
  where
    by : (t : Bool) → same (numbered_prefix (next_free (length taken) taken n)) p ≡ t → bound_to (bindings_from taken (suc (next_free (length taken) taken n)) ss) p ≡ None →
        cond t (Some s) (bound_to (bindings_from taken (suc (next_free (length taken) taken n)) ss) p) ≡ None
    by true t more =
        never (list_any (same p) taken) is
        (ap (λ q. list_any (same q) taken) (sym (one_name (numbered_prefix (next_free (length taken) taken n)) p t)) ∙ not_taken taken n)
    by false t more = more

-- and those of one letter
pub letter_free :
    (taken spaces : List (List ℕ)) (n : ℕ) (p : List ℕ) → length p ≡ 1 →
    bound_to (bindings_from taken n spaces) p ≡ None
letter_free taken [] n p is = refl
letter_free taken (s ∷ ss) n p is =
    by (same (numbered_prefix (next_free (length taken) taken n)) p) refl (letter_free taken ss (suc (next_free (length taken) taken n)) p is)
  where
    by : (t : Bool) → same (numbered_prefix (next_free (length taken) taken n)) p ≡ t →
        bound_to (bindings_from taken (suc (next_free (length taken) taken n)) ss) p ≡ None →
        cond t (Some s) (bound_to (bindings_from taken (suc (next_free (length taken) taken n)) ss) p) ≡ None
    by true t more =
        absurd (is_longer (next_free (length taken) taken n) (ap length (one_name (numbered_prefix (next_free (length taken) taken n)) p t) ∙ is))
    by false t more = more

-- they are of the new namespaces
pub spaces_bound : (taken spaces : List (List ℕ)) (n : ℕ) (s : List ℕ) → has_space (bindings_from taken n spaces) s ≡ list_any (same s) spaces
spaces_bound taken [] n s = refl
spaces_bound taken (x ∷ xs) n s = λ i. same_turned x s i || spaces_bound taken xs (suc (next_free (length taken) taken n)) s i
