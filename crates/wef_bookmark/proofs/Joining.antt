-- What raising and joining do at each channel, and that a list's entries decide the order of bookmarks.
use Rattle.std.proofs.Common.{◌≡◌, ℕ, ◌≤◌, List, [], ◌∷◌, Bool, true, false, ◌&&◌, ◌||◌, cond, refl, ap, sym, subst, ◌∙◌, Some, None, max, arith, nat_le}
use Rattle.std.specs.Prelude.{Option, unwrap_or, is_some, T}
use Rattle.std.specs.declared.cmp.Ordering.{Ordering}
use Rattle.std.specs.declared.cmp.Ordering.TheVariants.{Less, Equal, Greater}
use Rattle.std.specs.Ordering.{nat_cmp, eq_by_cmp, is_eq, is_lt}
use Rattle.std.specs.Cmp.{tied_itself}
use Rattle.std.specs.Cmp.Lexicographic.{slice_cmp, nat_list_cmp_total, texts_ties}
use Rattle.std.specs.List.{AllByRecursion}
use Rattle.std.specs.List.Sorted.{IsStrictlySortedBy}
use Rattle.std.specs.Map.{keys_of}
use Rattle.std.specs.FinMap.{get, find, from_entries, from_sorted, entries, entries_sorted, entries-from_sorted, get-from_sorted, get-from_entries, get-entries, get-empty, empty, is_sorted, same_map, get-insert}
use Rattle.std.specs.FinMap.Entries.{below_all}
use Rattle.std.proofs.lemmas.Map.Lookups.{exact_bytes}
use Rattle.std.proofs.lemmas.Bool.Decides.{nat_tests}
use Rattle.wef_base.specs.Names.{same}
use Rattle.wef_bookmark.specs.Order.{Marks, number_at, IsAtMost, raised, raised_by, joined, covers_all}

abbrev pub order : List ℕ → List ℕ → Ordering
order = slice_cmp nat_cmp

equal : (r : Ordering) → is_eq r ≡ true → r ≡ Equal
equal Less e = cc
equal Equal e = refl
equal Greater e = cc

-- names that tie are one
pub one_name : (q c : List ℕ) → eq_by_cmp order q c ≡ true → q ≡ c
one_name q c e = exact_bytes q c (equal (order q c) e)

pub both : (a b : Bool) → T (a && b) → T a × T b
both true b p = (tt, p)
both false b p = absurd p

pub less : (r : Ordering) → T (is_lt r) → r ≡ Less
less Less p = refl
less Equal p = absurd p
less Greater p = absurd p

-- a name below each key of a list isn't found in it
pub below : (q : List ℕ) (es : List (List ℕ × ℕ)) → T (below_all order q es) → find order q es ≡ None
below q [] h = refl
below q (e ∷ es) h =
    let parts = both (is_lt (order q e.0)) (below_all order q es) h in
    ap (λ r. cond (is_eq r) (Some e.1) (find order q es)) (less _ parts.0) ∙ below q es parts.1

-- the greater of a number that may be there and one that may be given
abbrev pub greater : Option ℕ → Option ℕ → Option ℕ
greater old None = old
greater old (Some n) = Some (max (unwrap_or old 0) n)

pub get-raised : (b : Marks) (c : List ℕ) (to : ℕ) (q : List ℕ) → get (raised b c to) q ≡ cond (eq_by_cmp order q c) (Some (max (number_at b c) to)) (get b q)
get-raised b c to q = get-insert nat_list_cmp_total b c _ q

-- raised by entries in order, a bookmark has at each channel the greater of its number and the one given
pub get-raised_by : (b : Marks) (es : List (List ℕ × ℕ)) (q : List ℕ) → T (is_sorted order es) → get (raised_by b es) q ≡ greater (get b q) (find order q es)
get-raised_by b [] q h = refl
get-raised_by b (e ∷ es) q h =
    let parts = both (below_all order e.0 es) (is_sorted order es) h in
    get-raised_by (raised b e.0 e.1) es q parts.1
    ∙ ap (λ o. greater o (find order q es)) (get-raised b e.0 e.1 q)
    ∙ elim (eq_by_cmp order q e.0) as (λ t. eq_by_cmp order q e.0 ≡ t → greater (cond t (Some (max (number_at b e.0) e.1)) (get b q)) (find order q es) ≡ greater (get b q) (cond t (Some e.1) (find order q es))) [
      | true ↦ λ is.
          let one = one_name q e.0 is in
          ap (greater (Some (max (number_at b e.0) e.1))) (ap (λ x. find order x es) one ∙ below e.0 es parts.0)
          ∙ ap (λ x. Some (max (number_at b x) e.1)) (sym one)
      | false ↦ λ _. refl
    ] refl

pub get-joined : (a b : Marks) (q : List ℕ) → get (joined a b) q ≡ greater (get a q) (get b q)
get-joined a b q = get-raised_by a (entries b) q (entries_sorted b) ∙ ap (greater (get a q)) (sym (get-entries b q))

greater_number : (o p : Option ℕ) → unwrap_or (greater o p) 0 ≡ max (unwrap_or o 0) (unwrap_or p 0)
greater_number None None = refl
greater_number (Some n) None = omega arith
greater_number None (Some m) = refl
greater_number (Some n) (Some m) = refl

pub joined_number : (a b : Marks) (q : List ℕ) → number_at (joined a b) q ≡ max (number_at a q) (number_at b q)
joined_number a b q = ap (λ o. unwrap_or o 0) (get-joined a b q) ∙ greater_number (get a q) (get b q)

greater_has : (o p : Option ℕ) → is_some (greater o p) ≡ (is_some o || is_some p)
greater_has None None = refl
greater_has (Some n) None = refl
greater_has None (Some m) = refl
greater_has (Some n) (Some m) = refl

pub joined_has : (a b : Marks) (q : List ℕ) → is_some (get (joined a b) q) ≡ (is_some (get a q) || is_some (get b q))
joined_has a b q = ap is_some (get-joined a b q) ∙ greater_has (get a q) (get b q)

pub raised_number : (b : Marks) (c : List ℕ) (to : ℕ) (q : List ℕ) → number_at (raised b c to) q ≡ cond (same q c) (max (number_at b q) to) (number_at b q)
raised_number b c to q =
    ap (λ o. unwrap_or o 0) (get-raised b c to q)
    ∙ elim (eq_by_cmp order q c) as (λ t. eq_by_cmp order q c ≡ t → unwrap_or (cond t (Some (max (number_at b c) to)) (get b q)) 0 ≡ cond t (max (number_at b q) to) (number_at b q)) [
      | true ↦ λ is. ap (λ x. max (number_at b x) to) (sym (one_name q c is))
      | false ↦ λ _. refl
    ] refl
    ∙ ap (λ t. cond t (max (number_at b q) to) (number_at b q)) (sym (texts_ties q c))

pub raised_has : (b : Marks) (c : List ℕ) (to : ℕ) (q : List ℕ) → is_some (get (raised b c to) q) ≡ (same q c || is_some (get b q))
raised_has b c to q =
    ap is_some (get-raised b c to q)
    ∙ elim (eq_by_cmp order q c) as (λ t. is_some (cond t (Some (max (number_at b c) to)) (get b q)) ≡ (t || is_some (get b q))) [ true ↦ refl | false ↦ refl ]
    ∙ ap (λ t. t || is_some (get b q)) (sym (texts_ties q c))

at_most_chosen : (t : Bool) (n to : ℕ) → n ≤ cond t (max n to) n
at_most_chosen true n to = omega arith
at_most_chosen false n to = omega arith

pub raised_keeps : (b : Marks) (c : List ℕ) (to : ℕ) → IsAtMost b (raised b c to)
raised_keeps b c to q = subst (λ n. number_at b q ≤ n) (sym (raised_number b c to q)) (at_most_chosen (same q c) (number_at b q) to)

pub joined_keeps : (a b : Marks) → IsAtMost a (joined a b)
joined_keeps a b q = subst (λ n. number_at a q ≤ n) (sym (joined_number a b q)) (omega arith)

pub joined_takes : (a b : Marks) → IsAtMost b (joined a b)
joined_takes a b q = subst (λ n. number_at b q ≤ n) (sym (joined_number a b q)) (omega arith)

from_nothing : (p : Option ℕ) → greater None p ≡ p
from_nothing None = refl
from_nothing (Some n) = ap Some (omega arith)

-- what joins the empty bookmark is there afterwards
pub joined_empty : (b : Marks) → joined empty b ≡ b
joined_empty b = same_map nat_list_cmp_total exact_bytes _ _ (λ q.
    get-joined empty b q ∙ ap (λ o. greater o (get b q)) (get-empty order q) ∙ from_nothing (get b q))

-- ---- the entries of a map in order

all_below : (q : List ℕ) (es : List (List ℕ × ℕ)) → AllByRecursion (λ y. order q y ≡ Less) (keys_of es) → T (below_all order q es)
all_below q [] h = tt
all_below q (e ∷ es) h = subst (λ r. T (is_lt r && below_all order q es)) (sym h.0) (all_below q es h.1)

in_order : (es : List (List ℕ × ℕ)) → IsStrictlySortedBy order (keys_of es) → T (is_sorted order es)
unfolding IsStrictlySortedBy
in_order [] h = tt
in_order (e ∷ es) h =
    let front = all_below e.0 es h.0 in
    let rest = in_order es h.1 in
    elim (below_all order e.0 es) as (λ b. T b → T (b && is_sorted order es)) [ true ↦ λ _. rest | false ↦ λ p. absurd p ] front

pub entries_of : (es : List (List ℕ × ℕ)) → IsStrictlySortedBy order (keys_of es) → entries (from_entries {R = order} es) ≡ es
entries_of es h =
    let sorted = in_order es h in
    ap entries (same_map nat_list_cmp_total exact_bytes (from_entries es) (from_sorted es) (λ q. get-from_entries nat_list_cmp_total es q ∙ sym (get-from_sorted order es q sorted)))
    ∙ entries-from_sorted order es sorted

-- ---- entry by entry, and channel by channel

le_holds : (m n : ℕ) → nat_le m n ≡ true → m ≤ n
le_holds m n e = grind (arith, nat_tests)

le_tested : (m n : ℕ) → m ≤ n → nat_le m n ≡ true
le_tested m n e = grind (arith, nat_tests)

both_true : (a b : Bool) → a && b ≡ true → (a ≡ true) × (b ≡ true)
both_true true b e = (refl, e)
both_true false b e = absurd (subst T (sym e) tt)

pub covered : (b : Marks) (es : List (List ℕ × ℕ)) → covers_all b es ≡ true → (c : List ℕ) → unwrap_or (find order c es) 0 ≤ number_at b c
covered b [] h c = omega arith
covered b (e ∷ es) h c =
    let parts = both_true (nat_le e.1 (number_at b e.0)) (covers_all b es) h in
    elim (eq_by_cmp order c e.0) as (λ t. eq_by_cmp order c e.0 ≡ t → unwrap_or (cond t (Some e.1) (find order c es)) 0 ≤ number_at b c) [
      | true ↦ λ is. subst (λ x. e.1 ≤ number_at b x) (sym (one_name c e.0 is)) (le_holds _ _ parts.0)
      | false ↦ λ _. covered b es parts.1 c
    ] refl

and_true : (a b : Bool) → a ≡ true → b ≡ true → a && b ≡ true
and_true true b p q = q
and_true false b p q = p

pub covers : (b : Marks) (es : List (List ℕ × ℕ)) → T (is_sorted order es) → ((c : List ℕ) → unwrap_or (find order c es) 0 ≤ number_at b c) → covers_all b es ≡ true
covers b [] sorted h = refl
covers b (e ∷ es) sorted h =
    let parts = both (below_all order e.0 es) (is_sorted order es) sorted in
    let here = subst (λ r. unwrap_or (cond (is_eq r) (Some e.1) (find order e.0 es)) 0 ≤ number_at b e.0) (tied_itself nat_list_cmp_total e.0) (h e.0) in
    and_true _ _ (le_tested _ _ here) (covers b es parts.1 (λ c.
    elim (eq_by_cmp order c e.0) as (λ t. eq_by_cmp order c e.0 ≡ t → unwrap_or (cond t (Some e.1) (find order c es)) 0 ≤ number_at b c → unwrap_or (find order c es) 0 ≤ number_at b c) [
      | true ↦ λ is _. subst (λ o. unwrap_or o 0 ≤ number_at b c) (sym (ap (λ x. find order x es) (one_name c e.0 is) ∙ below e.0 es parts.0)) (omega arith)
      | false ↦ λ _ there. there
    ] refl (h c)))

-- the test entry by entry decides the order
pub covers_decides : (a b : Marks) → (covers_all a (entries b) ≡ true → IsAtMost b a) × (IsAtMost b a → covers_all a (entries b) ≡ true)
covers_decides a b = (
  λ h c. subst (λ o. unwrap_or o 0 ≤ number_at a c) (sym (get-entries b c)) (covered a (entries b) h c),
  λ h. covers a (entries b) (entries_sorted b) (λ c. subst (λ o. unwrap_or o 0 ≤ number_at a c) (get-entries b c) (h c)),
)
