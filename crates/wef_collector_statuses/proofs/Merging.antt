-- Two lists of names in order, one put between the other, are the names of both in order.
use Rattle.std.proofs.Common.{◌≡◌, ℕ, Bool, true, false, ◌||◌, List, [], ◌∷◌, ◌++◌, refl, ap, sym, ◌∙◌, subst, cond}
use Rattle.std.proofs.lemmas.List.Folds.{list_any-append}
use Rattle.std.specs.Cmp.{tied_itself}
use Rattle.std.specs.Cmp.Lexicographic.{nat_list_cmp_total, nat_list_eq_equiv, bytes_decides, slice_cmp}
use Rattle.std.specs.FinMap.{nat_cmp-IsAntisymmetric, slice_cmp-IsAntisymmetric}
use Rattle.std.specs.List.{AllByRecursion}
use Rattle.std.specs.List.Sorted.{IsStrictlySortedBy}
use Rattle.std.specs.Ordering.{is_lt, nat_cmp, ordering_reverse}
use Rattle.std.specs.declared.cmp.Ordering.{Ordering}
use Rattle.std.specs.declared.cmp.Ordering.TheVariants.{Less, Equal, Greater}
use Rattle.wef_base.specs.Names.{same}
use Rattle.wef_query.proofs.Sorting.{is-in_order, same-in_order}
use Rattle.wef_query.specs.Order.{HasSameNames, IsInOrder, has, in_order}
use Rattle.wef_collector_statuses.specs.Lines.{is_below, names_behind, names_below, names_from, without}

-- a name is above another one
abbrev pub IsAbove : List ℕ → List ℕ → Type 0
IsAbove s name = slice_cmp nat_cmp s name ≡ Less

-- or below it
abbrev pub IsBelow : List ℕ → List ℕ → Type 0
IsBelow s name = slice_cmp nat_cmp name s ≡ Less

-- ---- facts of each name of a list

all_weaker : (P Q : List ℕ → Type 0) → ((name : List ℕ) → P name → Q name) → (names : List (List ℕ)) → AllByRecursion P names → AllByRecursion Q names
all_weaker P Q gives [] all = tt
all_weaker P Q gives (name ∷ names) all = (gives name all.0, all_weaker P Q gives names all.1)

pub all_both : (P Q R : List ℕ → Type 0) → ((name : List ℕ) → P name → Q name → R name) → (names : List (List ℕ)) → AllByRecursion P names → AllByRecursion Q names → AllByRecursion R names
all_both P Q R gives [] first second = tt
all_both P Q R gives (name ∷ names) first second = (gives name first.0 second.0, all_both P Q R gives names first.1 second.1)

all_append : (P : List ℕ → Type 0) (names more : List (List ℕ)) → AllByRecursion P names → AllByRecursion P more → AllByRecursion P (names ++ more)
all_append P [] more first second = second
all_append P (name ∷ names) more first second = (first.0, all_append P names more first.1 second)

pub all_below : (P : List ℕ → Type 0) (s : List ℕ) (names : List (List ℕ)) → AllByRecursion P names → AllByRecursion P (names_below s names)
all_below P s [] all = tt
all_below P s (name ∷ names) all = by (is_below s name) (all_below P s names all.1)
  where
    by : (b : Bool) → AllByRecursion P (names_below s names) → AllByRecursion P (cond b (name ∷ names_below s names) [])
    by true rest = (all.0, rest)
    by false rest = tt

all_from : (P : List ℕ → Type 0) (s : List ℕ) (names : List (List ℕ)) → AllByRecursion P names → AllByRecursion P (names_from s names)
all_from P s [] all = tt
all_from P s (name ∷ names) all = by (is_below s name) (all_from P s names all.1)
  where
    by : (b : Bool) → AllByRecursion P (names_from s names) → AllByRecursion P (cond b (names_from s names) (name ∷ names))
    by true rest = rest
    by false rest = all

all_without : (P : List ℕ → Type 0) (s : List ℕ) (names : List (List ℕ)) → AllByRecursion P names → AllByRecursion P (without s names)
all_without P s [] all = tt
all_without P s (name ∷ names) all = by (same name s)
  where
    by : (b : Bool) → AllByRecursion P (cond b names (name ∷ names))
    by true = all.1
    by false = all

pub all_behind : (P : List ℕ → Type 0) (s : List ℕ) (names : List (List ℕ)) → AllByRecursion P names → AllByRecursion P (names_behind s names)
all_behind P s names all = all_without P s (names_from s names) (all_from P s names all)

-- ---- which names there are

pub same_self : (name : List ℕ) → same name name ≡ true
same_self = nat_list_eq_equiv.refl

one_name : (name other : List ℕ) → same name other ≡ true → name ≡ other
one_name name other e = (bytes_decides name other).0 e

-- a name below another is none that is the same
pub other_name : (name other : List ℕ) → slice_cmp nat_cmp name other ≡ Less → same name other ≡ false
other_name name other less = by (same name other) refl
  where
    by : (b : Bool) → same name other ≡ b → same name other ≡ false
    by true is =
        let tie : slice_cmp nat_cmp name name ≡ Less = ap (slice_cmp nat_cmp name) (one_name name other is) ∙ less in
        let itself = tied_itself nat_list_cmp_total name in
        let bad : ⊥ = cc in absurd bad
    by false is = is

pub other_name_too : (name other : List ℕ) → slice_cmp nat_cmp other name ≡ Less → same name other ≡ false
other_name_too name other less = by (same name other) refl
  where
    by : (b : Bool) → same name other ≡ b → same name other ≡ false
    by true is =
        let tie : slice_cmp nat_cmp other other ≡ Less = ap (slice_cmp nat_cmp other) (sym (one_name name other is)) ∙ less in
        let itself = tied_itself nat_list_cmp_total other in
        let bad : ⊥ = cc in absurd bad
    by false is = is

-- one below all names of a list isn't there
pub not_there : (name : List ℕ) (names : List (List ℕ)) → AllByRecursion (IsAbove name) names → has names name ≡ false
not_there name [] above = refl
not_there name (other ∷ names) above = λ i. other_name name other above.0 i || not_there name names above.1 i

neither : (b : Bool) → (b || false) ≡ b
neither true = refl
neither false = refl

parts_apart : (s : List ℕ) (names : List (List ℕ)) → names_below s names ++ names_from s names ≡ names
parts_apart s [] = refl
parts_apart s (name ∷ names) = by (is_below s name) (parts_apart s names)
  where
    by : (b : Bool) → names_below s names ++ names_from s names ≡ names → cond b (name ∷ names_below s names) [] ++ cond b (names_from s names) (name ∷ names) ≡ name ∷ names
    by true rest = ap (λ more. name ∷ more) rest
    by false rest = refl

has_parts : (s : List ℕ) (names : List (List ℕ)) (n : List ℕ) → has names n ≡ (has (names_below s names) n || has (names_from s names) n)
has_parts s names n = ap (λ all. has all n) (sym (parts_apart s names)) ∙ list_any-append (same n) (names_below s names) (names_from s names)

kept_out : (here there : Bool) → (there || here) ≡ ((here || there) || here)
kept_out true true = refl
kept_out true false = refl
kept_out false true = refl
kept_out false false = refl

-- without a source's name the names are the same, but for it
has_without : (s : List ℕ) (names : List (List ℕ)) (n : List ℕ) → (has (without s names) n || same n s) ≡ (has names n || same n s)
has_without s [] n = refl
has_without s (name ∷ names) n = by (same name s) refl
  where
    by : (b : Bool) → same name s ≡ b → (has (cond b names (name ∷ names)) n || same n s) ≡ ((same n name || has names n) || same n s)
    by true is = subst (λ (x : List ℕ). (has names n || same n x) ≡ ((same n name || has names n) || same n x)) (one_name name s is) (kept_out (same n name) (has names n))
    by false is = refl

-- ---- both

-- names in order, put between sources in order
abbrev pub merged : List (List ℕ) → List (List ℕ) → List (List ℕ)
merged [] names = names
merged (s ∷ sources) names = names_below s names ++ s ∷ merged sources (names_behind s names)

joined : (below here sources behind from : Bool) → (behind || here) ≡ (from || here) → (below || (here || (sources || behind))) ≡ ((here || sources) || (below || from))
joined true true sources behind from e = refl
joined false true sources behind from e = refl
joined true false true behind from e = refl
joined false false true behind from e = refl
joined true false false behind from e = refl
joined false false false behind from e = sym (neither behind) ∙ e ∙ neither from

has_merged : (sources names : List (List ℕ)) (n : List ℕ) → has (merged sources names) n ≡ (has sources n || has names n)
has_merged [] names n = refl
has_merged (s ∷ sources) names n =
    list_any-append (same n) (names_below s names) (s ∷ merged sources (names_behind s names))
    ∙ ap (λ (b : Bool). has (names_below s names) n || (same n s || b)) (has_merged sources (names_behind s names) n)
    ∙ joined (has (names_below s names) n) (same n s) (has sources n) (has (names_behind s names) n) (has (names_from s names) n) (has_without s (names_from s names) n)
    ∙ ap (λ (b : Bool). (same n s || has sources n) || b) (sym (has_parts s names n))

-- ---- the order

abbrev pub Above : List ℕ → List (List ℕ) → Type 0
Above s names = AllByRecursion (IsAbove s) names

abbrev pub Below : List ℕ → List (List ℕ) → Type 0
Below s names = AllByRecursion (IsBelow s) names

is_less : (r : Ordering) → is_lt r ≡ true → r ≡ Less
is_less Less e = refl
is_less Equal e = cc
is_less Greater e = cc

pub below_are : (s : List ℕ) (names : List (List ℕ)) → Below s (names_below s names)
below_are s [] = tt
below_are s (name ∷ names) = by (is_below s name) refl (below_are s names)
  where
    by : (b : Bool) → is_below s name ≡ b → Below s (names_below s names) → Below s (cond b (name ∷ names_below s names) [])
    by true is rest = (is_less (slice_cmp nat_cmp name s) is, rest)
    by false is rest = tt

-- below each, if below the first of these in order
pub all_above : (s name : List ℕ) (names : List (List ℕ)) → slice_cmp nat_cmp s name ≡ Less → Above name names → Above s names
all_above s name names less above = all_weaker (IsAbove name) (IsAbove s) (λ other higher. nat_list_cmp_total.trans s name other less higher) names above

-- a name that is neither below another nor the same is above it
higher : (s name : List ℕ) → is_below s name ≡ false → same name s ≡ false → slice_cmp nat_cmp s name ≡ Less
higher s name low apart = by (slice_cmp nat_cmp name s) refl
  where
    by : (r : Ordering) → slice_cmp nat_cmp name s ≡ r → slice_cmp nat_cmp s name ≡ Less
    by Less is = let bad : ⊥ = cc in absurd bad
    by Equal is =
        let one : name ≡ s = slice_cmp-IsAntisymmetric nat_cmp-IsAntisymmetric name s is in
        let there : same name s ≡ true = subst (λ (x : List ℕ). same name x ≡ true) one (same_self name) in
        let bad : ⊥ = cc in absurd bad
    by Greater is = nat_list_cmp_total.antisymm s name ∙ ap ordering_reverse is

pub behind_are : (s : List ℕ) (names : List (List ℕ)) → IsInOrder names → Above s (names_behind s names)
unfolding IsStrictlySortedBy
behind_are s [] sorted = tt
behind_are s (name ∷ names) sorted = by (is_below s name) refl (behind_are s names sorted.1)
  where
    first : (b : Bool) → same name s ≡ b → is_below s name ≡ false → Above s (cond b names (name ∷ names))
    first true is low = subst (λ (x : List ℕ). Above x names) (one_name name s is) sorted.0
    first false is low = let less = higher s name low is in (less, all_above s name names less sorted.0)

    by : (b : Bool) → is_below s name ≡ b → Above s (names_behind s names) → Above s (without s (cond b (names_from s names) (name ∷ names)))
    by true is rest = rest
    by false is rest = first (same name s) refl is

below_in_order : (s : List ℕ) (names : List (List ℕ)) → IsInOrder names → IsInOrder (names_below s names)
unfolding IsStrictlySortedBy
below_in_order s [] sorted = tt
below_in_order s (name ∷ names) sorted = by (is_below s name) (below_in_order s names sorted.1)
  where
    by : (b : Bool) → IsInOrder (names_below s names) → IsInOrder (cond b (name ∷ names_below s names) [])
    by true rest = (all_below (IsAbove name) s names sorted.0, rest)
    by false rest = tt

without_in_order : (s : List ℕ) (names : List (List ℕ)) → IsInOrder names → IsInOrder (without s names)
unfolding IsStrictlySortedBy
without_in_order s [] sorted = tt
without_in_order s (name ∷ names) sorted = by (same name s)
  where
    by : (b : Bool) → IsInOrder (cond b names (name ∷ names))
    by true = sorted.1
    by false = sorted

from_in_order : (s : List ℕ) (names : List (List ℕ)) → IsInOrder names → IsInOrder (names_from s names)
unfolding IsStrictlySortedBy
from_in_order s [] sorted = tt
from_in_order s (name ∷ names) sorted = by (is_below s name) (from_in_order s names sorted.1)
  where
    by : (b : Bool) → IsInOrder (names_from s names) → IsInOrder (cond b (names_from s names) (name ∷ names))
    by true rest = rest
    by false rest = sorted

pub behind_in_order : (s : List ℕ) (names : List (List ℕ)) → IsInOrder names → IsInOrder (names_behind s names)
behind_in_order s names sorted = without_in_order s (names_from s names) (from_in_order s names sorted)

joined_in_order : (names : List (List ℕ)) (s : List ℕ) (more : List (List ℕ)) → IsInOrder names → Below s names → IsInOrder (s ∷ more) → IsInOrder (names ++ s ∷ more)
unfolding IsStrictlySortedBy
joined_in_order [] s more sorted below rest = rest
joined_in_order (name ∷ names) s more sorted below rest =
    (all_append (IsAbove name) names (s ∷ more) sorted.0 (below.0, all_above name s more below.0 rest.0), joined_in_order names s more sorted.1 below.1 rest)

all_merged : (P : List ℕ → Type 0) (sources names : List (List ℕ)) → AllByRecursion P sources → AllByRecursion P names → AllByRecursion P (merged sources names)
all_merged P [] names first second = second
all_merged P (s ∷ sources) names first second =
    all_append P (names_below s names) (s ∷ merged sources (names_behind s names)) (all_below P s names second) (first.0, all_merged P sources (names_behind s names) first.1 (all_behind P s names second))

merged_in_order : (sources names : List (List ℕ)) → IsInOrder sources → IsInOrder names → IsInOrder (merged sources names)
unfolding IsStrictlySortedBy
merged_in_order [] names first second = second
merged_in_order (s ∷ sources) names first second =
    joined_in_order (names_below s names) s (merged sources (names_behind s names)) (below_in_order s names second) (below_are s names)
    (all_merged (IsAbove s) sources (names_behind s names) first.0 (behind_are s names second), merged_in_order sources (names_behind s names) first.1 (behind_in_order s names second))

-- ---- names in order are one list

rest_alike : (name : List ℕ) (names others : List (List ℕ)) → Above name names → Above name others → ((n : List ℕ) → (same n name || has names n) ≡ (same n name || has others n)) → HasSameNames names others
rest_alike name names others above above_too alike n = by (same n name) refl (alike n)
  where
    by : (b : Bool) → same n name ≡ b → (b || has names n) ≡ (b || has others n) → has names n ≡ has others n
    by true is e = subst (λ (x : List ℕ). has names x ≡ has others x) (sym (one_name n name is)) (not_there name names above ∙ sym (not_there name others above_too))
    by false is e = e

-- a name below all of a list is in none that has the same names
apart : (name other : List ℕ) (names others : List (List ℕ)) → slice_cmp nat_cmp name other ≡ Less → Above other others → has (name ∷ names) name ≡ has (other ∷ others) name → ⊥
apart name other names others less above e =
    let here : has (name ∷ names) name ≡ true = ap (λ (b : Bool). b || has names name) (same_self name) in
    let nowhere : has (other ∷ others) name ≡ false = not_there name (other ∷ others) (less, all_above name other others less above) in
    cc

nothing_there : (name : List ℕ) (names : List (List ℕ)) → false ≡ has (name ∷ names) name → ⊥
nothing_there name names e =
    let here : has (name ∷ names) name ≡ true = ap (λ (b : Bool). b || has names name) (same_self name) in
    cc

one_list : (names others : List (List ℕ)) → IsInOrder names → IsInOrder others → HasSameNames names others → names ≡ others
unfolding IsStrictlySortedBy
one_list [] [] first second alike = refl
one_list [] (other ∷ others) first second alike = absurd (nothing_there other others (alike other))
one_list (name ∷ names) [] first second alike = absurd (nothing_there name names (sym (alike name)))
one_list (name ∷ names) (other ∷ others) first second alike = by (slice_cmp nat_cmp name other) refl (one_list names others first.1 second.1)
  where
    by : (r : Ordering) → slice_cmp nat_cmp name other ≡ r → (HasSameNames names others → names ≡ others) → name ∷ names ≡ other ∷ others
    by Less is rest = absurd (apart name other names others is second.0 (alike name))
    by Equal is rest =
        let one : name ≡ other = slice_cmp-IsAntisymmetric nat_cmp-IsAntisymmetric name other is in
        let same_rest = rest (rest_alike name names others first.0 (subst (λ (x : List ℕ). Above x others) (sym one) second.0)
        (λ n. alike n ∙ ap (λ (x : List ℕ). same n x || has others n) (sym one))) in
        λ i. one i ∷ same_rest i
    by Greater is rest = absurd (apart other name others names (nat_list_cmp_total.antisymm other name ∙ ap ordering_reverse is) first.0 (sym (alike other)))

-- ---- the names of both in order

pub merged_is : (sources names : List (List ℕ)) → IsInOrder sources → merged sources (in_order names) ≡ in_order (sources ++ names)
merged_is sources names sorted =
    one_list (merged sources (in_order names)) (in_order (sources ++ names)) (merged_in_order sources (in_order names) sorted (is-in_order names)) (is-in_order (sources ++ names))
    (λ n.
    has_merged sources (in_order names) n ∙ ap (λ (b : Bool). has sources n || b) (same-in_order names n)
    ∙ sym (list_any-append (same n) sources names) ∙ sym (same-in_order (sources ++ names) n))
