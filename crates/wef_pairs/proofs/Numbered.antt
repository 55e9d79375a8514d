-- The rows of a section by number: a list in order that answers as the rows do.
use Rattle.std.proofs.Common.{◌≡◌, ℕ, ◌<◌, ◌≤◌, ◌==◌, Bool, true, false, ◌&&◌, cond, List, [], ◌∷◌, ◌++◌, length, map, arith, nat_le, refl, ap, sym, ◌∙◌, subst, Option, Some, None, nat_lt, nat_eq}
use Rattle.std.specs.Cmp.{nat_cmp_total, nat_eq_equiv, tied_itself, unsigned_ties}
use Rattle.std.specs.Cmp.Lexicographic.{nat_list_cmp_total, nat_list_eq_equiv, pointwise, bytes_decides}
use Rattle.std.specs.FinMap as finite
use Rattle.std.specs.FinMap.{find, is_sorted, nat_cmp-IsAntisymmetric}
use Rattle.std.specs.FinMap.Entries.{same_entries, where_key, is_sorted-where_key, find-where_key, below_all}
use Rattle.std.specs.List.{filter}
use Rattle.std.proofs.lemmas.Bool.Decides.{nat_tests}
use Rattle.std.specs.Option.{option_or}
use Rattle.std.specs.Ordering.{eq_by_cmp, is_eq, is_lt, nat_cmp, ordering_then}
use Rattle.std.specs.Prelude.{T}
use Rattle.std.specs.declared.cmp.Ordering.TheVariants.{Less, Equal, Greater}
use Rattle.std.proofs.lemmas.Bool.{and_parts, eqb-true}
use Rattle.wef_collector_rows.specs.Keys.{key}
use Rattle.wef_keeper.proofs.Sections.{rows_kept, tested_alike}
use Rattle.wef_keeper.specs.Rows.{Rows, is_after, key_cmp, row_of}
use Rattle.wef_keeper.specs.Sections.{is_under, rows_under}
use Rattle.wef_keeper.specs.declared.keys.Cell.{Cell}
use Rattle.wef_keeper.specs.declared.keys.Depth.{Depth}
use Rattle.wef_keeper.specs.declared.keys.Depth.TheVariants.{Channel}
use Rattle.wef_keeper.specs.declared.keys.Key.{Key}
use Rattle.wef_keeper.specs.declared.keys.Row.{Row}

-- ---- keys that differ in number alone

pub key_cmp_number : (k : ℕ) (u s c : List ℕ) (m n : ℕ) → key_cmp (key k u s c m) (key k u s c n) ≡ nat_cmp m n
key_cmp_number k u s c m n = λ i.
    ordering_then (tied_itself nat_cmp_total k i)
    (ordering_then (tied_itself nat_list_cmp_total u i)
    (ordering_then (tied_itself nat_list_cmp_total s i)
    (ordering_then (tied_itself nat_list_cmp_total c i) (nat_cmp m n))))

under_own : (k : ℕ) (u s c : List ℕ) (m n : ℕ) → is_under Channel (key k u s c m) (key k u s c n) ≡ true
under_own k u s c m n = λ i.
    nat_eq_equiv.refl k i && nat_list_eq_equiv.refl u i && nat_list_eq_equiv.refl s i && nat_list_eq_equiv.refl c i

-- a key of the section is the one of its own number
own_key : (k : ℕ) (u s c : List ℕ) (m : ℕ) (q : Key) → is_under Channel (key k u s c m) q ≡ true → q ≡ key k u s c q.number
own_key k u s c m q e =
    let outer = and_parts (nat_eq k q.kind && pointwise nat_eq u q.sub && pointwise nat_eq s q.source) (pointwise nat_eq c q.channel) e in
    let middle = and_parts (nat_eq k q.kind && pointwise nat_eq u q.sub) (pointwise nat_eq s q.source) outer.0 in
    let inner = and_parts (nat_eq k q.kind) (pointwise nat_eq u q.sub) middle.0 in
    let kind = sym (eqb-true k q.kind inner.0) in
    let sub = sym ((bytes_decides u q.sub).0 inner.1) in
    let source = sym ((bytes_decides s q.source).0 middle.1) in
    let channel = sym ((bytes_decides c q.channel).0 outer.1) in
    λ i. record { kind = kind i; sub = sub i; source = source i; channel = channel i; number = q.number }

-- ---- entries by number

-- each entry's key is the one of its own number
abbrev AreOwn : ℕ → List ℕ → List ℕ → List ℕ → List (Key × Cell) → Type 0
AreOwn k u s c [] = Unit {0}
AreOwn k u s c (e ∷ es) = (e.0 ≡ key k u s c e.0.number) × AreOwn k u s c es

abbrev pub by_number : List (Key × Cell) → List (ℕ × Cell)
by_number entries = map (λ (e : Key × Cell). (e.0.number, e.1)) entries

are_own : (k : ℕ) (u s c : List ℕ) (m : ℕ) (entries : List (Key × Cell)) → AreOwn k u s c (where_key key_cmp (is_under Channel (key k u s c m)) entries)
are_own k u s c m [] = tt
are_own k u s c m (e ∷ es) =
    elim (is_under Channel (key k u s c m) e.0) as (λ t. is_under Channel (key k u s c m) e.0 ≡ t → AreOwn k u s c (cond t (e ∷ where_key key_cmp (is_under Channel (key k u s c m)) es) (where_key key_cmp (is_under Channel (key k u s c m)) es))) [
      | true ↦ λ is. (own_key k u s c m e.0 is, are_own k u s c m es)
      | false ↦ λ is. are_own k u s c m es
    ] refl

cmp_own : (k : ℕ) (u s c : List ℕ) (n : ℕ) (q : Key) → q ≡ key k u s c q.number → key_cmp (key k u s c n) q ≡ nat_cmp n q.number
cmp_own k u s c n q own = ap (key_cmp (key k u s c n)) own ∙ key_cmp_number k u s c n q.number

cmp_owns : (k : ℕ) (u s c : List ℕ) (p q : Key) → p ≡ key k u s c p.number → q ≡ key k u s c q.number → key_cmp p q ≡ nat_cmp p.number q.number
cmp_owns k u s c p q own own' = ap (λ (x : Key). key_cmp x q) own ∙ cmp_own k u s c p.number q own'

below_own : (k : ℕ) (u s c : List ℕ) (q : Key) → q ≡ key k u s c q.number → (es : List (Key × Cell)) → AreOwn k u s c es → below_all key_cmp q es ≡ below_all nat_cmp q.number (by_number es)
below_own k u s c q own [] all = refl
below_own k u s c q own (e ∷ es) all = λ i. is_lt (cmp_owns k u s c q e.0 own all.0 i) && below_own k u s c q own es all.1 i

sorted_own : (k : ℕ) (u s c : List ℕ) (es : List (Key × Cell)) → AreOwn k u s c es → is_sorted key_cmp es ≡ is_sorted nat_cmp (by_number es)
sorted_own k u s c [] all = refl
sorted_own k u s c (e ∷ es) all = λ i. below_own k u s c e.0 all.0 es all.1 i && sorted_own k u s c es all.1 i

find_own : (k : ℕ) (u s c : List ℕ) (n : ℕ) (es : List (Key × Cell)) → AreOwn k u s c es → find key_cmp (key k u s c n) es ≡ find nat_cmp n (by_number es)
find_own k u s c n [] all = refl
find_own k u s c n (e ∷ es) all = λ i. cond (is_eq (cmp_own k u s c n e.0 all.0 i)) (Some e.1) (find_own k u s c n es all.1 i)

abbrev pub own_row : ℕ → List ℕ → List ℕ → List ℕ → ℕ × Cell → Row
own_row k u s c e = row_of (key k u s c e.0, e.1)

rows_own : (k : ℕ) (u s c : List ℕ) (es : List (Key × Cell)) → AreOwn k u s c es → map row_of es ≡ map (own_row k u s c) (by_number es)
rows_own k u s c [] all = refl
rows_own k u s c (e ∷ es) all = λ i. row_of (all.0 i, e.1) ∷ rows_own k u s c es all.1 i

-- ---- the rows of a section by number

-- the entries of the rows behind a number
section : ℕ → List ℕ → List ℕ → List ℕ → ℕ → Rows → List (Key × Cell)
section k u s c m rows = where_key key_cmp (is_under Channel (key k u s c m)) (where_key key_cmp (is_after (key k u s c m)) (finite.entries rows))

pub numbered : ℕ → List ℕ → List ℕ → List ℕ → ℕ → Rows → List (ℕ × Cell)
numbered k u s c m rows = by_number (section k u s c m rows)

pub rows_numbered : (k : ℕ) (u s c : List ℕ) (m : ℕ) (rows : Rows) → rows_under Channel (key k u s c m) rows ≡ map (own_row k u s c) (numbered k u s c m rows)
unfolding numbered section
rows_numbered k u s c m rows =
    let behind = where_key key_cmp (is_after (key k u s c m)) (finite.entries rows) in
    rows_kept (is_under Channel (key k u s c m)) behind ∙ rows_own k u s c (section k u s c m rows) (are_own k u s c m behind)

pub numbered_sorted : (k : ℕ) (u s c : List ℕ) (m : ℕ) (rows : Rows) → T (is_sorted nat_cmp (numbered k u s c m rows))
unfolding numbered section
numbered_sorted k u s c m rows =
    let behind = where_key key_cmp (is_after (key k u s c m)) (finite.entries rows) in
    subst T (sorted_own k u s c (section k u s c m rows) (are_own k u s c m behind))
    (is_sorted-where_key key_cmp (is_under Channel (key k u s c m)) behind
    (is_sorted-where_key key_cmp (is_after (key k u s c m)) (finite.entries rows) (finite.entries_sorted rows)))

pub after_number : (m n : ℕ) → is_lt (nat_cmp m n) ≡ nat_lt m n
after_number m n = by_tests (nat_lt m n) (nat_eq m n)
  where
    by_tests : (t e : Bool) → is_lt (cond t Less (cond e Equal Greater)) ≡ t
    by_tests true e = refl
    by_tests false true = refl
    by_tests false false = refl

pub find_numbered : (k : ℕ) (u s c : List ℕ) (m : ℕ) (rows : Rows) (n : ℕ) → find nat_cmp n (numbered k u s c m rows) ≡ cond (nat_lt m n) (finite.get rows (key k u s c n)) None
unfolding numbered section
find_numbered k u s c m rows n =
    let a = key k u s c m in
    let q = key k u s c n in
    let behind = where_key key_cmp (is_after a) (finite.entries rows) in
    sym (find_own k u s c n (section k u s c m rows) (are_own k u s c m behind))
    ∙ find-where_key key_cmp (is_under Channel a) q (tested_alike (is_under Channel a) q) behind
    ∙ ap (λ (t : Bool). cond t (find key_cmp q behind) None) (under_own k u s c m n)
    ∙ find-where_key key_cmp (is_after a) q (tested_alike (is_after a) q) (finite.entries rows)
    ∙ (λ i. cond ((ap is_lt (key_cmp_number k u s c m n) ∙ after_number m n) i) (sym (finite.get-entries rows q) i) None)

-- ---- lists by number

pub lt_is : (m n : ℕ) → nat_lt m n ≡ true → m < n
lt_is m n e = grind (arith, nat_tests)

pub le_is : (m n : ℕ) → nat_le m n ≡ true → m ≤ n
le_is m n e = grind (arith, nat_tests)

pub not_below : (m n : ℕ) → nat_lt m n ≡ false → n ≤ m
not_below m n e = grind (arith, nat_tests)

pub above_zero : (b n : ℕ) → nat_lt b n ≡ true → nat_lt 0 n ≡ true
above_zero b n e = grind (arith, nat_tests)

equal_is : (m n : ℕ) → m == n ≡ true → m ≡ n
equal_is m n e = grind (arith, nat_tests)

pub lt_tested : (m n : ℕ) → m < n → nat_lt m n ≡ true
lt_tested m n e = grind (arith, nat_tests)

differs : (m n : ℕ) → m < n → m == n ≡ false
differs m n e = grind (arith, nat_tests)

differs_back : (m n : ℕ) → m < n → n == m ≡ false
differs_back m n e = grind (arith, nat_tests)

-- the tests of the order of numbers
pub below : (m n : ℕ) → m < n → is_lt (nat_cmp m n) ≡ true
below m n e = after_number m n ∙ lt_tested m n e

pub below_is : (m n : ℕ) → is_lt (nat_cmp m n) ≡ true → m < n
below_is m n e = lt_is m n (sym (after_number m n) ∙ e)

pub tie_is : (m n : ℕ) → eq_by_cmp nat_cmp m n ≡ true → m ≡ n
tie_is m n e = equal_is m n (unsigned_ties m n ∙ e)

pub no_tie : (m n : ℕ) → m < n → eq_by_cmp nat_cmp m n ≡ false
no_tie m n e = sym (unsigned_ties m n) ∙ differs m n e

pub no_tie_back : (m n : ℕ) → m < n → eq_by_cmp nat_cmp n m ≡ false
no_tie_back m n e = sym (unsigned_ties n m) ∙ differs_back m n e

-- a number at one that is below all, or before it, isn't found
pub find_above : {X : Type 0} (n k : ℕ) (es : List (ℕ × X)) → n ≤ k → below_all nat_cmp k es ≡ true → find nat_cmp n es ≡ None
find_above n k [] le h = refl
find_above n k (e ∷ es) le h =
    let parts = and_parts (is_lt (nat_cmp k e.0)) (below_all nat_cmp k es) h in
    let above : k < e.0 = below_is k e.0 parts.0 in
    (λ i. cond (no_tie n e.0 (omega arith) i) (Some e.1) (find_above n k es le parts.1 i))

pub find-append : {X : Type 0} (n : ℕ) (es fs : List (ℕ × X)) → find nat_cmp n (es ++ fs) ≡ option_or (find nat_cmp n es) (find nat_cmp n fs)
find-append n [] fs = refl
find-append n (e ∷ es) fs = elim (eq_by_cmp nat_cmp n e.0) as (λ t. cond t (Some e.1) (find nat_cmp n (es ++ fs)) ≡ option_or (cond t (Some e.1) (find nat_cmp n es)) (find nat_cmp n fs)) [
  | true ↦ refl
  | false ↦ find-append n es fs
]

-- lists in order that answer alike are one
pub same_numbers : {X : Type 0} (es fs : List (ℕ × X)) → T (is_sorted nat_cmp es) → T (is_sorted nat_cmp fs) → ((n : ℕ) → find nat_cmp n es ≡ find nat_cmp n fs) → es ≡ fs
same_numbers es fs = same_entries nat_cmp nat_cmp_total nat_cmp-IsAntisymmetric es fs

-- sections whose rows answer alike are one
pub same_section : (k : ℕ) (u s c : List ℕ) (m : ℕ) (after before : Rows) → ((n : ℕ) → finite.get after (key k u s c n) ≡ finite.get before (key k u s c n))
    → rows_under Channel (key k u s c m) after ≡ rows_under Channel (key k u s c m) before
same_section k u s c m after before same =
    let lists = same_numbers (numbered k u s c m after) (numbered k u s c m before) (numbered_sorted k u s c m after) (numbered_sorted k u s c m before)
    (λ n. find_numbered k u s c m after n ∙ ap (λ (cell : Option Cell). cond (nat_lt m n) cell None) (same n) ∙ sym (find_numbered k u s c m before n)) in
    rows_numbered k u s c m after ∙ ap (map (own_row k u s c)) lists ∙ sym (rows_numbered k u s c m before)

-- ---- no rows

no_items : {X : Type 0} (xs : List X) → length xs ≡ 0 → xs ≡ []
no_items [] e = refl
no_items (x ∷ xs) e = absurd (omega arith)

no_entries : finite.entries {K = Key} {X = Cell} {R = key_cmp} finite.empty ≡ []
no_entries = no_items _ (sym (finite.len-entries {K = Key} {X = Cell} {R = key_cmp} finite.empty) ∙ finite.len-empty key_cmp Cell)

-- no row stands where there is none
pub no_rows : (depth : Depth) (after : Key) → rows_under depth after finite.empty ≡ []
no_rows depth after =
    ap (λ (entries : List (Key × Cell)). filter (λ (row : Row). is_under depth after row.key) (map row_of (filter (λ (e : Key × Cell). is_after after e.0) entries))) no_entries
