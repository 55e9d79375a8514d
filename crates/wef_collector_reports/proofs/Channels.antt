-- The rows of a channel's section: their numbers rise.
use Rattle.std.proofs.Common.{◌≡◌, ℕ, ◌<◌, Bool, true, false, ◌&&◌, cond, List, [], ◌∷◌, ◌++◌, length, nat_eq, nat_lt, refl, sym, ap, ◌∙◌, subst, arith}
use Rattle.std.proofs.lemmas.Bool.{and_parts, eqb-true}
use Rattle.std.proofs.lemmas.Bool.Decides.{nat_tests}
use Rattle.std.specs.Cmp.{nat_cmp_total}
use Rattle.std.specs.Cmp.Lexicographic.{bytes_decides, nat_list_cmp_total, pointwise, slice_cmp}
use Rattle.std.specs.List.{AllByRecursion, list_all}
use Rattle.std.specs.Ordering.{is_lt, nat_cmp, ordering_reverse, ordering_then}
use Rattle.std.specs.declared.cmp.Ordering.{Ordering}
use Rattle.std.specs.declared.cmp.Ordering.TheVariants.{Less, Equal, Greater}
use Rattle.wef_keeper.specs.Access.{IsBehind}
use Rattle.wef_keeper.specs.Rows.{is_after, key_cmp}
use Rattle.wef_keeper.specs.Sections.{is_under, last_key}
use Rattle.wef_keeper.specs.declared.keys.Depth.TheVariants.{Channel}
use Rattle.wef_keeper.specs.declared.keys.Key.{Key}
use Rattle.wef_keeper.specs.declared.keys.Row.{Row}
use Rattle.wef_collector_reports.specs.Report.{last_row_number}

-- a key of a channel's section with its own number
abbrev pub numbered : Key → ℕ → Key
numbered of n = record { kind = of.kind; sub = of.sub; source = of.source; channel = of.channel; number = n }

-- a key under that of a channel is the one of its own number
pub own_number : (of k : Key) → is_under Channel of k ≡ true → k ≡ numbered of k.number
own_number of k e =
    let outer = and_parts (nat_eq of.kind k.kind && pointwise nat_eq of.sub k.sub && pointwise nat_eq of.source k.source) (pointwise nat_eq of.channel k.channel) e in
    let middle = and_parts (nat_eq of.kind k.kind && pointwise nat_eq of.sub k.sub) (pointwise nat_eq of.source k.source) outer.0 in
    let inner = and_parts (nat_eq of.kind k.kind) (pointwise nat_eq of.sub k.sub) middle.0 in
    let kind = sym (eqb-true of.kind k.kind inner.0) in
    let sub = sym ((bytes_decides of.sub k.sub).0 inner.1) in
    let source = sym ((bytes_decides of.source k.source).0 middle.1) in
    let channel = sym ((bytes_decides of.channel k.channel).0 outer.1) in
    λ i. record { kind = kind i; sub = sub i; source = source i; channel = channel i; number = k.number }

self_tie : (r : Ordering) → r ≡ ordering_reverse r → r ≡ Equal
self_tie Less e = cc
self_tie Equal e = refl
self_tie Greater e = cc

text_tie : (text : List ℕ) → slice_cmp nat_cmp text text ≡ Equal
text_tie text = self_tie (slice_cmp nat_cmp text text) (nat_list_cmp_total.antisymm text text)

number_tie : (n : ℕ) → nat_cmp n n ≡ Equal
number_tie n = self_tie (nat_cmp n n) (nat_cmp_total.antisymm n n)

-- keys that differ in their numbers go by these
by_number : (of : Key) (n : ℕ) → key_cmp of (numbered of n) ≡ nat_cmp of.number n
by_number of n = λ i.
    ordering_then (number_tie of.kind i) (ordering_then (text_tie of.sub i) (ordering_then (text_tie of.source i) (ordering_then (text_tie of.channel i) (nat_cmp of.number n))))

less_test : (t e : Bool) → is_lt (cond t Less (cond e Equal Greater)) ≡ true → t ≡ true
less_test true e h = refl
less_test false true h = cc
less_test false false h = cc

less_number : (m n : ℕ) → is_lt (nat_cmp m n) ≡ true → m < n
less_number m n h = let test : nat_lt m n ≡ true = less_test (nat_lt m n) (nat_eq m n) h in grind (arith, nat_tests)

higher : (of : Key) (row : Row) → IsBehind Channel of row → of.number < row.key.number
higher of row behind =
    let at = own_number of row.key behind.under in
    let after : is_after of (numbered of row.key.number) ≡ true = subst (λ (k : Key). is_after of k ≡ true) at behind.after_it in
    less_number of.number row.key.number (sym (ap is_lt (by_number of row.key.number)) ∙ after)

last_higher : (of first : Key) (rows : List Row) → of.number < first.number → AllByRecursion (IsBehind Channel of) rows → of.number < (last_key first rows).number
last_higher of first [] above all = above
last_higher of first (row ∷ rows) above all = last_higher of row.key rows (higher of row all.0) all.1

-- behind a page that isn't empty the numbers are greater
pub page_rises : (of : Key) (page : List Row) → 0 < length page → AllByRecursion (IsBehind Channel of) page → of.number < (last_key of page).number
page_rises of [] some all = absurd (omega arith)
page_rises of (row ∷ rows) some all = last_higher of row.key rows (higher of row all.0) all.1

-- the key of the last row is that of the last number
last_from : (of first : Key) (rows : List Row) → first ≡ numbered of first.number → AllByRecursion (IsBehind Channel of) rows → last_key first rows ≡ numbered of (last_row_number first.number rows)
last_from of first [] own all = own
last_from of first (row ∷ rows) own all = last_from of row.key rows (own_number of row.key all.0.under) all.1

pub last_is : (of : Key) (page : List Row) → AllByRecursion (IsBehind Channel of) page → last_key of page ≡ numbered of (last_row_number of.number page)
last_is of page all = last_from of of page refl all

pub last_row_number-push : (n : ℕ) (front : List Row) (row : Row) → last_row_number n (front ++ row ∷ []) ≡ row.key.number
last_row_number-push n [] row = refl
last_row_number-push n (first ∷ front) row = last_row_number-push first.key.number front row

-- behind rows that all pass, the rest passes where all do
pub rest_passes : (passes : Row → Bool) (front rest : List Row) → list_all passes front ≡ true → list_all passes rest ≡ list_all passes (front ++ rest)
rest_passes passes [] rest all = refl
rest_passes passes (row ∷ front) rest all =
    let both = and_parts (passes row) (list_all passes front) all in
    rest_passes passes front rest both.1 ∙ ap (λ (t : Bool). t && list_all passes (front ++ rest)) (sym both.0)
