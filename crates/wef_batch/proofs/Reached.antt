-- A well-formed batch reads each listed channel at least as far as its items go.
use Rattle.std.proofs.Common.{◌≡◌, ℕ, ◌≤◌, ◌<◌, List, [], ◌∷◌, Bool, true, false, ◌&&◌, ◌||◌, refl, ap, sym, subst, ◌∙◌, Some, None, arith, nat_le, nat_lt}
use Rattle.std.specs.Prelude.{Option, T}
use Rattle.std.specs.Cmp.Lexicographic.{bytes_decides}
use Rattle.std.specs.List.{list_all}
use Rattle.std.specs.FinMap as map
use Rattle.std.proofs.lemmas.Bool.Decides.{nat_tests}
use Rattle.wef_base.specs.Names.{same}
use Rattle.wef_base.specs.declared.numbers.TheConstants.{MAX}
use Rattle.wef_batch.specs.declared.items.Item.{Item}
use Rattle.wef_batch.specs.Reach.{span_in, later, last_after, last_in, reach_of, loose_sum}
use Rattle.wef_batch.specs.WellFormed.{is_in, is_listed, follows, rises, is_at_least, is_in_order, ends_by, ItemsAreReached}

-- names that are the same byte for byte are one
pub one_name : (a b : List ℕ) → same a b ≡ true → a ≡ b
one_name a b e = (bytes_decides a b).0 e

both_true : (a b : Bool) → a && b ≡ true → (a ≡ true) × (b ≡ true)
both_true true b e = (refl, e)
both_true false b e = absurd (subst T (sym e) tt)

and_true : (a b : Bool) → a ≡ true → b ≡ true → a && b ≡ true
and_true true b p q = q
and_true false b p q = p

le_holds : (m n : ℕ) → nat_le m n ≡ true → m ≤ n
le_holds m n e = grind (arith, nat_tests)

le_tested : (m n : ℕ) → m ≤ n → nat_le m n ≡ true
le_tested m n e = grind (arith, nat_tests)

lt_holds : (m n : ℕ) → nat_lt m n ≡ true → m < n
lt_holds m n e = grind (arith, nat_tests)

-- what holds of each channel of a list holds of one that is in it
pub holds_in : (p : List ℕ → Bool) (channels : List (List ℕ)) (c : List ℕ) → list_all p channels ≡ true → is_in channels c ≡ true → p c ≡ true
holds_in p [] c all here = absurd (subst T (sym here) tt)
holds_in p (d ∷ channels) c all here =
    let parts = both_true (p d) (list_all p channels) all in
    elim (same d c) as (λ t. same d c ≡ t → (t || is_in channels c) ≡ true → p c ≡ true) [
      | true ↦ λ is _. ap p (sym (one_name d c is)) ∙ parts.0
      | false ↦ λ _ later_on. holds_in p channels c parts.1 later_on
    ] refl here

-- the number before, where there is one, is at most the last
abbrev Reaches : Option ℕ → Option ℕ → Type 0
Reaches None last = Unit {0}
Reaches (Some n) last = ends_by last (Some (n, n)) ≡ true

step : (previous : Option ℕ) (span : Option (ℕ × ℕ)) (last : Option ℕ) → follows previous span ≡ true → Reaches (later previous span) last → Reaches previous last
step previous None last h there = there
step None (Some span) last h there = tt
step (Some m) (Some span) None h there = absurd (subst T (sym there) tt)
step (Some m) (Some span) (Some n) h there =
    let parts = both_true (nat_lt m span.0) (nat_le span.0 span.1) h in
    let a = lt_holds _ _ parts.0 in
    let b = le_holds _ _ parts.1 in
    let d = le_holds _ _ there in
    le_tested m n (omega arith)

-- where numbers rise, the last is at least the one before
grows : (c : List ℕ) (previous : Option ℕ) (items : List Item) → rises c previous items ≡ true → Reaches previous (last_after c previous items)
grows c None [] h = tt
grows c (Some n) [] h = le_tested n n (omega arith)
grows c previous (item ∷ items) h =
    let parts = both_true (follows previous (span_in c item)) (rises c (later previous (span_in c item)) items) h in
    step previous (span_in c item) _ parts.0 (grows c (later previous (span_in c item)) items parts.1)

ends : (previous : Option ℕ) (span : Option (ℕ × ℕ)) (last : Option ℕ) → Reaches (later previous span) last → ends_by last span ≡ true
ends previous None last h = refl
ends previous (Some span) None h = h
ends previous (Some span) (Some n) h = h

-- where numbers rise, each item ends at the last or before
each_ends : (c : List ℕ) (previous : Option ℕ) (items : List Item) → rises c previous items ≡ true → list_all (λ item. ends_by (last_after c previous items) (span_in c item)) items ≡ true
each_ends c previous [] h = refl
each_ends c previous (item ∷ items) h =
    let parts = both_true (follows previous (span_in c item)) (rises c (later previous (span_in c item)) items) h in
    and_true _ _ (ends previous (span_in c item) _ (grows c (later previous (span_in c item)) items parts.1)) (each_ends c (later previous (span_in c item)) items parts.1)

-- a bookmark at the last number or further reaches what the last number does
further : (to last : Option ℕ) (span : Option (ℕ × ℕ)) → is_at_least to last ≡ true → ends_by last span ≡ true → ends_by (reach_of to last) span ≡ true
further None last span h there = there
further (Some t) last None h there = refl
further (Some t) None (Some span) h there = absurd (subst T (sym there) tt)
further (Some t) (Some n) (Some span) h there =
    let a = le_holds _ _ h in
    let b = le_holds _ _ there in
    le_tested span.1 t (omega arith)

each_further : (to last : Option ℕ) (c : List ℕ) (items : List Item) → is_at_least to last ≡ true → list_all (λ item. ends_by last (span_in c item)) items ≡ true
    → list_all (λ item. ends_by (reach_of to last) (span_in c item)) items ≡ true
each_further to last c [] h all = refl
each_further to last c (item ∷ items) h all =
    let parts = both_true (ends_by last (span_in c item)) (list_all (λ i. ends_by last (span_in c i)) items) all in
    and_true _ _ (further to last (span_in c item) h parts.0) (each_further to last c items h parts.1)

pub items_are_reached : ItemsAreReached
items_are_reached channels batch c formed here =
    let first = both_true (list_all (is_listed channels) batch.items && list_all (is_in_order batch) channels) (nat_le (loose_sum batch.items) MAX) formed in
    let second = both_true (list_all (is_listed channels) batch.items) (list_all (is_in_order batch) channels) first.0 in
    let ordered = both_true (rises c None batch.items) (is_at_least (map.get batch.to c) (last_in c batch.items)) (holds_in (is_in_order batch) channels c second.1 here) in
    each_further (map.get batch.to c) (last_in c batch.items) c batch.items ordered.1 (each_ends c None batch.items ordered.0)
