-- A `BTreeMap` from names to values, seen as a finite map.
use Rattle.std.proofs.Common.{◌≡◌, ℕ, List, [], ◌∷◌, ◌++◌, Bool, true, false, cond, refl, ap, sym, ◌∙◌, Some, None}
use Rattle.std.specs.Prelude.{Option, unwrap_or}
use Rattle.std.specs.declared.cmp.Ordering.{Ordering}
use Rattle.std.specs.declared.cmp.Ordering.TheVariants.{Less, Equal, Greater}
use Rattle.std.specs.Ordering.{nat_cmp, eq_by_cmp, is_eq}
use Rattle.std.specs.Cmp.{eq_by_cmp_equiv}
use Rattle.std.specs.Cmp.Lexicographic.{slice_cmp, nat_list_cmp_total}
use Rattle.std.specs.BTreeMap.{is_at}
use Rattle.std.specs.FinMap.{FinMap, get, insert, remove, from_entries, same_map, get-insert, get-remove}
use Rattle.std.proofs.lemmas.Map.Lookups.{exact_bytes}
use Rattle.wef_source_log.specs.Histories.{History, extended}
pub use Rattle.wef_xml.proofs.Maps.{get_given, given_at, one_given}

equal : (r : Ordering) → is_eq r ≡ true → r ≡ Equal
equal Less e = cc
equal Equal e = refl
equal Greater e = cc

-- names that tie are one
one_name : (q s : List ℕ) → eq_by_cmp (slice_cmp nat_cmp) q s ≡ true → q ≡ s
one_name q s e = exact_bytes q s (equal (slice_cmp nat_cmp q s) e)

-- entries that have nothing at one name, and are as others elsewhere, make a map from which it is removed
pub none_given : {X : Type 0} (es fs : List (List ℕ × X)) (s : List ℕ) → ((q : List ℕ) → given_at fs q ≡ cond (is_at (slice_cmp nat_cmp s) q) None (given_at es q))
    → from_entries {R = slice_cmp nat_cmp} fs ≡ remove (from_entries es) s
none_given es fs s h = same_map nat_list_cmp_total exact_bytes _ _ (λ q.
    get_given fs q ∙ h q ∙ ap (λ b. cond b None (given_at es q)) ((eq_by_cmp_equiv nat_list_cmp_total).symm s q)
    ∙ sym (get-remove nat_list_cmp_total (from_entries es) s q ∙ ap (cond (is_at (slice_cmp nat_cmp q) s) None) (get_given es q)))

twice : {X : Type 0} (b : Bool) (x y : Option X) → cond b x (cond b None y) ≡ cond b x y
twice true x y = refl
twice false x y = refl

-- what is put back at a name from which a value was taken is put over that value
pub put_back : {X : Type 0} (m : FinMap (slice_cmp nat_cmp) X) (s : List ℕ) (x : X) → insert (remove m s) s x ≡ insert m s x
put_back m s x = same_map nat_list_cmp_total exact_bytes _ _ (λ q.
    get-insert nat_list_cmp_total (remove m s) s x q
    ∙ ap (cond (eq_by_cmp (slice_cmp nat_cmp) q s) (Some x)) (get-remove nat_list_cmp_total m s q)
    ∙ twice (eq_by_cmp (slice_cmp nat_cmp) q s) (Some x) (get m q)
    ∙ sym (get-insert nat_list_cmp_total m s x q))

-- nothing is removed at a name that has nothing
pub remove_absent : {X : Type 0} (m : FinMap (slice_cmp nat_cmp) X) (s : List ℕ) → get m s ≡ None → remove m s ≡ m
remove_absent m s none = same_map nat_list_cmp_total exact_bytes _ _ (λ q.
    get-remove nat_list_cmp_total m s q
    ∙ elim (eq_by_cmp (slice_cmp nat_cmp) q s) as (λ t. eq_by_cmp (slice_cmp nat_cmp) q s ≡ t → cond t None (get m q) ≡ get m q) [
      | true ↦ λ is. sym (ap (get m) (one_name q s is) ∙ none)
      | false ↦ λ _. refl
    ] refl)

-- entries that have one text more at a name make the histories with one record more
pub extended_given : (es fs : List (List ℕ × History)) (s text : List ℕ) (records : History) (old : Option History) → old ≡ given_at es s
    → records ≡ unwrap_or old [] ++ text ∷ []
    → ((q : List ℕ) → given_at fs q ≡ cond (is_at (slice_cmp nat_cmp s) q) (Some records) (given_at es q))
    → from_entries {R = slice_cmp nat_cmp} fs ≡ extended (from_entries es) s text
extended_given es fs s text records old is records_is h =
    one_given es fs s records h ∙ ap (insert (from_entries es) s) (records_is ∙ ap (λ o. unwrap_or o [] ++ text ∷ []) (is ∙ sym (get_given es s)))
