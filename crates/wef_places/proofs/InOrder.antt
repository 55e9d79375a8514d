-- The entries of a map that stand in order are those of the finite map that they make.
use Rattle.std.proofs.Common.{◌≡◌, ℕ, List, [], ◌∷◌, true, false, ◌&&◌, ap, sym, subst, ◌∙◌}
use Rattle.std.proofs.lemmas.Map.Lookups.{exact_bytes}
use Rattle.std.specs.Cmp.Lexicographic.{slice_cmp, nat_list_cmp_total}
use Rattle.std.specs.FinMap.{entries, entries-from_sorted, from_entries, from_sorted, get-from_entries, get-from_sorted, is_sorted, same_map}
use Rattle.std.specs.FinMap.Entries.{below_all}
use Rattle.std.specs.List.{AllByRecursion}
use Rattle.std.specs.List.Sorted.{IsStrictlySortedBy}
use Rattle.std.specs.Map.{keys_of}
use Rattle.std.specs.Ordering.{is_lt, nat_cmp}
use Rattle.std.specs.Prelude.{T}
use Rattle.std.specs.declared.cmp.Ordering.{Ordering}
use Rattle.std.specs.declared.cmp.Ordering.TheVariants.{Less}

-- the order of names
abbrev order : List ℕ → List ℕ → Ordering
order = slice_cmp nat_cmp

all_below : {X : Type 0} (q : List ℕ) (es : List (List ℕ × X)) → AllByRecursion (λ y. order q y ≡ Less) (keys_of es) → T (below_all order q es)
all_below q [] h = tt
all_below q (e ∷ es) h = subst (λ r. T (is_lt r && below_all order q es)) (sym h.0) (all_below q es h.1)

in_order : {X : Type 0} (es : List (List ℕ × X)) → IsStrictlySortedBy order (keys_of es) → T (is_sorted order es)
unfolding IsStrictlySortedBy
in_order [] h = tt
in_order (e ∷ es) h =
    let front = all_below e.0 es h.0 in
    let rest = in_order es h.1 in
    elim (below_all order e.0 es) as (λ b. T b → T (b && is_sorted order es)) [ true ↦ λ _. rest | false ↦ λ p. absurd p ] front

pub entries_of : {X : Type 0} (es : List (List ℕ × X)) → IsStrictlySortedBy order (keys_of es) → entries (from_entries {R = order} es) ≡ es
entries_of es h =
    let sorted = in_order es h in
    ap entries (same_map nat_list_cmp_total exact_bytes (from_entries es) (from_sorted es) (λ q. get-from_entries nat_list_cmp_total es q ∙ sym (get-from_sorted order es q sorted)))
    ∙ entries-from_sorted order es sorted
