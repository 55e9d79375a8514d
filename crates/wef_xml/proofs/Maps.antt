-- A `BTreeMap` from texts, seen as a finite map.
use Rattle.std.proofs.Common.{◌≡◌, ℕ, List, [], ◌∷◌, cond, refl, ap, sym, ◌∙◌, Some}
use Rattle.std.specs.Prelude.{Option}
use Rattle.std.specs.Ordering.{nat_cmp}
use Rattle.std.specs.Cmp.{eq_by_cmp_equiv}
use Rattle.std.specs.Cmp.Lexicographic.{slice_cmp, nat_list_cmp_total}
use Rattle.std.specs.Map.{lookup}
use Rattle.std.specs.BTreeMap.{is_at}
use Rattle.std.specs.FinMap.{get, insert, find, from_entries, same_map, get-insert, get-from_entries}
use Rattle.std.proofs.lemmas.Map.Lookups.{exact_bytes}

-- what a list of entries has at a text
abbrev pub given_at : {V : Type 0} → List (List ℕ × V) → List ℕ → Option V
given_at es q = lookup (is_at (slice_cmp nat_cmp q)) es

find_given : {V : Type 0} (es : List (List ℕ × V)) (q : List ℕ) → find (slice_cmp nat_cmp) q es ≡ given_at es q
find_given [] q = refl
find_given (e ∷ es) q = ap (cond (is_at (slice_cmp nat_cmp q) e.0) (Some e.1)) (find_given es q)

-- what the map that the entries make has at a text
pub get_given : {V : Type 0} (es : List (List ℕ × V)) (q : List ℕ) → get (from_entries {R = slice_cmp nat_cmp} es) q ≡ given_at es q
get_given es q = get-from_entries nat_list_cmp_total es q ∙ find_given es q

-- entries that differ at one text make maps that differ there
pub one_given : {V : Type 0} (es fs : List (List ℕ × V)) (s : List ℕ) (n : V) → ((q : List ℕ) → given_at fs q ≡ cond (is_at (slice_cmp nat_cmp s) q) (Some n) (given_at es q))
    → from_entries {R = slice_cmp nat_cmp} fs ≡ insert (from_entries es) s n
one_given es fs s n h = same_map nat_list_cmp_total exact_bytes _ _ (λ q.
    get_given fs q ∙ h q ∙ ap (λ b. cond b (Some n) (given_at es q)) ((eq_by_cmp_equiv nat_list_cmp_total).symm s q)
    ∙ sym (get-insert nat_list_cmp_total (from_entries es) s n q ∙ ap (cond (is_at (slice_cmp nat_cmp q) s) (Some n)) (get_given es q)))
