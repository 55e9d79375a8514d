-- A lease that is put is the one that stands, and those of others stay.
use Rattle.std.proofs.Common.{◌≡◌, ℕ, ◌==◌, ◌&&◌, ◌||◌, Bool, true, false, cond, List, [], ◌∷◌, refl, ap, sym, ◌∙◌}
use Rattle.std.proofs.lemmas.Bool.{and_parts, eqb-true}
use Rattle.std.specs.Cmp.{eq_by_cmp_equiv}
use Rattle.std.specs.FinMap as finite
use Rattle.std.specs.Option.{option_map}
use Rattle.std.specs.Ordering.{eq_by_cmp}
use Rattle.std.specs.Prelude.{Option, Some, None}
use Rattle.wef_base.specs.Names.{same}
use Rattle.wef_collector.proofs.Hits.{one_key, one_name, same_self}
use Rattle.wef_collector_leases.specs.Changes.{is_lease, put_lease, put_over, replace_lease}
use Rattle.wef_collector_leases.specs.Leases.{lease_at, lease_of}
use Rattle.wef_collector_leases.specs.declared.leases.Lease.{Lease}
use Rattle.wef_collector_rows.specs.Keys.{lease_key}
use Rattle.wef_keeper.specs.Laws.{get-applied, get-unnamed}
use Rattle.wef_keeper.specs.Rows.{Rows, applied, is_named, key_cmp, key_cmp_total}
use Rattle.wef_keeper.specs.declared.keys.Key.{Key}

put_found : (rows : Rows) (u s : List ℕ) (lease : Lease) → lease_at (applied (put_lease u s lease ∷ []) rows) u s ≡ Some lease
put_found rows u s lease =
    ap (option_map lease_of) (get-applied (put_lease u s lease ∷ []) rows (lease_key u s))
    ∙ ap (λ (own : Bool). option_map lease_of (cond own (Some (record { value = lease.expiry; body = lease.identifier })) (finite.get rows (lease_key u s))))
    ((eq_by_cmp_equiv key_cmp_total).refl (lease_key u s))

same_lease : (lease kept : Lease) → is_lease lease kept ≡ true → kept ≡ lease
same_lease lease kept is =
    let parts = and_parts (same lease.identifier kept.identifier) (lease.expiry == kept.expiry) is in
    let identifier = sym (one_name lease.identifier kept.identifier parts.0) in
    let expiry = sym (eqb-true lease.expiry kept.expiry parts.1) in
    λ i. record { identifier = identifier i; expiry = expiry i }

pub lease_put : (rows : Rows) (u s : List ℕ) (lease : Lease) → lease_at (applied (replace_lease rows u s lease) rows) u s ≡ Some lease
lease_put rows u s lease = by_kept (lease_at rows u s) refl
  where
    by_kept : (kept : Option Lease) → lease_at rows u s ≡ kept → lease_at (applied (put_over u s lease kept) rows) u s ≡ Some lease
    by_kept None none = put_found rows u s lease
    by_kept (Some kept) stood = by_test (is_lease lease kept) refl
      where
        by_test : (t : Bool) → is_lease lease kept ≡ t → lease_at (applied (cond t [] (put_lease u s lease ∷ [])) rows) u s ≡ Some lease
        by_test true is = stood ∙ ap (λ (l : Lease). Some l) (same_lease lease kept is)
        by_test false other = put_found rows u s lease

-- ---- other leases

-- a key of another pair is another key
other_key : (u s v r : List ℕ) → (same u v && same s r) ≡ false → eq_by_cmp key_cmp (lease_key u s) (lease_key v r) ≡ false
other_key u s v r other = by_test (eq_by_cmp key_cmp (lease_key u s) (lease_key v r)) refl
  where
    by_test : (t : Bool) → eq_by_cmp key_cmp (lease_key u s) (lease_key v r) ≡ t → t ≡ false
    by_test false is = refl
    by_test true is =
        let one = one_key (lease_key u s) (lease_key v r) is in
        let both : (same u v && same s r) ≡ true =
        (λ i. same u (ap (λ (k : Key). k.sub) (sym one) i) && same s (ap (λ (k : Key). k.source) (sym one) i)) ∙ (λ i. same_self u i && same_self s i) in
        sym both ∙ other

put_other : (u s : List ℕ) (lease : Lease) (kept : Option Lease) (key : Key) → eq_by_cmp key_cmp (lease_key u s) key ≡ false → is_named (put_over u s lease kept) key ≡ false
put_other u s lease None key other = ap (λ (t : Bool). t || false) other
put_other u s lease (Some kept) key other = by_test (is_lease lease kept)
  where
    by_test : (t : Bool) → is_named (cond t [] (put_lease u s lease ∷ [])) key ≡ false
    by_test true = refl
    by_test false = ap (λ (own : Bool). own || false) other

pub lease_stays : (rows : Rows) (u s v r : List ℕ) (lease : Lease) → (same u v && same s r) ≡ false → lease_at (applied (replace_lease rows u s lease) rows) v r ≡ lease_at rows v r
lease_stays rows u s v r lease other =
    ap (option_map lease_of)
    (get-unnamed (replace_lease rows u s lease) rows (lease_key v r) (put_other u s lease (lease_at rows u s) (lease_key v r) (other_key u s v r other)))
