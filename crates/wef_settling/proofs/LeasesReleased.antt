-- Where all leases are deleted, none stands.
use Rattle.std.proofs.Common.{◌≡◌, ℕ, ◌<◌, Bool, true, false, cond, List, [], ◌∷◌, inl, inr, length, refl, ap, ◌∙◌, arith}
use Rattle.std.specs.Cmp.{eq_by_cmp_equiv}
use Rattle.std.specs.FinMap as finite
use Rattle.std.specs.Option.{option_map}
use Rattle.std.specs.Ordering.{eq_by_cmp}
use Rattle.std.specs.Prelude.{Option, Some, None}
use Rattle.wef_collector_leases.specs.Changes.{deletes, release_changes}
use Rattle.wef_collector_leases.specs.Leases.{lease_at, lease_of, lease_rows}
use Rattle.wef_collector_rows.specs.Keys.{lease_key}
use Rattle.wef_keeper.specs.Laws.{get-applied}
use Rattle.wef_keeper.specs.Rows.{Rows, applied, found_after, is_after, key_cmp, key_cmp_total, row_of}
use Rattle.wef_keeper.specs.declared.keys.Cell.{Cell}
use Rattle.wef_keeper.specs.declared.keys.Depth.TheVariants.{Kind}
use Rattle.wef_keeper.specs.declared.keys.Key.{Key}
use Rattle.wef_keeper.specs.declared.keys.Row.{Row}
use Rattle.wef_settling.proofs.Sections.{row_among}
use Rattle.wef_settling.specs.Settles.{IsAmong}

none_found : (rows : List Row) (q : Key) → found_after (deletes rows) q None ≡ None
none_found [] q = refl
none_found (row ∷ rows) q = by_test (eq_by_cmp key_cmp row.key q) (none_found rows q)
  where
    by_test : (t : Bool) → found_after (deletes rows) q None ≡ None → found_after (deletes rows) q (cond t None None) ≡ None
    by_test true rest = rest
    by_test false rest = rest

-- a key whose row is among those that are deleted has none
deleted : (rows : List Row) (row : Row) (found : Option Cell) → IsAmong row rows → found_after (deletes rows) row.key found ≡ None
deleted [] row found among = absurd among
deleted (other ∷ rows) row found (inl is) =
    ap (λ (t : Bool). found_after (deletes rows) row.key (cond t None found)) (ap (λ (r : Row). eq_by_cmp key_cmp r.key row.key) is ∙ (eq_by_cmp_equiv key_cmp_total).refl row.key)
    ∙ none_found rows row.key
deleted (other ∷ rows) row found (inr among) = deleted rows row (cond (eq_by_cmp key_cmp other.key row.key) None found) among

-- a lease's key is behind the first that there may be
behind_first : (u s : List ℕ) → 0 < length u → is_after (lease_key [] []) (lease_key u s) ≡ true
behind_first [] s some = absurd (omega arith)
behind_first (x ∷ u) s some = refl

pub lease_released : (rows : Rows) (u s : List ℕ) → 0 < length u → lease_at (applied (release_changes rows) rows) u s ≡ None
lease_released rows u s some = ap (option_map lease_of) (get-applied (release_changes rows) rows key ∙ by_cell (finite.get rows key) refl)
  where
    key : Key
    key = lease_key u s

    by_cell : (found : Option Cell) → finite.get rows (lease_key u s) ≡ found → found_after (deletes (lease_rows rows)) (lease_key u s) found ≡ None
    by_cell None there = none_found (lease_rows rows) (lease_key u s)
    by_cell (Some cell) there =
        deleted (lease_rows rows) (row_of (lease_key u s, cell)) (Some cell) (row_among Kind (lease_key [] []) rows (lease_key u s) cell (behind_first u s some) refl there)
