-- What is changed of leases. Where nothing is to be changed there is no change.
use Rattle.std.specs.Prelude.{ℕ, ◌==◌, Bool, ◌&&◌, List, [], ◌∷◌, map, Option, Some, None, if◌then◌else◌}
use Rattle.wef_base.specs.Names.{same}
use Rattle.wef_keeper.specs.declared.keys.Change.{Change}
use Rattle.wef_keeper.specs.declared.keys.Change.TheVariants.{Put, Delete}
use Rattle.wef_keeper.specs.declared.keys.Row.{Row}
use Rattle.wef_keeper.specs.Rows.{Rows}
use Rattle.wef_collector_rows.specs.Keys.{lease_key}
use Rattle.wef_collector_leases.specs.Leases.{lease_at, lease_rows}
use Rattle.wef_collector_leases.specs.declared.leases.Lease.{Lease}

abbrev pub put_lease : List ℕ → List ℕ → Lease → Change
put_lease u s lease = Put (record { key = lease_key u s; value = lease.expiry; body = lease.identifier })

abbrev pub delete_lease : List ℕ → List ℕ → Change
delete_lease u s = Delete (lease_key u s)

-- whether a lease is another, with its identifier and its end
abbrev pub is_lease : Lease → Lease → Bool
is_lease lease kept = same lease.identifier kept.identifier && lease.expiry == kept.expiry

-- a lease in place of the one that is kept, if it is another
abbrev pub put_over : List ℕ → List ℕ → Lease → Option Lease → List Change
put_over u s lease None = put_lease u s lease ∷ []
put_over u s lease (Some kept) = if is_lease lease kept then [] else put_lease u s lease ∷ []

-- the lease of a subscription and a source becomes this one
abbrev pub replace_lease : Rows → List ℕ → List ℕ → Lease → List Change
replace_lease rows u s lease = put_over u s lease (lease_at rows u s)

-- no lease in place of the one that is kept
abbrev pub delete_kept : List ℕ → List ℕ → Option Lease → List Change
delete_kept u s None = []
delete_kept u s (Some kept) = delete_lease u s ∷ []

-- the lease of a subscription and a source ends
abbrev pub clear_lease : Rows → List ℕ → List ℕ → List Change
clear_lease rows u s = delete_kept u s (lease_at rows u s)

-- no lease in place of the one that is kept, if the source names its session so
abbrev pub delete_named : List ℕ → List ℕ → List ℕ → Option Lease → List Change
delete_named u s identifier None = []
delete_named u s identifier (Some kept) = if same kept.identifier identifier then delete_lease u s ∷ [] else []

-- the lease of a subscription and a source ends, if the source names its session so
abbrev pub end_lease : Rows → List ℕ → List ℕ → List ℕ → List Change
end_lease rows u s identifier = delete_named u s identifier (lease_at rows u s)

-- of a row
abbrev pub delete : Row → Change
delete row = Delete row.key

abbrev pub deletes : List Row → List Change
deletes rows = map delete rows

-- all leases are deleted
abbrev pub release_changes : Rows → List Change
release_changes rows = deletes (lease_rows rows)
