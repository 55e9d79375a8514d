-- What a subscription that the collector begins wants of a source at a moment, by the lease that stands. The first that holds
-- decides:
--     one that has ended unsubscribes where a lease stands;
--     a live one subscribes where no lease stands, or the moment is at least the lease's end;
--     a live one renews where the moment and half of the time that a renewal gives are at least the lease's end.
use Rattle.std.specs.Prelude.{ℕ, ◌+◌, ◌/◌, nat_le, Bool, Option, Some, None, if◌then◌else◌}
use Rattle.wef_collector_leases.specs.declared.leases.Lease.{Lease}
use Rattle.wef_collector_leases.specs.declared.leases.Wants.{Wants}
use Rattle.wef_collector_leases.specs.declared.leases.Wants.TheVariants.{Subscribes, Renews, Unsubscribes}

abbrev pub due_leased : ℕ → ℕ → Lease → Option Wants
due_leased now expires lease =
    if nat_le lease.expiry now then Some Subscribes else
    if nat_le lease.expiry (now + expires / 2) then Some (Renews lease.identifier) else None

abbrev pub due_live : ℕ → ℕ → Option Lease → Option Wants
due_live now expires None = Some Subscribes
due_live now expires (Some lease) = due_leased now expires lease

abbrev pub due_ended : Option Lease → Option Wants
due_ended None = None
due_ended (Some lease) = Some (Unsubscribes lease.identifier)

abbrev pub due_for : Bool → ℕ → ℕ → Option Lease → Option Wants
due_for live now expires lease = if live then due_live now expires lease else due_ended lease
