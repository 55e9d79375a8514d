-- How long a source goes on sending that the collector asked for its events.
use Rattle.std.specs.Prelude.{ℕ, List, [], Option, Some}
use Rattle.std.specs.FinMap as map
use Rattle.std.specs.Option.{option_map}
use Rattle.wef_keeper.specs.declared.keys.Cell.{Cell}
use Rattle.wef_keeper.specs.declared.keys.Depth.TheVariants.{Kind}
use Rattle.wef_keeper.specs.declared.keys.Row.{Row}
use Rattle.wef_keeper.specs.Rows.{Rows}
use Rattle.wef_keeper.specs.Sections.{rows_under}
use Rattle.wef_xml.specs.Good.{IsXmlText}
use Rattle.wef_collector_rows.specs.Keys.{lease_key}
use Rattle.wef_collector_leases.specs.declared.leases.Lease.{Lease}
use Rattle.wef_collector_leases.specs.declared.leases.Wants.{Wants}
use Rattle.wef_collector_leases.specs.declared.leases.Wants.TheVariants.{Subscribes, Renews, Unsubscribes}

abbrev pub lease_of : Cell → Lease
lease_of cell = record { identifier = cell.body; expiry = cell.value }

abbrev pub some_lease : Cell → Option Lease
some_lease cell = Some (lease_of cell)

-- the lease of a subscription and a source
abbrev pub lease_at : Rows → List ℕ → List ℕ → Option Lease
lease_at rows u s = option_map lease_of (map.get rows (lease_key u s))

-- the rows of all leases, by subscription and source
abbrev pub lease_rows : Rows → List Row
lease_rows rows = rows_under Kind (lease_key [] []) rows

-- its identifier holds characters that XML allows
abbrev pub IsXmlLease : Lease → Type 0
IsXmlLease lease = IsXmlText lease.identifier

-- and so does that of a wish
abbrev pub IsXmlWish : Wants → Type 0
IsXmlWish Subscribes = Unit {0}
IsXmlWish (Renews identifier) = IsXmlText identifier
IsXmlWish (Unsubscribes identifier) = IsXmlText identifier
