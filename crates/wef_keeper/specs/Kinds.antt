-- The register of the kinds of rows: the number and the owner of each.
use Rattle.std.specs.Prelude.{ℕ}
use Rattle.wef_keeper.specs.declared.kinds.Owner.{Owner}
use Rattle.wef_keeper.specs.declared.kinds.Owner.TheVariants.{Collector, Source}
use Rattle.wef_keeper.specs.declared.kinds.RowKind.{RowKind}
use Rattle.wef_keeper.specs.declared.kinds.RowKind.TheVariants.{Subscription, Bookmark, Held, Mark, Loose, Heard, Lease, CollectorBoot, Record, LastNumber, Capacity, SourceBoot}

abbrev pub number_of : RowKind → ℕ
number_of Subscription = 1
number_of Bookmark = 2
number_of Held = 3
number_of Mark = 4
number_of Loose = 5
number_of Heard = 6
number_of Lease = 7
number_of CollectorBoot = 8
number_of Record = 9
number_of LastNumber = 10
number_of Capacity = 11
number_of SourceBoot = 12

abbrev pub owner_of : RowKind → Owner
owner_of Subscription = Collector
owner_of Bookmark = Collector
owner_of Held = Collector
owner_of Mark = Collector
owner_of Loose = Collector
owner_of Heard = Collector
owner_of Lease = Collector
owner_of CollectorBoot = Collector
owner_of Record = Source
owner_of LastNumber = Source
owner_of Capacity = Source
owner_of SourceBoot = Source
