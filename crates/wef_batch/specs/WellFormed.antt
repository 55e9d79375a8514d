-- When a batch for a subscription to some channels is well-formed.
use Rattle.std.specs.Prelude.{ℕ, nat_lt, nat_le, Bool, true, false, ◌&&◌, List, [], ◌∷◌, Option, Some, None, IsTrue}
use Rattle.std.specs.List.{list_any, list_all}
use Rattle.std.specs.FinMap as map
use Rattle.wef_base.specs.Names.{same}
use Rattle.wef_base.specs.declared.numbers.TheConstants.{MAX}
use Rattle.wef_batch.specs.declared.items.Item.{Item}
use Rattle.wef_batch.specs.declared.items.Item.TheVariants.{Event, Dropped, Loose}
use Rattle.wef_batch.specs.declared.items.Batch.{Batch}
use Rattle.wef_batch.specs.Reach.{span_in, later, last_in, loose_sum, reach}

-- a channel is one of these
abbrev pub is_in : List (List ℕ) → List ℕ → Bool
is_in channels c = list_any (λ listed. same listed c) channels

-- an event or a dropped range is of one of these channels
abbrev pub is_listed : List (List ℕ) → Item → Bool
is_listed channels (Event event) = is_in channels event.channel
is_listed channels (Dropped channel first last) = is_in channels channel
is_listed channels (Loose count) = true

-- above the number before, where there is one
abbrev pub is_above : Option ℕ → ℕ → Bool
is_above None n = true
is_above (Some previous) n = nat_lt previous n

-- an item's span begins above the number before, and doesn't end before it begins
abbrev pub follows : Option ℕ → Option (ℕ × ℕ) → Bool
follows previous None = true
follows previous (Some span) = is_above previous span.0 && nat_le span.0 span.1

-- within a channel numbers strictly rise in the order of items
abbrev pub rises : List ℕ → Option ℕ → List Item → Bool
rises c previous [] = true
rises c previous (item ∷ items) = follows previous (span_in c item) && rises c (later previous (span_in c item)) items

-- where both are there, the first is at least the second
abbrev pub is_at_least : Option ℕ → Option ℕ → Bool
is_at_least None last = true
is_at_least (Some to) None = true
is_at_least (Some to) (Some last) = nat_le last to

-- a channel's numbers rise, and the bookmark, where it has the channel, is at least at the last
abbrev pub is_in_order : Batch → List ℕ → Bool
is_in_order batch c = rises c None batch.items && is_at_least (map.get batch.to c) (last_in c batch.items)

-- each item of a channel is of a listed one, each listed channel is in order, and the loose counts sum to at most MAX
abbrev pub is_well_formed : List (List ℕ) → Batch → Bool
is_well_formed channels batch =
    list_all (is_listed channels) batch.items && list_all (is_in_order batch) channels && nat_le (loose_sum batch.items) MAX

abbrev pub IsWellFormed : List (List ℕ) → Batch → Type 0
IsWellFormed channels batch = IsTrue (is_well_formed channels batch)

-- an item ends at the reach or before, where it is of the channel
abbrev pub ends_by : Option ℕ → Option (ℕ × ℕ) → Bool
ends_by reached None = true
ends_by None (Some span) = false
ends_by (Some number) (Some span) = nat_le span.1 number

-- each event and each dropped range of a channel ends at the batch's reach or before
abbrev pub IsWithinReach : List ℕ → Batch → Type 0
IsWithinReach c batch = IsTrue (list_all (λ item. ends_by (reach c batch) (span_in c item)) batch.items)

-- A well-formed batch reads each listed channel at least as far as its items go.
abbrev pub ItemsAreReached : Type 0
ItemsAreReached = (channels : List (List ℕ)) (batch : Batch) (c : List ℕ) → IsWellFormed channels batch → IsTrue (is_in channels c) → IsWithinReach c batch
