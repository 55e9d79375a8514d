-- What a subscription wants of a channel's history, and which records count as lost to it.
use Rattle.std.specs.Prelude.{◌≡◌, ℕ, ◌+◌, ◌≤◌, ◌<◌, nat_lt, nat_le, Bool, true, false, not, ◌&&◌, ◌||◌, List, [], ◌∷◌, length, Option, Some, None, if◌then◌else◌, ◌⊎◌}
use Rattle.std.specs.Option.{option_and_then}
use Rattle.wef_batch.specs.Cost.{cost}
use Rattle.wef_batch.specs.declared.items.Item.TheVariants as item
use Rattle.wef_query.specs.declared.QueryList.{QueryList}
use Rattle.wef_source_log.specs.Histories.{History, text_at}
use Rattle.wef_building.specs.Building.{room_of}
use Rattle.wef_building.specs.Selecting.{is_wanted}

-- What a subscription settles of its batches: which records are sent, and how many bytes a batch may have.
pub record Settings : Type 0 where
  pub query : QueryList
  pub max_bytes : ℕ

-- a range of numbers, from the first to the last
abbrev pub Range : Type 0
Range = ℕ × ℕ

-- whether a number lies in one of the ranges
abbrev pub in_ranges : List Range → ℕ → Bool
in_ranges [] n = false
in_ranges (r ∷ rs) n = (nat_le r.0 n && nat_le n r.1) || in_ranges rs n

-- ranges that rise above a number, and share none
abbrev pub AreRising : ℕ → List Range → Type 0
AreRising k [] = Unit {0}
AreRising k (r ∷ rs) = (k < r.0) × (r.0 ≤ r.1) × AreRising r.1 rs

-- ranges that end at a number or before
abbrev pub EndBy : ℕ → List Range → Type 0
EndBy t [] = Unit {0}
EndBy t (r ∷ rs) = (r.1 ≤ t) × EndBy t rs

-- the text of a channel's record, where the query selects it
abbrev pub selected_text : QueryList → List ℕ → List ℕ → Option (List ℕ)
selected_text query c text = if is_wanted query c text then Some text else None

-- the text that a number's record has, where the query selects it
abbrev pub selected_at : QueryList → List ℕ → History → ℕ → Option (List ℕ)
selected_at query c records n = option_and_then (selected_text query c) (text_at records n)

-- what is wanted of a number, above a start, up to a number and but for some ranges
abbrev pub wanted : QueryList → List ℕ → History → ℕ → ℕ → List Range → ℕ → Option (List ℕ)
wanted query c records start t ranges n = if nat_lt start n && nat_le n t && not (in_ranges ranges n) then selected_at query c records n else None

-- whether a selected record's event costs more than the room
abbrev pub is_too_large : QueryList → ℕ → List ℕ → ℕ → Option (List ℕ) → Bool
is_too_large query room c n None = false
is_too_large query room c n (Some text) = nat_lt room (cost (item.Event (record { channel = c; number = n; text = text })))

-- A record is lost to a subscription where it was overwritten, or is selected and too large to be sent. Once lost, it
-- stays so.
abbrev pub IsLost : QueryList → ℕ → List ℕ → History → ℕ → ℕ → Type 0
IsLost query max_bytes c records capacity n =
    (1 ≤ n) × (n ≤ length records)
    × ((n + capacity ≤ length records) ⊎ (is_too_large query (room_of max_bytes) c n (selected_at query c records n) ≡ true))
