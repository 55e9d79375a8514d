-- What the rows know of a subscription.
use Rattle.std.specs.Prelude.{ℕ, ◌==◌, nat_le, Bool, List, [], length, Option, Some, None, if◌then◌else◌}
use Rattle.std.specs.FinMap as map
use Rattle.wef_keeper.specs.declared.keys.Cell.{Cell}
use Rattle.wef_keeper.specs.declared.keys.Depth.TheVariants.{Kind}
use Rattle.wef_keeper.specs.declared.keys.Row.{Row}
use Rattle.wef_keeper.specs.Rows.{Rows}
use Rattle.wef_keeper.specs.Sections.{rows_under}
use Rattle.wef_documents.specs.Kept.{read_kept}
use Rattle.wef_eventing.specs.declared.subscriptions.Subscription.{Subscription}
use Rattle.wef_collector_rows.specs.Keys.{subscription_key}
use Rattle.wef_collector_rows.specs.declared.standings.Standing.{Standing}
use Rattle.wef_collector_rows.specs.declared.standings.Standing.TheVariants.{Unknown, Ended, Live}

abbrev pub standing_by : ℕ → Option Subscription → Standing
standing_by value None = Unknown
standing_by value (Some subscription) = if value == 0 then Live subscription else Ended subscription

abbrev pub standing_of : List ℕ → Option Cell → Standing
standing_of u None = Unknown
standing_of u (Some cell) = standing_by cell.value (read_kept u cell.body)

-- the subscription of a name: live, ended, or not there
abbrev pub standing : Rows → List ℕ → Standing
standing rows u = standing_of u (map.get rows (subscription_key u))

-- the document that keeps the subscription of a name
abbrev pub kept_body : Option Cell → List ℕ
kept_body None = []
kept_body (Some cell) = cell.body

-- the rows of all subscriptions, by name
abbrev pub subscription_rows : Rows → List Row
subscription_rows rows = rows_under Kind (subscription_key []) rows

-- whether as many subscriptions are there, ended ones counted, as there may be
abbrev pub is_full : Rows → Bool
is_full rows = nat_le 256 (length (subscription_rows rows))
