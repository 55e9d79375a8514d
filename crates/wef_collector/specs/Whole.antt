-- Where the rows that are read are of their form, none of them is passed over.
use Rattle.std.specs.Prelude.{◌≡◌, ℕ, List, map, Some}
use Rattle.std.specs.FinMap as finite
use Rattle.std.specs.List.{All}
use Rattle.wef_keeper.specs.Rows.{Rows}
use Rattle.wef_keeper.specs.declared.keys.Row.{Row}
use Rattle.wef_collector_rows.specs.Answers.{is_known, is_there}
use Rattle.wef_collector_rows.specs.Bookmarks.{bookmark_of, bookmark_rows}
use Rattle.wef_collector_rows.specs.Judged.{AreAllFormed, IsFormedAt}
use Rattle.wef_collector_rows.specs.Keys.{subscription_key}
use Rattle.wef_collector_rows.specs.Standing.{standing, subscription_rows}
use Rattle.wef_collector_reports.specs.Listing.{listed, listed_of}
use Rattle.wef_collector_reports.specs.declared.listing.Listed.{Listed}

pub record SkipsNothing : Type 0 where
  -- each row of a subscription gives one entry of the list, in their order
  pub listed : (rows : Rows) → AreAllFormed (subscription_rows rows) → map (λ (l : Listed). Some l) (listed rows) ≡ map listed_of (subscription_rows rows)
  -- the bookmark of a subscription and a source has the channel of each of their rows, at its value
  pub bookmark : (rows : Rows) (u s : List ℕ) → AreAllFormed (bookmark_rows rows u s)
      → All (λ (row : Row). finite.get (bookmark_of rows u s) row.key.channel ≡ Some row.value) (bookmark_rows rows u s)
  -- no subscription has a name exactly where no row stands at its key
  pub standing : (rows : Rows) (u : List ℕ) → IsFormedAt (subscription_key u) rows → is_known (standing rows u) ≡ is_there rows u
