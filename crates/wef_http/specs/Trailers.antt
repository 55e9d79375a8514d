-- Lines that are passed over up to the first empty one.
use Rattle.std.specs.Prelude.{◌≡◌, ℕ, ◌≤◌, List, ◌∷◌, ◌++◌, length, drop, Option, Some, None}
use Rattle.wef_http_heads.specs.Ends as ends
use Rattle.wef_http_heads.specs.Ends.{behind_empty_line, is_bare, place_behind}
use Rattle.wef_http.specs.declared.trailers.Place as place
use Rattle.wef_http.specs.declared.trailers.Place.TheVariants.{Start, Returned, Inside}
use Rattle.wef_http.specs.declared.trailers.Skipped.{Skipped}
use Rattle.wef_http.specs.declared.trailers.Skipped.TheVariants.{Whole, Open}

-- where a byte stands in its line
abbrev pub stands : place.Place → ends.Place
stands Start = ends.Start
stands Returned = ends.Returned
stands Inside = ends.Inside

-- Whatever follows, the lines end behind so many of the bytes, or go on from a place.
abbrev pub Skips : List ℕ → place.Place → Skipped → Type 0
Skips bytes from (Whole count) = (count ≤ length bytes) × ((more : List ℕ) → behind_empty_line (stands from) (bytes ++ more) ≡ Some (drop count bytes ++ more))
Skips bytes from (Open next) = (more : List ℕ) → behind_empty_line (stands from) (bytes ++ more) ≡ behind_empty_line (stands next) more

-- a byte ends an empty line, or leads to the next place
abbrev pub Steps : place.Place → ℕ → Option place.Place → Type 0
Steps from b None = (more : List ℕ) → behind_empty_line (stands from) (b ∷ more) ≡ Some more
Steps from b (Some next) = (more : List ℕ) → behind_empty_line (stands from) (b ∷ more) ≡ behind_empty_line (stands next) more
