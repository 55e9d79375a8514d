-- The first that is due of subscriptions is the first of their rows.
use Rattle.std.proofs.Common.{◌≡◌, ℕ, List, [], ◌∷◌, refl, ap, Option, Some, None}
use Rattle.std.specs.List.{cons_option, filter_map}
use Rattle.std.specs.Option.{option_and_then}
use Rattle.wef_keeper.specs.Rows.{Rows}
use Rattle.wef_keeper.specs.declared.keys.Row.{Row}
use Rattle.wef_collector_reports.specs.Listing.{listed_of}
use Rattle.wef_collector_reports.specs.declared.listing.Listed.{Listed}
use Rattle.wef_collector_leases.specs.Next.{due_of, first_due, first_of_rows, or_next}
use Rattle.wef_collector_leases.specs.declared.waiting.Waiting.{Waiting}

pub same_first : (rows : Rows) (waiting : List Waiting) (now : ℕ) (found : List Row) → first_of_rows rows waiting now found ≡ first_due rows waiting now (filter_map listed_of found)
same_first rows waiting now [] = refl
same_first rows waiting now (row ∷ found) = by (same_first rows waiting now found) (listed_of row)
  where
    by : first_of_rows rows waiting now found ≡ first_due rows waiting now (filter_map listed_of found) → (o : Option Listed)
        → or_next (option_and_then (due_of rows waiting now) o) (first_of_rows rows waiting now found) ≡ first_due rows waiting now (cons_option o (filter_map listed_of found))
    by behind None = behind
    by behind (Some l) = ap (or_next (due_of rows waiting now l)) behind
