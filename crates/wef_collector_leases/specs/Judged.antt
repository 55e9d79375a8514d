-- Which rows are read to find what is due next: those of the subscriptions, and the leases of each that the collector begins, up
-- to the one that has a source that is due. They are of their form.
use Rattle.std.specs.Prelude.{◌≡◌, ℕ, true, false, List, [], ◌∷◌, None, IfSome}
use Rattle.std.specs.List.{AllByRecursion}
use Rattle.wef_eventing.specs.declared.subscriptions.SourceAt.{SourceAt}
use Rattle.wef_keeper.specs.Rows.{Rows}
use Rattle.wef_keeper.specs.declared.keys.Row.{Row}
use Rattle.wef_collector_reports.specs.Listing.{listed_of}
use Rattle.wef_collector_reports.specs.declared.listing.Listed.{Listed}
use Rattle.wef_collector_rows.specs.Judged.{AreAllFormed, IsFormedAt}
use Rattle.wef_collector_rows.specs.Keys.{lease_key}
use Rattle.wef_collector_rows.specs.Standing.{subscription_rows}
use Rattle.wef_collector_leases.specs.Next.{begins_here, due_of_row}
use Rattle.wef_collector_leases.specs.Waiting.{is_waiting}
use Rattle.wef_collector_leases.specs.declared.waiting.Waiting.{Waiting}

-- the lease of a subscription and a source, where no request waits
abbrev pub IsAsked : Rows → List Waiting → List ℕ → SourceAt → Type 0
IsAsked rows waiting u source = is_waiting waiting u source.name ≡ false → IsFormedAt (lease_key u source.name) rows

abbrev pub AreAsked : Rows → List Waiting → List ℕ → List SourceAt → Type 0
AreAsked rows waiting u sources = AllByRecursion (IsAsked rows waiting u) sources

-- those of a subscription that the collector begins
abbrev pub IsJudged : Rows → List Waiting → Listed → Type 0
IsJudged rows waiting l = begins_here l.subscription.kind ≡ true → AreAsked rows waiting l.subscription.name l.subscription.sources

abbrev pub IsRowJudged : Rows → List Waiting → Row → Type 0
IsRowJudged rows waiting row = IfSome (listed_of row) (IsJudged rows waiting)

-- up to the first that has a source that is due
abbrev pub AreJudgedUntil : Rows → List Waiting → ℕ → List Row → Type 0
AreJudgedUntil rows waiting now [] = Unit {0}
AreJudgedUntil rows waiting now (row ∷ more) = IsRowJudged rows waiting row × (due_of_row rows waiting now row ≡ None → AreJudgedUntil rows waiting now more)

abbrev pub JudgesNext : Rows → List Waiting → ℕ → Type 0
JudgesNext rows waiting now = AreAllFormed (subscription_rows rows) × AreJudgedUntil rows waiting now (subscription_rows rows)
