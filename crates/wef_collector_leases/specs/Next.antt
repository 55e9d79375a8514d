-- The next source that is to be asked for something: that of the first subscription, by its name, which the collector begins and
-- which has a source that is due and for which no request waits; of its sources the first so, by its name.
use Rattle.std.specs.Prelude.{ℕ, Bool, true, false, List, [], ◌∷◌, Option, Some, None, if◌then◌else◌}
use Rattle.std.specs.Cmp.Lexicographic.{slice_cmp}
use Rattle.std.specs.Option.{option_and_then}
use Rattle.std.specs.Ordering.{nat_cmp, is_lt}
use Rattle.wef_documents.specs.Laws.{HasXmlAddress, HasXmlTexts}
use Rattle.wef_eventing.specs.declared.subscriptions.SourceAt.{SourceAt}
use Rattle.wef_eventing.specs.declared.subscriptions.SubKind.{SubKind}
use Rattle.wef_eventing.specs.declared.subscriptions.SubKind.TheVariants.{BySource, ByCollector}
use Rattle.wef_eventing.specs.declared.subscriptions.Subscription.{Subscription}
use Rattle.wef_keeper.specs.Rows.{Rows}
use Rattle.wef_keeper.specs.declared.keys.Row.{Row}
use Rattle.wef_collector_reports.specs.Listing.{listed, listed_of}
use Rattle.wef_collector_reports.specs.declared.listing.Listed.{Listed}
use Rattle.wef_collector_leases.specs.Due.{due_for}
use Rattle.wef_collector_leases.specs.Leases.{IsXmlWish, lease_at}
use Rattle.wef_collector_leases.specs.Waiting.{is_waiting}
use Rattle.wef_collector_leases.specs.declared.leases.Wants.{Wants}
use Rattle.wef_collector_leases.specs.declared.next.Due.{Due}
use Rattle.wef_collector_leases.specs.declared.next.DueSource.{DueSource}
use Rattle.wef_collector_leases.specs.declared.waiting.Waiting.{Waiting}

-- whether the collector begins
abbrev pub begins_here : SubKind → Bool
begins_here BySource = false
begins_here ByCollector = true

abbrev pub wanted_at : SourceAt → Option Wants → Option DueSource
wanted_at source None = None
wanted_at source (Some wants) = Some (record { source = source; wants = wants })

-- what is due at a source, by the lease that stands, unless a request waits
abbrev pub due_at : Rows → List Waiting → ℕ → Listed → SourceAt → Option DueSource
due_at rows waiting now l source =
    if is_waiting waiting l.subscription.name source.name then None
    else wanted_at source (due_for l.live now l.subscription.expires (lease_at rows l.subscription.name source.name))

-- the one whose name comes first, by its bytes
abbrev pub earlier_of : DueSource → DueSource → DueSource
earlier_of least due = if is_lt (slice_cmp nat_cmp due.source.name least.source.name) then due else least

abbrev pub earlier_than : DueSource → Option DueSource → Option DueSource
earlier_than due None = Some due
earlier_than due (Some least) = Some (earlier_of least due)

abbrev pub earlier : Option DueSource → Option DueSource → Option DueSource
earlier least None = least
earlier least (Some due) = earlier_than due least

-- of these sources and one that was found before
abbrev pub least_due : Rows → List Waiting → ℕ → Listed → Option DueSource → List SourceAt → Option DueSource
least_due rows waiting now l least [] = least
least_due rows waiting now l least (source ∷ sources) = least_due rows waiting now l (earlier least (due_at rows waiting now l source)) sources

abbrev pub due_with : Subscription → Option DueSource → Option Due
due_with subscription None = None
due_with subscription (Some found) = Some (record { subscription = subscription; source = found.source; wants = found.wants })

-- the first source of a subscription that is due
abbrev pub due_of : Rows → List Waiting → ℕ → Listed → Option Due
due_of rows waiting now l =
    if begins_here l.subscription.kind then due_with l.subscription (least_due rows waiting now l None l.subscription.sources) else None

abbrev pub or_next : Option Due → Option Due → Option Due
or_next None next = next
or_next (Some due) next = Some due

-- the first of subscriptions
abbrev pub first_due : Rows → List Waiting → ℕ → List Listed → Option Due
first_due rows waiting now [] = None
first_due rows waiting now (l ∷ ls) = or_next (due_of rows waiting now l) (first_due rows waiting now ls)

-- the next that is due of all that are kept
abbrev pub next_due : Rows → List Waiting → ℕ → Option Due
next_due rows waiting now = first_due rows waiting now (listed rows)

-- ---- the same by rows, as they are read

abbrev pub due_of_row : Rows → List Waiting → ℕ → Row → Option Due
due_of_row rows waiting now row = option_and_then (due_of rows waiting now) (listed_of row)

abbrev pub first_of_rows : Rows → List Waiting → ℕ → List Row → Option Due
first_of_rows rows waiting now [] = None
first_of_rows rows waiting now (row ∷ more) = or_next (due_of_row rows waiting now row) (first_of_rows rows waiting now more)

-- ---- texts that are handed on hold characters that XML allows

pub record IsXmlDueSource (due : DueSource) : Type 0 where
  pub wants : IsXmlWish due.wants
  pub source : HasXmlAddress due.source

pub record IsXmlDue (due : Due) : Type 0 where
  pub wants : IsXmlWish due.wants
  pub source : HasXmlAddress due.source
  pub subscription : HasXmlTexts due.subscription
