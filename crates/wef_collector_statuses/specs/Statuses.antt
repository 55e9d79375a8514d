-- Which sources of a subscription are silent, as text: a line for each that was heard or that the subscription lists, in the order
-- of their names,
--     status U S active
-- or `inactive`, or `never`. Names are printed percent-encoded.
use Rattle.std.specs.Prelude.{◌≡◌, ℕ, List, [], ◌∷◌, ◌++◌, map, Option, Some, None, codes}
use Rattle.std.specs.FinMap as finite
use Rattle.std.specs.List.{flat_map}
use Rattle.std.specs.Option.{option_map}
use Rattle.wef_base.specs.Printed.{printed}
use Rattle.wef_eventing.specs.declared.subscriptions.SourceAt.{SourceAt}
use Rattle.wef_eventing.specs.declared.subscriptions.Subscription.{Subscription}
use Rattle.wef_heartbeat.specs.Silence.{status_of}
use Rattle.wef_heartbeat.specs.declared.silence.Status.{Status}
use Rattle.wef_heartbeat.specs.declared.silence.Status.TheVariants.{Active, Inactive, Never}
use Rattle.wef_keeper.specs.Rows.{Rows}
use Rattle.wef_keeper.specs.declared.keys.Cell.{Cell}
use Rattle.wef_keeper.specs.declared.keys.Row.{Row}
use Rattle.wef_query.specs.Order.{in_order}
use Rattle.wef_collector_reports.specs.Report.{heard_rows}
use Rattle.wef_collector_rows.specs.Keys.{heard_key}
use Rattle.wef_collector_rows.specs.Standing.{standing}
use Rattle.wef_collector_rows.specs.declared.standings.Standing as state
use Rattle.wef_collector_rows.specs.declared.standings.Standing.TheVariants as is

abbrev pub status_word : Status → List ℕ
status_word Active = codes "active"
status_word Inactive = codes "inactive"
status_word Never = codes "never"

-- `status U S WORD`
unfoldable pub status_line : List ℕ → List ℕ → Status → List ℕ
status_line u s status = codes "status " ++ printed u ++ 32 ∷ printed s ++ 32 ∷ status_word status ++ 10 ∷ []

-- the moment at which a source was heard last, if it was at all
abbrev pub heard_at : Rows → List ℕ → List ℕ → Option ℕ
heard_at rows u s = option_map (λ (cell : Cell). cell.value) (finite.get rows (heard_key u s))

-- the sources of a subscription that were heard, and those that it lists, each once, in the order of names
abbrev pub sources_told : Rows → Subscription → List ℕ → List (List ℕ)
sources_told rows about u = in_order (map (λ (row : Row). row.key.source) (heard_rows rows u) ++ map (λ (at : SourceAt). at.name) about.sources)

-- the line of a source at a moment: it has to be heard at least once in each interval of two
abbrev pub source_status : Rows → Subscription → List ℕ → ℕ → List ℕ → List ℕ
source_status rows about u now s = status_line u s (status_of (heard_at rows u s) about.heartbeat now)

-- the lines of a subscription
abbrev pub statuses_of : Rows → Subscription → List ℕ → ℕ → List ℕ
statuses_of rows about u now = flat_map (source_status rows about u now) (sources_told rows about u)

abbrev pub statuses_by : Rows → List ℕ → ℕ → state.Standing → List ℕ
statuses_by rows u now is.Unknown = []
statuses_by rows u now (is.Ended about) = statuses_of rows about u now
statuses_by rows u now (is.Live about) = statuses_of rows about u now

-- a subscription is the one that stands, live or ended
abbrev pub IsAbout : Subscription → state.Standing → Type 0
IsAbout about is.Unknown = ⊥
IsAbout about (is.Ended subscription) = about ≡ subscription
IsAbout about (is.Live subscription) = about ≡ subscription

-- those of the subscription of a name at a moment, live or ended
abbrev pub statuses : Rows → List ℕ → ℕ → List ℕ
statuses rows u now = statuses_by rows u now (standing rows u)
