-- How much is left to be sent of a session, and how much to be requested: what each turn of settling that goes on makes less.
use Rattle.std.specs.Prelude.{ℕ, ◌+◌, ◌-◌, ◌*◌, Bool, List, [], ◌∷◌, length, map, is_some, Option, Some, None, if◌then◌else◌}
use Rattle.std.specs.List.{filter, flat_map}
use Rattle.std.specs.Ordering.{is_lt}
use Rattle.wef_bookmark.specs.Order.{Marks, number_at}
use Rattle.wef_building.specs.Building.{session_channels}
use Rattle.wef_building.specs.declared.sessions.Session.{Session}
use Rattle.wef_collector.specs.declared.memories.Memory.{Memory}
use Rattle.wef_collector_leases.specs.Next.{begins_here, due_at}
use Rattle.wef_collector_leases.specs.Waiting.{pair_cmp}
use Rattle.wef_collector_leases.specs.declared.waiting.Waiting.{Waiting}
use Rattle.wef_collector_leases.specs.declared.leases.Wants.TheVariants.{Subscribes}
use Rattle.wef_collector_reports.specs.Listing.{listed}
use Rattle.wef_collector_reports.specs.declared.listing.Listed.{Listed}
use Rattle.wef_eventing.specs.declared.subscriptions.SourceAt.{SourceAt}
use Rattle.wef_keeper.specs.Rows.{Rows}
use Rattle.wef_machine.specs.States.{Slot, State, slot_of}
use Rattle.wef_source.specs.Machine.{End}
use Rattle.wef_source.specs.Sessions.{session_of}
use Rattle.wef_source_log.specs.LogWindow.{last_of}

-- ---- what a session has still to read

-- how many numbers of these channels lie above where they were read
abbrev pub lag_in : Rows → Marks → List (List ℕ) → ℕ
lag_in rows positions [] = 0
lag_in rows positions (c ∷ cs) = (last_of rows c - number_at positions c) + lag_in rows positions cs

abbrev pub session_lag : Rows → Option Session → ℕ
session_lag rows None = 0
session_lag rows (Some session) = lag_in rows session.positions (session_channels session)

abbrev pub lag_where_runs : Rows → List ℕ → Option End → ℕ
lag_where_runs rows u None = 0
lag_where_runs rows u (Some end) = session_lag rows (session_of end.sessions u)

abbrev pub lag_by : List ℕ → Option Slot → ℕ
lag_by u None = 0
lag_by u (Some slot) = lag_where_runs slot.place.rows u slot.place.memory

-- of a source's session of a name; nothing where there is none
abbrev pub lag_of : List ℕ → List ℕ → State → ℕ
lag_of s u state = lag_by u (slot_of state s)

-- ---- what the collector has still to request

-- a subscription, and a source at which the collector begins it
abbrev pub Pair : Type 0
Pair = Listed × SourceAt

abbrev pub pair_with : Listed → SourceAt → Pair
pair_with l source = (l, source)

abbrev pub pairs_of : Listed → List Pair
pairs_of l = if begins_here l.subscription.kind then map (pair_with l) l.subscription.sources else []

abbrev pub pairs : Rows → List Pair
pairs rows = flat_map pairs_of (listed rows)

-- whether a request is due for a pair, for which none waits
abbrev pub is_pair_due : Rows → List Waiting → ℕ → Pair → Bool
is_pair_due rows waiting now pair = is_some (due_at rows waiting now pair.0 pair.1)

abbrev pub due_pairs : Rows → List Waiting → ℕ → ℕ
due_pairs rows waiting now = length (filter (is_pair_due rows waiting now) (pairs rows))

-- a request for a pair as it would wait, and whether its place is behind that of another
abbrev pub place_of : Pair → Waiting
place_of pair = record { sub = pair.0.subscription.name; source = pair.1.name; id = 0; wants = Subscribes }

abbrev pub is_behind : Waiting → Pair → Bool
is_behind w pair = is_lt (pair_cmp w (place_of pair))

-- how many pairs are behind a request that waits, and how many are so in all
abbrev pub pairs_behind : Rows → Waiting → ℕ
pairs_behind rows w = length (filter (is_behind w) (pairs rows))

abbrev pub all_behind : Rows → List Waiting → ℕ
all_behind rows [] = 0
all_behind rows (w ∷ ws) = pairs_behind rows w + all_behind rows ws

-- A request is answered, and then one less is due; but where the collector's ids are used up the answer may be taken for that of one
-- that waited before, of the same id: then another waits in its place, which is further behind.
abbrev pub left_by : Rows → List Waiting → ℕ → ℕ
left_by rows waiting now = all_behind rows waiting * (length (pairs rows) + 1) + due_pairs rows waiting now

abbrev pub waiting_in : Option Memory → List Waiting
waiting_in None = []
waiting_in (Some memory) = memory.waiting

abbrev pub requests_left : State → ℕ
requests_left state = left_by state.collector.rows (waiting_in state.collector.memory) state.moment
