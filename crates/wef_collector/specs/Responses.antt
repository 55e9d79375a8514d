-- What an answer to a request of the collector does with a lease.
use Rattle.std.specs.Prelude.{ℕ, ◌+◌, ◌≤◌, List, [], Option, Some, None, Ok, Err}
use Rattle.wef_base.specs.declared.numbers.TheConstants.{MAX}
use Rattle.wef_keeper.specs.Rows.{Rows}
use Rattle.wef_keeper.specs.declared.keys.Change.{Change}
use Rattle.wef_times.specs.declared.durations.TheConstants.{LIMIT}
use Rattle.wef_xml.specs.Good.{IsXmlText}
use Rattle.wef_collector_rows.specs.declared.faults.CollectorFault.TheVariants.{NotAsked}
use Rattle.wef_collector_leases.specs.Changes.{clear_lease, replace_lease}
use Rattle.wef_collector_leases.specs.Leases.{IsXmlLease}
use Rattle.wef_collector_leases.specs.declared.leases.Wants.{Wants}
use Rattle.wef_collector_leases.specs.declared.leases.Wants.TheVariants.{Subscribes, Renews, Unsubscribes}
use Rattle.wef_collector_leases.specs.declared.waiting.Waiting.{Waiting}
use Rattle.wef_collector.specs.Calls.{Effect}
use Rattle.wef_collector.specs.declared.responses.Answered.{Answered}
use Rattle.wef_collector.specs.declared.responses.Answered.TheVariants.{Leased, Cleared}
use Rattle.wef_collector.specs.declared.responses.Leasing.{Leasing}
use Rattle.wef_collector.specs.declared.responses.Leasing.TheVariants.{Leases, Clears, Stays}
use Rattle.wef_collector.specs.declared.responses.Response.{Response}
use Rattle.wef_collector.specs.declared.responses.Response.TheVariants.{Subscribed, Renewed, Unsubscribed, Fault}

-- An answer that can be taken: it names a session in characters that XML allows, and its time is none above the greatest duration.
abbrev pub CanBeTaken : Response → Type 0
CanBeTaken (Subscribed identifier expires) = IsXmlText identifier × (expires ≤ LIMIT)
CanBeTaken (Renewed expires) = expires ≤ LIMIT
CanBeTaken Unsubscribed = Unit {0}
CanBeTaken (Fault name) = Unit {0}

-- a lease from now on for so many milliseconds; it may end behind the greatest moment
abbrev pub leased : ℕ → ℕ → List ℕ → Leasing
leased now expires identifier = Leases (record { identifier = identifier; expiry = now + expires })

-- What an answer makes of the wish that it answers; none where it is no answer to that. What goes on does so in the session that
-- the request named, and a source that refuses to begin leaves what there is.
abbrev pub leasing_of : Response → Wants → ℕ → Option Leasing
leasing_of (Subscribed identifier expires) Subscribes now = Some (leased now expires identifier)
leasing_of (Subscribed identifier expires) _ now = None
leasing_of (Renewed expires) (Renews identifier) now = Some (leased now expires identifier)
leasing_of (Renewed expires) _ now = None
leasing_of Unsubscribed (Unsubscribes identifier) now = Some Clears
leasing_of Unsubscribed _ now = None
leasing_of (Fault name) Subscribes now = Some Stays
leasing_of (Fault name) _ now = Some Clears

abbrev pub lease_changes : Rows → List ℕ → List ℕ → Leasing → List Change
lease_changes rows u s (Leases lease) = replace_lease rows u s lease
lease_changes rows u s Clears = clear_lease rows u s
lease_changes rows u s Stays = []

abbrev pub leasing_effect : Rows → Waiting → Option Leasing → Effect
leasing_effect rows w None = Err NotAsked
leasing_effect rows w (Some leasing) = Ok (lease_changes rows w.sub w.source leasing)

-- what an answer to a request that waits does, at a moment
abbrev pub waiting_effect : Option Waiting → Response → ℕ → Rows → Effect
waiting_effect None response now rows = Err NotAsked
waiting_effect (Some w) response now rows = leasing_effect rows w (leasing_of response w.wants now)

-- what is answered to it: there is a lease from now on, or there is none any more or none yet
abbrev pub answered_of : Response → Answered
answered_of (Subscribed identifier expires) = Leased
answered_of (Renewed expires) = Leased
answered_of Unsubscribed = Cleared
answered_of (Fault name) = Cleared

-- a lease that can be kept
abbrev pub CanBeKept : Leasing → Type 0
CanBeKept (Leases lease) = IsXmlLease lease × (lease.expiry ≤ MAX)
CanBeKept Clears = Unit {0}
CanBeKept Stays = Unit {0}
