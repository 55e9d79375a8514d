-- What the calls of the collector answer, by its rows as the call begins.
use Rattle.std.specs.Prelude.{◌≡◌, ℕ, Bool, true, false, List, Option, is_some, IfSome}
use Rattle.std.specs.FinMap as map
use Rattle.wef_documents.specs.Written.{document_text}
use Rattle.wef_eventing.specs.declared.subscriptions.Subscription.{Subscription}
use Rattle.wef_keeper.specs.Rows.{Rows}
use Rattle.wef_query.specs.Selected as selected
use Rattle.wef_collector_rows.specs.Keys.{subscription_key}
use Rattle.wef_collector_rows.specs.Standing.{kept_body, standing}
use Rattle.wef_collector_rows.specs.declared.faults.CollectorFault as fault
use Rattle.wef_collector_rows.specs.declared.faults.CollectorFault.TheVariants as faults
use Rattle.wef_collector_rows.specs.declared.standings.Standing as state
use Rattle.wef_collector_rows.specs.declared.standings.Standing.TheVariants as is

-- whether a name is that of a subscription, ended or not
abbrev pub is_there : Rows → List ℕ → Bool
is_there rows u = is_some (map.get rows (subscription_key u))

-- the rows with a live subscription more
abbrev pub added_rows : Rows → Subscription → Rows
added_rows rows s = map.insert rows (subscription_key s.name) (record { value = 0; body = document_text s })

-- the rows with a subscription ended
abbrev pub ended_rows : Rows → List ℕ → Rows
ended_rows rows u = map.insert rows (subscription_key u) (record { value = 1; body = kept_body (map.get rows (subscription_key u)) })

-- the channels that a subscription reads, each once, in the order of names
abbrev pub channels_read : Subscription → List (List ℕ)
channels_read s = selected.channels_of s.query.items

-- a subscription that was ended
abbrev pub IsEnded : state.Standing → Type 0
IsEnded is.Unknown = ⊥
IsEnded (is.Ended s) = Unit {0}
IsEnded (is.Live s) = ⊥

-- whether a subscription has the name, ended or not
abbrev pub is_known : state.Standing → Bool
is_known is.Unknown = false
is_known (is.Ended s) = true
is_known (is.Live s) = true

-- Want of memory and a failed store may come at any time. `NoSubscription` comes exactly where no subscription has the
-- name, `Ended` exactly where it has ended, by the rows where they are told.
abbrev pub RefusesName : fault.CollectorFault → Option Rows → List ℕ → Type 0
RefusesName faults.NoMemory told u = Unit {0}
RefusesName faults.Failed told u = Unit {0}
RefusesName faults.NoSubscription told u = IfSome told (λ rows. standing rows u ≡ is.Unknown)
RefusesName faults.Ended told u = IfSome told (λ rows. IsEnded (standing rows u))
RefusesName _ told u = ⊥

-- `NoSubscription` comes exactly where no subscription has the name.
abbrev pub RefusesUnknown : fault.CollectorFault → Option Rows → List ℕ → Type 0
RefusesUnknown faults.NoMemory told u = Unit {0}
RefusesUnknown faults.Failed told u = Unit {0}
RefusesUnknown faults.NoSubscription told u = IfSome told (λ rows. is_known (standing rows u) ≡ false)
RefusesUnknown _ told u = ⊥

-- want of memory or a failed store, and nothing else
abbrev pub IsOfStore : fault.CollectorFault → Type 0
IsOfStore faults.NoMemory = Unit {0}
IsOfStore faults.Failed = Unit {0}
IsOfStore _ = ⊥
