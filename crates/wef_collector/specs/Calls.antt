-- What the collector's calls do: what a call commits or why it is refused, by the rows that its opening found.
use Rattle.std.specs.Prelude.{ℕ, ◌+◌, nat_lt, List, [], ◌∷◌, Ok, Err, if◌then◌else◌}
use Rattle.std.specs.FinMap as map
use Rattle.wef_base.specs.declared.numbers.TheConstants.{MAX}
use Rattle.wef_batch.specs.WellFormed.{is_well_formed}
use Rattle.wef_batch.specs.declared.items.Batch.{Batch}
use Rattle.wef_documents.specs.Written.{document_text}
use Rattle.wef_eventing.specs.declared.subscriptions.Subscription.{Subscription}
use Rattle.wef_keeper.specs.Calls as keeper
use Rattle.wef_keeper.specs.Rows.{Rows}
use Rattle.wef_keeper.specs.declared.keys.Change.{Change}
use Rattle.wef_collector_rows.specs.Answers.{IsOfStore, channels_read, is_known, is_there}
use Rattle.wef_collector_leases.specs.Changes.{end_lease, release_changes}
use Rattle.wef_collector.specs.Boots.{boot_of}
use Rattle.wef_collector_rows.specs.Keys.{boot_key, subscription_key}
use Rattle.wef_collector_rows.specs.Standing.{is_full, kept_body, standing}
use Rattle.wef_collector.specs.Taken.{batch_changes, heard_changes, put}
use Rattle.wef_collector_rows.specs.declared.faults.CollectorFault.{CollectorFault}
use Rattle.wef_collector_rows.specs.declared.faults.CollectorFault.TheVariants.{NoSubscription, Exists, Ended, NotWellFormed, NotAsked, TooMany, Full}
use Rattle.wef_collector_rows.specs.declared.standings.Standing as state
use Rattle.wef_collector_rows.specs.declared.standings.Standing.TheVariants as is

-- what a call of the collector does: the changes that it commits, or why it is refused
abbrev pub Effect : Type 0
Effect = keeper.Effect CollectorFault

-- a call that only reads
abbrev pub no_effect : Rows → Effect
no_effect rows = Ok []

-- a subscription more, where its name isn't there and there is room
abbrev pub add_effect : Rows → Subscription → Effect
add_effect rows s =
    if is_there rows s.name then Err Exists else
    if is_full rows then Err TooMany else
    Ok (put (subscription_key s.name) 0 (document_text s) ∷ [])

-- the change that ends a subscription: its document stays
abbrev pub ended : Rows → List ℕ → List Change
ended rows u = put (subscription_key u) 1 (kept_body (map.get rows (subscription_key u))) ∷ []

abbrev pub end_by : state.Standing → Rows → List ℕ → Effect
end_by is.Unknown rows u = Err NoSubscription
end_by (is.Ended s) rows u = Err Ended
end_by (is.Live s) rows u = Ok (ended rows u)

-- a live subscription ends
abbrev pub end_effect : Rows → List ℕ → Effect
end_effect rows u = end_by (standing rows u) rows u

abbrev pub take_by : state.Standing → Rows → List ℕ → List ℕ → Batch → ℕ → Effect
take_by is.Unknown rows u s batch now = Err NoSubscription
take_by (is.Ended subscription) rows u s batch now = Err Ended
take_by (is.Live subscription) rows u s batch now =
    if is_well_formed (channels_read subscription) batch
    then Ok (batch_changes rows u s (channels_read subscription) batch now)
    else Err NotWellFormed

-- a batch that is well-formed for a live subscription's channels is taken
abbrev pub take_effect : Rows → List ℕ → List ℕ → Batch → ℕ → Effect
take_effect rows u s batch now = take_by (standing rows u) rows u s batch now

abbrev pub unread_by : state.Standing → Effect
unread_by is.Unknown = Err NoSubscription
unread_by (is.Ended subscription) = Err Ended
unread_by (is.Live subscription) = Err NotWellFormed

-- a batch that couldn't be read is refused as one that isn't well-formed
abbrev pub unread_effect : Rows → List ℕ → Effect
unread_effect rows u = unread_by (standing rows u)

abbrev pub hear_by : state.Standing → Rows → List ℕ → List ℕ → ℕ → Effect
hear_by is.Unknown rows u s now = Err NoSubscription
hear_by (is.Ended subscription) rows u s now = Err Ended
hear_by (is.Live subscription) rows u s now = Ok (heard_changes rows u s now)

-- a source of a live subscription was heard at a moment
abbrev pub hear_effect : Rows → List ℕ → List ℕ → ℕ → Effect
hear_effect rows u s now = hear_by (standing rows u) rows u s now

-- all leases end
abbrev pub release_effect : Rows → Effect
release_effect rows = Ok (release_changes rows)

-- the lease of a source ends that names its session so; also where the subscription has ended
abbrev pub source_ended_effect : Rows → List ℕ → List ℕ → List ℕ → Effect
source_ended_effect rows u s identifier = if is_known (standing rows u) then Ok (end_lease rows u s identifier) else Err NoSubscription

-- the end of a session that couldn't be read is refused as one that isn't well-formed
abbrev pub unread_end_effect : Rows → List ℕ → Effect
unread_end_effect rows u = if is_known (standing rows u) then Err NotWellFormed else Err NoSubscription

-- the boot number rises by one, below the greatest
abbrev pub boot_effect : Rows → Effect
boot_effect rows =
    if nat_lt (boot_of rows) MAX then Ok (put boot_key (boot_of rows + 1) [] ∷ []) else Err Full

-- the refusals that there are at all of each call
abbrev pub OfStart : CollectorFault → Type 0
OfStart Full = Unit {0}
OfStart fault = IsOfStore fault

abbrev pub OfAdd : CollectorFault → Type 0
OfAdd Exists = Unit {0}
OfAdd TooMany = Unit {0}
OfAdd fault = IsOfStore fault

abbrev pub OfEnd : CollectorFault → Type 0
OfEnd NoSubscription = Unit {0}
OfEnd Ended = Unit {0}
OfEnd fault = IsOfStore fault

abbrev pub OfTake : CollectorFault → Type 0
OfTake NotWellFormed = Unit {0}
OfTake fault = OfEnd fault

abbrev pub OfKnown : CollectorFault → Type 0
OfKnown NoSubscription = Unit {0}
OfKnown fault = IsOfStore fault

abbrev pub OfUnreadEnd : CollectorFault → Type 0
OfUnreadEnd NotWellFormed = Unit {0}
OfUnreadEnd fault = OfKnown fault

abbrev pub OfResponse : CollectorFault → Type 0
OfResponse NotAsked = Unit {0}
OfResponse fault = IsOfStore fault
