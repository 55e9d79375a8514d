-- Which rows a call of the collector reads. Unless its store refuses the call, those that it has read are of their form.
use Rattle.std.specs.Prelude.{◌≡◌, ℕ, Bool, true, List, take, Option, Some, None, Result, Ok, Err, IfSome, OnOk, if◌then◌else◌}
use Rattle.std.specs.List.{AllByRecursion, list_all}
use Rattle.wef_batch.specs.Reach.{reach}
use Rattle.wef_batch.specs.declared.items.Batch.{Batch}
use Rattle.wef_keeper.specs.Calls.{UnlessOfStore}
use Rattle.wef_keeper.specs.Rows.{Rows}
use Rattle.wef_collector_rows.specs.Answers.{channels_read}
use Rattle.wef_collector_rows.specs.Bookmarks.{bookmark_rows}
use Rattle.wef_collector_rows.specs.Faults.{collector_store}
use Rattle.wef_collector_rows.specs.Forms.{is_formed}
use Rattle.wef_collector_rows.specs.Judged.{AreAllFormed, IsFormedAt, JudgesName}
use Rattle.wef_collector_rows.specs.Keys.{bookmark_key, boot_key, heard_key, lease_key}
use Rattle.wef_collector_rows.specs.Standing.{standing, subscription_rows}
use Rattle.wef_collector_rows.specs.declared.faults.CollectorFault.{CollectorFault}
use Rattle.wef_collector_rows.specs.declared.faults.CollectorFault.TheVariants.{TooMany}
use Rattle.wef_collector_rows.specs.declared.standings.Standing as state
use Rattle.wef_collector_rows.specs.declared.standings.Standing.TheVariants as is
use Rattle.wef_collector_reports.specs.Listing.{listed}
use Rattle.wef_collector_reports.specs.declared.listing.Listed.{Listed}
use Rattle.wef_collector_leases.specs.Judged.{JudgesNext}
use Rattle.wef_collector_leases.specs.Leases.{lease_rows}
use Rattle.wef_collector_leases.specs.Next.{next_due}
use Rattle.wef_collector_leases.specs.declared.leases.Wants.{Wants}
use Rattle.wef_collector_leases.specs.declared.leases.Wants.TheVariants.{Subscribes}
use Rattle.wef_collector_leases.specs.declared.next.Due.{Due}
use Rattle.wef_collector_leases.specs.declared.waiting.Waiting.{Waiting}
use Rattle.wef_collector.specs.Offers.{is_offered}
use Rattle.wef_collector.specs.Responses.{leasing_of}
use Rattle.wef_collector.specs.declared.responses.Leasing.{Leasing}
use Rattle.wef_collector.specs.declared.responses.Leasing.TheVariants.{Stays}
use Rattle.wef_collector.specs.declared.responses.Response.{Response}

-- a start: the boot number
abbrev pub JudgesStart : {T : Type 0} → Result T CollectorFault → Rows → Type 0
JudgesStart answer rows = UnlessOfStore collector_store answer (IsFormedAt boot_key rows)

-- the subscriptions that are counted, to see whether there is room
abbrev pub AreCountedFormed : Rows → Type 0
AreCountedFormed rows = AreAllFormed (take 256 (subscription_rows rows))

-- where an addition is refused: they were counted if there are too many
abbrev pub JudgesFull : CollectorFault → Rows → Type 0
JudgesFull TooMany rows = AreCountedFormed rows
JudgesFull _ rows = Unit {0}

-- where there is room, and where it is refused
abbrev pub JudgesRoom : {T : Type 0} → Result T CollectorFault → Rows → Type 0
JudgesRoom (Ok answer) rows = AreCountedFormed rows
JudgesRoom (Err fault) rows = JudgesFull fault rows

-- one is added: the row of its name, and then as many subscriptions as there may be
abbrev pub JudgesAdd : {T : Type 0} → Result T CollectorFault → Rows → List ℕ → Type 0
JudgesAdd answer rows u = JudgesName answer rows u × JudgesRoom answer rows

-- the bookmark of a channel, where the batch reaches it
abbrev pub IsMovedFormed : Rows → List ℕ → List ℕ → List ℕ → Option ℕ → Type 0
IsMovedFormed rows u s c None = Unit {0}
IsMovedFormed rows u s c (Some t) = IsFormedAt (bookmark_key u s c) rows

abbrev pub IsReachedFormed : Rows → List ℕ → List ℕ → Batch → List ℕ → Type 0
IsReachedFormed rows u s batch c = IsMovedFormed rows u s c (reach c batch)

-- of each of these channels
abbrev pub AreReachedFormed : Rows → List ℕ → List ℕ → Batch → List (List ℕ) → Type 0
AreReachedFormed rows u s batch channels = AllByRecursion (IsReachedFormed rows u s batch) channels

abbrev pub AreReachedBy : state.Standing → Rows → List ℕ → List ℕ → Batch → Type 0
AreReachedBy is.Unknown rows u s batch = Unit {0}
AreReachedBy (is.Ended subscription) rows u s batch = Unit {0}
AreReachedBy (is.Live subscription) rows u s batch = AreReachedFormed rows u s batch (channels_read subscription)

-- a batch is taken: the row of the subscription, and then the bookmark of each of its channels that the batch reaches, and
-- when the source was heard
abbrev pub JudgesTake : {T : Type 0} → Result T CollectorFault → Rows → List ℕ → List ℕ → Batch → Type 0
JudgesTake answer rows u s batch = JudgesName answer rows u × OnOk answer (AreReachedBy (standing rows u) rows u s batch × IsFormedAt (heard_key u s) rows)

-- a source is heard: the row of the subscription, and then when the source was heard
abbrev pub JudgesHear : {T : Type 0} → Result T CollectorFault → Rows → List ℕ → List ℕ → Type 0
JudgesHear answer rows u s = JudgesName answer rows u × OnOk answer (IsFormedAt (heard_key u s) rows)

-- the lease that an answer puts or ends
abbrev pub IsLeasingJudged : Rows → List ℕ → List ℕ → Leasing → Type 0
IsLeasingJudged rows u s Stays = Unit {0}
IsLeasingJudged rows u s _ = IsFormedAt (lease_key u s) rows

abbrev pub IsAnswerJudged : Rows → Option Waiting → Response → ℕ → Type 0
IsAnswerJudged rows None response now = Unit {0}
IsAnswerJudged rows (Some w) response now = IfSome (leasing_of response w.wants now) (IsLeasingJudged rows w.sub w.source)

-- an answer to a request that waits: the lease, where it puts or ends one
abbrev pub JudgesResponse : {T : Type 0} → Result T CollectorFault → Rows → Option Waiting → Response → ℕ → Type 0
JudgesResponse answer rows w response now = OnOk answer (IsAnswerJudged rows w response now)

-- all leases end
abbrev pub JudgesRelease : {T : Type 0} → Result T CollectorFault → Rows → Type 0
JudgesRelease answer rows = OnOk answer (AreAllFormed (lease_rows rows))

-- a source has ended its session: the row of the subscription, and then the lease
abbrev pub JudgesSourceEnded : {T : Type 0} → Result T CollectorFault → Rows → List ℕ → List ℕ → Type 0
JudgesSourceEnded answer rows u s = JudgesName answer rows u × OnOk answer (IsFormedAt (lease_key u s) rows)

-- the bookmark that a subscription goes on from
abbrev pub IsWishJudged : Rows → List ℕ → List ℕ → Wants → Type 0
IsWishJudged rows u s Subscribes = AreAllFormed (bookmark_rows rows u s)
IsWishJudged rows u s _ = Unit {0}

-- the next request: what is read to find it, and the bookmark where it subscribes
abbrev pub JudgesRequest : Rows → List Waiting → ℕ → Type 0
JudgesRequest rows waiting now = JudgesNext rows waiting now × IfSome (next_due rows waiting now) (λ (due : Due). IsWishJudged rows due.subscription.name due.source.name due.wants)

-- the bookmarks that an offer goes on from
abbrev pub is_offer_formed : Rows → List ℕ → Listed → Bool
is_offer_formed rows s l = if is_offered l then list_all is_formed (bookmark_rows rows l.subscription.name s) else true

-- a source asks: the subscriptions, and the bookmarks of each that is offered
abbrev pub AreOffersJudged : Rows → List ℕ → Type 0
AreOffersJudged rows s = AreAllFormed (subscription_rows rows) × (list_all (is_offer_formed rows s) (listed rows) ≡ true)
