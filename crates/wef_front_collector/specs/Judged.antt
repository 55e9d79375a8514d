-- Which rows the collector read for what it says. Unless it says that its store failed, they are of their form.
use Rattle.std.specs.Prelude.{◌≡◌, ℕ, Bool, false, List, Result, OnOk}
use Rattle.wef_batch.specs.declared.items.Batch.{Batch}
use Rattle.wef_keeper.specs.Calls.{DoesWith}
use Rattle.wef_keeper.specs.Keeping.{Store}
use Rattle.wef_keeper.specs.Rows.{Rows}
use Rattle.wef_collector.specs.Calls.{Effect, hear_effect, no_effect, source_ended_effect, take_effect, unread_effect, unread_end_effect}
use Rattle.wef_collector.specs.Judged.{AreOffersJudged, JudgesHear, JudgesSourceEnded, JudgesTake}
use Rattle.wef_collector.specs.Offers.{offers}
use Rattle.wef_collector_rows.specs.Faults.{collector_store}
use Rattle.wef_collector_rows.specs.Forms.{AreFormed}
use Rattle.wef_collector_rows.specs.Judged.{JudgesName}
use Rattle.wef_collector_rows.specs.declared.faults.CollectorFault.{CollectorFault}
use Rattle.wef_front_collector.specs.Steps.{batch_said, said_with}
use Rattle.wef_front_collector.specs.declared.hearing.Asked.{Asked}
use Rattle.wef_front_collector.specs.declared.hearing.Asked.TheVariants as asked
use Rattle.wef_front_collector.specs.declared.hearing.Asked.TheVariants.{Refused, Enumerate, Unread, Take, Heartbeat, UnreadEnd}
use Rattle.wef_front_collector.specs.declared.saying.Said.{Said}
use Rattle.wef_front_collector.specs.declared.saying.Said.TheVariants.{Offers}

-- what is said is that of a call of the collector, and this is a fact of its answer and of the rows that it found
abbrev pub JudgesCall : {T : Type 0} → (T → Said) → (Rows → T) → (Rows → Effect) → (Result T CollectorFault → Rows → Type 0) → Said → Store → Store → Type 0
JudgesCall {T = T} tell gives effect Fact said before now =
    (done : Result T CollectorFault) × (said ≡ said_with tell done)
    × DoesWith collector_store AreFormed effect gives (λ answer found after. Fact answer found) done before now

-- offers: the subscriptions, and the bookmarks of each that is offered
abbrev pub JudgesOffers : List ℕ → List ℕ → Said → Store → Store → Type 0
JudgesOffers host s said before now = JudgesCall Offers (λ rows. offers rows s host) no_effect (λ answer found. OnOk answer (AreOffersJudged found s)) said before now

-- a batch that couldn't be read: the row of the subscription
abbrev pub JudgesUnread : List ℕ → Said → Store → Store → Type 0
JudgesUnread u said before now = JudgesCall (batch_said false) (λ _. tt) (λ rows. unread_effect rows u) (λ answer found. JudgesName answer found u) said before now

-- a batch: the row of the subscription, and where it is taken the bookmarks that it reaches and when the source was heard
abbrev pub JudgesBatch : List ℕ → List ℕ → Batch → ℕ → Said → Store → Store → Type 0
JudgesBatch u s batch moment said before now =
    JudgesCall (batch_said batch.ack_wanted) (λ _. tt) (λ rows. take_effect rows u s batch moment) (λ answer found. JudgesTake answer found u s batch) said before now

-- a heartbeat: the row of the subscription, and where it is heard when the source was heard before
abbrev pub JudgesHeartbeat : List ℕ → List ℕ → Bool → ℕ → Said → Store → Store → Type 0
JudgesHeartbeat u s ack moment said before now =
    JudgesCall (batch_said ack) (λ _. tt) (λ rows. hear_effect rows u s moment) (λ answer found. JudgesHear answer found u s) said before now

-- an end that couldn't be read: the row of the subscription
abbrev pub JudgesUnreadEnd : List ℕ → Said → Store → Store → Type 0
JudgesUnreadEnd u said before now = JudgesCall (batch_said false) (λ _. tt) (λ rows. unread_end_effect rows u) (λ answer found. JudgesName answer found u) said before now

-- an end: the row of the subscription, and what is kept of it at the source
abbrev pub JudgesEnd : List ℕ → List ℕ → List ℕ → Said → Store → Store → Type 0
JudgesEnd u s identifier said before now =
    JudgesCall (batch_said false) (λ _. tt) (λ rows. source_ended_effect rows u s identifier) (λ answer found. JudgesSourceEnded answer found u s) said before now

-- what was heard; where nothing that is kept decides what is said, no row is read
abbrev pub Judges : List ℕ → Asked → ℕ → Said → Store → Store → Type 0
Judges host (Refused name) moment said before now = Unit {0}
Judges host (Enumerate s) moment said before now = JudgesOffers host s said before now
Judges host (Unread u) moment said before now = JudgesUnread u said before now
Judges host (Take u s batch) moment said before now = JudgesBatch u s batch moment said before now
Judges host (Heartbeat u s ack) moment said before now = JudgesHeartbeat u s ack moment said before now
Judges host (UnreadEnd u) moment said before now = JudgesUnreadEnd u said before now
Judges host (asked.Ended u s identifier) moment said before now = JudgesEnd u s identifier said before now
