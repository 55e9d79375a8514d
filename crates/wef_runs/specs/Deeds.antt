-- What a collector does at once to the rows that stand in its store. Each deed commits once at most: so a kill leaves the rows
-- before the deed that it comes in, or those behind it.
use Rattle.std.specs.Prelude.{◌≡◌, ◌≤◌, ℕ, List, [], ◌∷◌, Option, Some}
use Rattle.wef_base.specs.declared.moments.TheConstants.{LAST_MOMENT}
use Rattle.wef_batch.specs.declared.items.Batch.{Batch}
use Rattle.wef_collector.specs.Asking.{next_request}
use Rattle.wef_collector.specs.Calls.{add_effect, end_effect}
use Rattle.wef_collector.specs.FormsStay.{IsSoundBatch}
use Rattle.wef_collector.specs.Laws.{BookmarksRise, IsReached}
use Rattle.wef_collector.specs.Responses.{waiting_effect}
use Rattle.wef_collector.specs.declared.asking.Request.{Request}
use Rattle.wef_collector.specs.declared.responses.Response.{Response}
use Rattle.wef_collector_leases.specs.declared.waiting.Waiting.{Waiting}
use Rattle.wef_collector_serving.specs.ByRows.{Goes}
use Rattle.wef_commands.specs.Adding.{IsReadAgain}
use Rattle.wef_commands.specs.Laws.{StartsAtMost}
use Rattle.wef_documents.specs.Laws.{HasKeptNames}
use Rattle.wef_eventing.specs.Addresses.{IsHost}
use Rattle.wef_eventing.specs.declared.subscriptions.Subscription.{Subscription}
use Rattle.wef_front_collector.specs.Steps.{effect_in}
use Rattle.wef_front_collector.specs.declared.hearing.Asked.{Asked}
use Rattle.wef_front_collector.specs.declared.hearing.Asked.TheVariants.{Take}
use Rattle.wef_front_collector.specs.declared.hearing.Heard.{Heard}
use Rattle.wef_front_collector.specs.declared.saying.Said.{Said}
use Rattle.wef_front_collector.specs.declared.saying.Said.TheVariants.{Ack, Quiet}
use Rattle.wef_ids.specs.declared.MessageId.{MessageId}
use Rattle.wef_ids.specs.declared.ids.Ids.{Ids}
use Rattle.wef_keeper.specs.Calls.{MayLeave}
use Rattle.wef_keeper.specs.Rows.{Rows}
use Rattle.wef_pairs.specs.Pairs.{subscription_at}
use Rattle.wef_safety.specs.Kept.{IsSaid}

-- ---- deeds

pub data Deed : Type 0 where
  -- the collector starts
  Starts : Deed
  -- a subscription is added
  Adds : Subscription → Deed
  -- the subscription of a name ends
  Ends : List ℕ → Deed
  -- a request that came to a host is heard, and this is said to it, at a moment and under an id
  Answers : (host : List ℕ) → Heard → (moment : ℕ) → (id : MessageId) → Said → Deed
  -- a request is heard, and there is no memory to answer it
  Leaves : Heard → (moment : ℕ) → Deed
  -- a request that is due at a moment is sent to its source, whose events come to a host
  Requests : (host : List ℕ) → Request → (moment : ℕ) → Deed
  -- an answer is taken, at a moment, to the request that waits for it, or to none
  Takes : Option Waiting → Response → (moment : ℕ) → Deed

-- Rows call for a request at a moment, whatever waits for its answer, and whichever ids were drawn.
abbrev pub IsDue : Rows → List ℕ → Request → ℕ → Type 0
IsDue rows host r moment = (waiting : List Waiting) × (ids : Ids) × (Some r ≡ next_request rows waiting ids host moment)

-- What a deed that is cut off leaves of rows: it leaves them, or it has made its one commit.
abbrev pub IsCut : Deed → Rows → Rows → Type 0
IsCut Starts found last = StartsAtMost found last
IsCut (Adds s) found last = MayLeave (λ rows. add_effect rows s) last found
IsCut (Ends u) found last = MayLeave (λ rows. end_effect rows u) last found
IsCut (Answers host heard moment id said) found last = MayLeave (effect_in heard.asked moment) last found
IsCut (Leaves heard moment) found last = MayLeave (effect_in heard.asked moment) last found
IsCut (Requests host r moment) found last = (last ≡ found) × IsDue found host r moment
IsCut (Takes waits answer moment) found last = MayLeave (waiting_effect waits answer moment) last found

-- What a deed leaves of rows. Of those with no answer nobody is told whether they were done.
abbrev pub Does : Deed → Rows → Rows → Type 0
Does (Answers host heard moment id said) found last = Goes host heard.asked moment said found last
Does deed found last = IsCut deed found last

-- a batch's events are those that their texts say, and its numbers are such as records have
abbrev pub IsSoundAsked : Asked → Type 0
IsSoundAsked (Take u s batch) = IsSoundBatch batch
IsSoundAsked asked = Unit {0}

-- What is so of whatever a run reads: a document has names that read back, and reads back itself; a request came to a host that an
-- address may name; a batch is sound; an answer names a session by a text without spaces at its ends, for no longer than a duration may
-- be; and clocks are before the year 10000.
abbrev pub IsRead : Deed → Type 0
IsRead (Adds s) = HasKeptNames s × IsReadAgain s
IsRead (Answers host heard moment id said) = (moment ≤ LAST_MOMENT) × IsHost host × IsSoundAsked heard.asked
IsRead (Leaves heard moment) = (moment ≤ LAST_MOMENT) × IsSoundAsked heard.asked
IsRead (Takes waits answer moment) = (moment ≤ LAST_MOMENT) × IsSaid answer
IsRead deed = Unit {0}

-- deeds are done, one after the other, each with the rows that the one before it left
abbrev pub AreDone : List Deed → Rows → Rows → Type 0
AreDone [] found last = last ≡ found
AreDone (deed ∷ deeds) found last = (mid : Rows) × Does deed found mid × AreDone deeds mid last

-- ---- what is kept

-- A batch lies within what rows keep of its source: its subscription is there, live or ended, and the bookmark of each channel that
-- this reads is no lower than the batch reads it.
pub record IsWithin (rows : Rows) (u s : List ℕ) (batch : Batch) : Type 0 where
  pub about : Subscription
  pub known : subscription_at rows u ≡ Some about
  pub reached : IsReached rows u s about batch

-- a batch that was taken lies within rows, whether it was acknowledged or its source wanted no word
abbrev pub TakenIsWithin : Rows → Asked → Said → Type 0
TakenIsWithin rows (Take u s batch) Ack = IsWithin rows u s batch
TakenIsWithin rows (Take u s batch) Quiet = IsWithin rows u s batch
TakenIsWithin rows asked said = Unit {0}

-- so it is with what a deed took
abbrev pub Keeps : Rows → Deed → Type 0
Keeps rows (Answers host heard moment id said) = TakenIsWithin rows heard.asked said
Keeps rows deed = Unit {0}

-- Of the rows before, the rows behind have forgotten no subscription, and no bookmark is lower.
pub record Stay (found last : Rows) : Type 0 where
  pub known : (u : List ℕ) (about : Subscription) → subscription_at found u ≡ Some about → subscription_at last u ≡ Some about
  pub rises : BookmarksRise found last
