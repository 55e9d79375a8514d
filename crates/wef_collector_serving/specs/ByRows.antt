-- What a collector answers to the requests of a connection, by the rows that are kept, whatever its store does meanwhile.
use Rattle.std.specs.Prelude.{◌≡◌, ◌⊎◌, ℕ, ◌+◌, Bool, true, false, List, IfSome, if◌then◌else◌}
use Rattle.std.specs.List.{AllByRecursion}
use Rattle.wef_base.specs.declared.tree.Charset.{Charset}
use Rattle.wef_batch.specs.declared.items.Batch.{Batch}
use Rattle.wef_collector.specs.Laws.{IsReached}
use Rattle.wef_collector.specs.declared.memories.Memory.{Memory}
use Rattle.wef_collector_rows.specs.Forms.{AreFormed}
use Rattle.wef_collector_rows.specs.Standing.{standing}
use Rattle.wef_collector_rows.specs.declared.standings.Standing.TheVariants.{Live}
use Rattle.wef_collector_serving.specs.Answers.{Hearing, KnownCollector}
use Rattle.wef_eventing.specs.declared.subscriptions.Subscription.{Subscription}
use Rattle.wef_front_collector.specs.Replies.{answer_of, memory_after, memory_behind, rows_by}
use Rattle.wef_front_collector.specs.Steps.{effect_in, said_by}
use Rattle.wef_front_collector.specs.declared.hearing.Asked.{Asked}
use Rattle.wef_front_collector.specs.declared.hearing.Asked.TheVariants.{Take}
use Rattle.wef_front_collector.specs.declared.hearing.Heard.{Heard}
use Rattle.wef_front_collector.specs.declared.saying.Said.{Said}
use Rattle.wef_front_collector.specs.declared.saying.Said.TheVariants.{Ack, Quiet, Fault}
use Rattle.wef_http.specs.declared.messages.HttpRequest.{HttpRequest}
use Rattle.wef_http_heads.specs.declared.answers.Answer.{Answer}
use Rattle.wef_ids.specs.declared.FaultName.{FaultName}
use Rattle.wef_ids.specs.declared.FaultName.TheVariants as the
use Rattle.wef_keeper.specs.Calls.{MayLeave}
use Rattle.wef_keeper.specs.Keeping.{Store}
use Rattle.wef_keeper.specs.Rows.{Rows}

-- ---- what is kept

-- What is kept of a collector between two requests: the rows that an opening of its store finds, what it remembers, and how
-- many of its answers have said that the store failed.
pub record Kept : Type 0 where
  pub rows : Rows
  pub memory : Memory
  pub errors : ℕ

-- whatever an opening may find is of its form
abbrev pub AreGood : Store → Type 0
AreGood store = IfSome store.images (AllByRecursion AreFormed)

abbrev pub kept_of : Rows → KnownCollector → ℕ → Kept
kept_of rows collector errors = record { rows = rows; memory = collector.memory; errors = errors }

-- ---- answers

abbrev pub is_error_name : FaultName → Bool
is_error_name the.InternalError = true
is_error_name _ = false

-- whether it is said that the store failed
abbrev pub is_error : Said → Bool
is_error (Fault name) = is_error_name name
is_error _ = false

-- how many such answers it is: one or none
abbrev pub error_of : Said → ℕ
error_of said = if is_error said then 1 else 0

-- What is said to what was asked, and the rows then: what the rows give; or that the store failed, which leaves them as they were
-- or with what the message changes.
abbrev pub Goes : List ℕ → Asked → ℕ → Said → Rows → Rows → Type 0
Goes host asked moment said found left =
    ((said ≡ said_by host asked found (effect_in asked moment found)) × (left ≡ rows_by (effect_in asked moment found) found))
    ⊎ ((said ≡ Fault the.InternalError) × MayLeave (effect_in asked moment) left found)

-- A batch lies within the bookmark that the final rows keep of its source, for the subscription that stood live.
abbrev pub LiesWithin : Rows → Rows → List ℕ → List ℕ → Batch → Type 0
LiesWithin final rows u s batch = (about : Subscription) × (standing rows u ≡ Live about) × IsReached final u s about batch

-- a batch that was taken lies within it, whether its source is told so or not
abbrev pub TakenWithin : Rows → Asked → Said → Rows → Type 0
TakenWithin final (Take u s batch) Ack rows = LiesWithin final rows u s batch
TakenWithin final (Take u s batch) Quiet rows = LiesWithin final rows u s batch
TakenWithin final _ said rows = Unit {0}

-- An answer to what was heard, by the rows, of a run that leaves the final rows.
pub record IsAnsweredBy (final : Rows) (host : List ℕ) (heard : Heard) (charset : Charset) (moment : ℕ) (answer : Answer) (before now : Kept) : Type 0 where
  pub said : Said
  pub goes : Goes host heard.asked moment said before.rows now.rows
  pub written : answer ≡ answer_of before.memory.ids charset heard.relates said
  pub drawn : now.memory ≡ memory_behind before.memory said
  pub counted : now.errors ≡ error_of said + before.errors
  pub within : TakenWithin final heard.asked said before.rows

-- At a moment a collector answers a request so, by the rows that it finds, and this is kept of it then.
abbrev pub AnswersBy : Rows → ℕ → Kept → HttpRequest → Answer → Kept → Type 0
AnswersBy final moment before request answer now = Hearing request (λ heard. IsAnsweredBy final request.host heard request.charset moment answer before now)

-- There was no memory for the answer: the rows are as they were or with what the message changes, and some ids were drawn.
pub record IsLeftBy (heard : Heard) (moment : ℕ) (before now : Kept) : Type 0 where
  pub rows : MayLeave (effect_in heard.asked moment) now.rows before.rows
  pub memory : (draws : ℕ) × (now.memory ≡ memory_after draws before.memory)
  pub errors : now.errors ≡ before.errors

abbrev pub LeavesBy : ℕ → Kept → HttpRequest → Kept → Type 0
LeavesBy moment before request now = (now ≡ before) ⊎ Hearing request (λ heard. IsLeftBy heard moment before now)
