-- What the answers of a connection are, by how often the collector's store failed in it.
use Rattle.std.specs.Prelude.{◌≡◌, ℕ, ◌+◌, ◌<◌, ◌≤◌, true, List, Option, IfSome}
use Rattle.wef_base.specs.Counts.{Rose}
use Rattle.wef_collector.specs.Laws.{BookmarksRise}
use Rattle.wef_collector_rows.specs.Forms.{AreFormed}
use Rattle.wef_collector_serving.specs.Answers.{Answers, AnswersHeard, AnswersInTurn, Hearing, KnownCollector, Leaves}
use Rattle.wef_collector_serving.specs.ByRows.{AnswersBy, AreGood, LeavesBy, kept_of}
use Rattle.wef_front_collector.specs.declared.saying.Said.TheVariants.{Fault}
use Rattle.wef_http.specs.declared.messages.HttpRequest.{HttpRequest}
use Rattle.wef_http_heads.specs.declared.answers.Answer.{Answer}
use Rattle.wef_http_heads.specs.declared.targets.Side.{Side}
use Rattle.wef_ids.specs.declared.FaultName.TheVariants.{InternalError}
use Rattle.wef_keeper.specs.Keeping.{IsLawful, MayFind, Store}
use Rattle.wef_keeper.specs.Rows.{Rows}
use Rattle.wef_serving.specs.Serving.{AnswersAt, LeavesAt, RespondsInTurn, Serves}
use Rattle.wef_serving.specs.declared.ends.ConnectionEnd.{ConnectionEnd}

-- rows that aren't told, or aren't of their form
abbrev pub AreUnsure : Store → Type 0
AreUnsure now = IfSome now.rows (λ rows. AreFormed rows → ⊥)

-- an answer that says that the store failed only where rows aren't told, or aren't of their form
abbrev pub AnswersCalmly : ℕ → KnownCollector → HttpRequest → Answer → KnownCollector → Type 0
AnswersCalmly moment before request answer now =
    Hearing request (λ heard. (is : AnswersHeard moment before request answer now heard) × (is.said ≡ Fault InternalError → AreUnsure now.store)) × IsLawful now.store

-- a connection that was served with such answers, at the moments that a clock tells
abbrev pub ServesBy : (ℕ → KnownCollector → HttpRequest → Answer → KnownCollector → Type 0)
    → Side → Option ℕ → List ℕ → KnownCollector → List ℕ → KnownCollector → ConnectionEnd → Type 0
ServesBy Says side clock bytes s sent t over = Serves side (AnswersAt clock Says) (LeavesAt clock Leaves) bytes s sent t over

-- Over a connection that is served for a collector, the count of its store's faults never falls.
abbrev pub FaultsNeverFall : Type 0
FaultsNeverFall =
    (side : Side) (clock : Option ℕ) (bytes : List ℕ) (s : KnownCollector) (sent : List ℕ) (t : KnownCollector) (over : ConnectionEnd) →
    ServesBy Answers side clock bytes s sent t over → s.store.faults ≤ t.store.faults

-- Where it doesn't rise, no answer in that connection says that the store failed, as far as rows are told and of their form.
abbrev pub InternalErrorsRaiseFaults : Type 0
InternalErrorsRaiseFaults =
    (side : Side) (clock : Option ℕ) (bytes : List ℕ) (s : KnownCollector) (sent : List ℕ) (t : KnownCollector) (over : ConnectionEnd) →
    ServesBy Answers side clock bytes s sent t over → (Rose s.store.faults t.store.faults → ⊥) → ServesBy AnswersCalmly side clock bytes s sent t over

-- ---- by rows

-- What holds of a collector whose store was opened, over requests: rows of their form stay so, and where they are, no more answers say
-- that the store failed than its faults were counted, as far as these can be.
pub record AreCounted (s t : KnownCollector) (errors : ℕ) : Type 0 where
  pub opened : t.store.opened ≡ true
  pub good : AreGood s.store → AreGood t.store
  pub counted : AreGood s.store → t.store.faults < 18446744073709551615 → s.store.faults + errors ≤ t.store.faults

-- A connection that was served for a collector, over rows: from any of those that an opening may find behind it, back to those that
-- stood before it. Each request got the answer that the rows give, as those before it left them, or, where the store failed, one
-- that says so; and each batch that was taken lies within the bookmark of the final rows, in which no bookmark is lower than behind it.
pub record IsServedOver (side : Side) (clock : Option ℕ) (bytes : List ℕ) (s : KnownCollector) (sent : List ℕ) (t : KnownCollector) (over : ConnectionEnd) (final last : Rows) : Type 0 where
  pub first : Rows
  pub found : MayFind s.store first
  -- how many answers say that the store failed
  pub errors : ℕ
  pub serves : (before : ℕ) → Serves side (AnswersAt clock (AnswersBy final)) (LeavesAt clock LeavesBy) bytes (kept_of first s before) sent (kept_of last t (errors + before)) over
  pub counts : AreCounted s t errors
  pub rises : BookmarksRise first last

abbrev pub ConnectionsGoByRows : Type 0
ConnectionsGoByRows =
    (side : Side) (clock : Option ℕ) (bytes : List ℕ) (s : KnownCollector) (sent : List ℕ) (t : KnownCollector) (over : ConnectionEnd) (final last : Rows) →
    ServesBy Answers side clock bytes s sent t over → s.store.opened ≡ true → MayFind t.store last → BookmarksRise last final → IsServedOver side clock bytes s sent t over final last

-- The same of requests that were answered one after the other, whatever the bytes that they came in.
pub record AreAnsweredOver (clock : Option ℕ) (s t : KnownCollector) (final last : Rows) : Type 0 where
  pub first : Rows
  pub found : MayFind s.store first
  pub errors : ℕ
  pub answers : (before : ℕ) → RespondsInTurn (AnswersAt clock (AnswersBy final)) (LeavesAt clock LeavesBy) (kept_of first s before) (kept_of last t (errors + before))
  pub counts : AreCounted s t errors
  pub rises : BookmarksRise first last

abbrev pub RequestsGoByRows : Type 0
RequestsGoByRows =
    (clock : Option ℕ) (s t : KnownCollector) (final last : Rows) →
    AnswersInTurn clock s t → s.store.opened ≡ true → MayFind t.store last → BookmarksRise last final → AreAnsweredOver clock s t final last
