-- The faults of a collector's store are counted over a connection, and where none came no answer says so.
use Rattle.std.proofs.Common.{◌≡◌, ◌⊎◌, inl, inr, ℕ, ◌≤◌, List, ap, sym, refl, arith}
use Rattle.std.specs.Prelude.{Option, Some, None, IfSome}
use Rattle.wef_base.specs.Counts.{Rose}
use Rattle.wef_collector.specs.declared.memories.Memory.{Memory}
use Rattle.wef_collector_rows.specs.Forms.{AreFormed}
use Rattle.wef_front.proofs.Causes.{internal_errors_have_a_cause}
use Rattle.wef_front_collector.specs.Replies.{IsUnanswered}
use Rattle.wef_front_collector.specs.Steps.{HasStepped, Steps}
use Rattle.wef_front_collector.specs.declared.hearing.Asked.{Asked}
use Rattle.wef_front_collector.specs.declared.hearing.Asked.TheVariants as asks
use Rattle.wef_front_collector.specs.declared.hearing.Asked.TheVariants.{Refused, Enumerate, Unread, Take, Heartbeat, UnreadEnd}
use Rattle.wef_front_collector.specs.declared.hearing.Heard.{Heard}
use Rattle.wef_front_collector.specs.declared.saying.Said.{Said}
use Rattle.wef_http.specs.declared.messages.HttpRequest.{HttpRequest}
use Rattle.wef_http_heads.specs.declared.answers.Answer.{Answer}
use Rattle.wef_http_heads.specs.declared.targets.Side.{Side}
use Rattle.wef_keeper.specs.Keeping.{Store}
use Rattle.wef_keeper.specs.Rows.{Rows}
use Rattle.wef_serving.specs.Serving.{AnswersAt, LeavesAt}
use Rattle.wef_serving.specs.Serving.{finishes, cuts, refuses, closes, goes_on, breaks, refuses_part, answers_part, leaves}
use Rattle.wef_serving.specs.declared.ends.ConnectionEnd.{ConnectionEnd}
use Rattle.wef_collector_serving.specs.Answers.{Answers, KnownCollector, Leaves}
use Rattle.wef_collector_serving.specs.Laws.{AnswersCalmly, FaultsNeverFall, InternalErrorsRaiseFaults, ServesBy}

-- ---- one message

untouched : (before now : Store) → now ≡ before → before.faults ≤ now.faults
untouched before now is = let same : before.faults ≡ now.faults = ap (λ (s : Store). s.faults) (sym is) in omega arith

steps_count : (host : List ℕ) (asked : Asked) (moment : ℕ) (said : Said) (before now : Store) → Steps host asked moment said before now → before.faults ≤ now.faults
steps_count host (Refused name) moment said before now stepped = untouched before now stepped.1
steps_count host (Enumerate s) moment said before now stepped = stepped.1.faults
steps_count host (Unread u) moment said before now stepped = stepped.0.1.faults
steps_count host (Take u s batch) moment said before now stepped = stepped.1.faults
steps_count host (Heartbeat u s ack) moment said before now stepped = stepped.1.faults
steps_count host (UnreadEnd u) moment said before now stepped = stepped.0.1.faults
steps_count host (asks.Ended u s identifier) moment said before now stepped = stepped.1.faults

stepped_counts : (host : List ℕ) (asked : Asked) (moment : ℕ) (before now : Store) → HasStepped host asked moment before now → before.faults ≤ now.faults
stepped_counts host (Refused name) moment before now stepped = untouched before now stepped
stepped_counts host (Enumerate s) moment before now stepped = stepped.1.faults
stepped_counts host (Unread u) moment before now stepped = stepped.1.faults
stepped_counts host (Take u s batch) moment before now stepped = stepped.1.faults
stepped_counts host (Heartbeat u s ack) moment before now stepped = stepped.1.faults
stepped_counts host (UnreadEnd u) moment before now stepped = stepped.1.faults
stepped_counts host (asks.Ended u s identifier) moment before now stepped = stepped.1.faults

unanswered_counts : (host : List ℕ) (heard : Heard) (moment : ℕ) (memory memory_now : Memory) (before now : Store) → IsUnanswered host heard moment memory memory_now before now → before.faults ≤ now.faults
unanswered_counts host heard moment memory memory_now before now (inl stepped) = stepped_counts host heard.asked moment before now stepped.0
unanswered_counts host heard moment memory memory_now before now (inr unwritten) = steps_count host heard.asked moment unwritten.0 before now unwritten.1

-- ---- counts

since : (a b c : ℕ) → a ≤ b → b ≤ c → a ≤ c
since a b c first next = omega arith

first_rose : (a b c : ℕ) → b ≤ c → Rose a b → Rose a c
first_rose a b c next rose = omega arith

next_rose : (a b c : ℕ) → a ≤ b → Rose b c → Rose a c
next_rose a b c first rose = omega arith

same : (a : ℕ) → a ≤ a
same a = omega arith

-- what would raise the count of a store that never failed doesn't come
unsure : (Raised : Type 0) (rows : Option Rows) → IfSome rows (λ rows. AreFormed rows → Raised) → (Raised → ⊥) → IfSome rows (λ rows. AreFormed rows → ⊥)
unsure Raised None cause never = tt
unsure Raised (Some rows) cause never = λ formed. never (cause formed)

-- ---- connections

pub answer_counts : (moment : ℕ) (s : KnownCollector) (request : HttpRequest) (answer : Answer) (t : KnownCollector) → Answers moment s request answer t → s.store.faults ≤ t.store.faults
answer_counts moment s request answer t ((heard, hears, is), lawful) = steps_count request.host heard.asked moment is.said s.store t.store is.stepped

pub leaving_counts : (moment : ℕ) (s : KnownCollector) (request : HttpRequest) (t : KnownCollector) → Leaves moment s request t → s.store.faults ≤ t.store.faults
leaving_counts moment s request t (inl is, lawful) = let e : s.store.faults ≡ t.store.faults = ap (λ (c : KnownCollector). c.store.faults) (sym is) in omega arith
leaving_counts moment s request t (inr (heard, hears, is), lawful) = unanswered_counts request.host heard moment s.memory t.memory s.store t.store is

calm : (moment : ℕ) (s : KnownCollector) (request : HttpRequest) (answer : Answer) (t : KnownCollector)
    → Answers moment s request answer t → (Rose s.store.faults t.store.faults → ⊥) → AnswersCalmly moment s request answer t
calm moment s request answer t ((heard, hears, is), lawful) never =
    ((heard, hears, (is, λ internal. unsure (Rose s.store.faults t.store.faults) t.store.rows (internal_errors_have_a_cause request.host request.target request.charset request.charset request.body heard moment answer s.memory t.memory s.store t.store hears.0 is internal refl) never)), lawful)

module _ (side : Side) (clock : Option ℕ) where
  answered_counts : (s : KnownCollector) (request : HttpRequest) (answer : Answer) (t : KnownCollector) → AnswersAt clock Answers s request answer t → s.store.faults ≤ t.store.faults
  answered_counts s request answer t (moment, told, answers) = answer_counts moment s request answer t answers

  left_counts : (s : KnownCollector) (request : HttpRequest) (t : KnownCollector)
      → LeavesAt clock Leaves s request t ⊎ ((answer : Answer) × AnswersAt clock Answers s request answer t) → s.store.faults ≤ t.store.faults
  left_counts s request t (inl (moment, told, left)) = leaving_counts moment s request t left
  left_counts s request t (inr (answer, answers)) = answered_counts s request answer t answers

  later : {bytes : List ℕ} {s : KnownCollector} {sent : List ℕ} {t : KnownCollector} {over : ConnectionEnd}
      → ServesBy Answers side clock bytes s sent t over → s.store.faults ≤ t.store.faults
  later (finishes bytes s is) = same s.store.faults
  later (cuts bytes s is) = same s.store.faults
  later (refuses bytes s e status is told) = same s.store.faults
  later (closes bytes rest s t request answer is answers keep) = answered_counts s request answer t answers
  later (goes_on bytes rest more s t u request answer e is answers keep served) =
      since s.store.faults t.store.faults u.store.faults (answered_counts s request answer t answers) (later served)
  later (breaks bytes s e is) = same s.store.faults
  later (refuses_part bytes s e status n is told) = same s.store.faults
  later (answers_part bytes rest s t request answer n is answers) = answered_counts s request answer t answers
  later (leaves bytes rest s t request is left) = left_counts s request t left

  calm_at : (s : KnownCollector) (request : HttpRequest) (answer : Answer) (t : KnownCollector)
      → AnswersAt clock Answers s request answer t → (Rose s.store.faults t.store.faults → ⊥) → AnswersAt clock AnswersCalmly s request answer t
  calm_at s request answer t (moment, told, answers) never = (moment, told, calm moment s request answer t answers never)

  left_so : (s : KnownCollector) (request : HttpRequest) (t : KnownCollector)
      → LeavesAt clock Leaves s request t ⊎ ((answer : Answer) × AnswersAt clock Answers s request answer t) → (Rose s.store.faults t.store.faults → ⊥)
      → LeavesAt clock Leaves s request t ⊎ ((answer : Answer) × AnswersAt clock AnswersCalmly s request answer t)
  left_so s request t (inl left) never = inl left
  left_so s request t (inr (answer, answers)) never = inr (answer, calm_at s request answer t answers never)

  served_calmly : {bytes : List ℕ} {s : KnownCollector} {sent : List ℕ} {t : KnownCollector} {over : ConnectionEnd}
      → ServesBy Answers side clock bytes s sent t over → (Rose s.store.faults t.store.faults → ⊥)
      → ServesBy AnswersCalmly side clock bytes s sent t over
  served_calmly (finishes bytes s is) never = finishes bytes s is
  served_calmly (cuts bytes s is) never = cuts bytes s is
  served_calmly (refuses bytes s e status is told) never = refuses bytes s e status is told
  served_calmly (closes bytes rest s t request answer is answers keep) never = closes bytes rest s t request answer is (calm_at s request answer t answers never) keep
  served_calmly (goes_on bytes rest more s t u request answer e is answers keep served) never =
      goes_on bytes rest more s t u request answer e is
      (calm_at s request answer t answers (λ rose. never (first_rose s.store.faults t.store.faults u.store.faults (later served) rose)))
      keep
      (served_calmly served (λ rose. never (next_rose s.store.faults t.store.faults u.store.faults (answered_counts s request answer t answers) rose)))
  served_calmly (breaks bytes s e is) never = breaks bytes s e is
  served_calmly (refuses_part bytes s e status n is told) never = refuses_part bytes s e status n is told
  served_calmly (answers_part bytes rest s t request answer n is answers) never = answers_part bytes rest s t request answer n is (calm_at s request answer t answers never)
  served_calmly (leaves bytes rest s t request is left) never = leaves bytes rest s t request is (left_so s request t left never)

pub faults_never_fall : FaultsNeverFall
faults_never_fall side clock bytes s sent t over served = later side clock served

pub internal_errors_raise_faults : InternalErrorsRaiseFaults
internal_errors_raise_faults side clock bytes s sent t over served never = served_calmly side clock served never
