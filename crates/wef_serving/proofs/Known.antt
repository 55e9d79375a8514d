-- A connection that was served for an end was served for what is known of that end, where its answers look at nothing else.
use Rattle.std.proofs.Common.{◌⊎◌, inl, inr, ℕ, List}
use Rattle.std.specs.Prelude.{Option, Some, None}
use Rattle.wef_http.specs.declared.messages.HttpRequest.{HttpRequest}
use Rattle.wef_http_heads.specs.declared.answers.Answer.{Answer}
use Rattle.wef_http_heads.specs.declared.targets.Side.{Side}
use Rattle.wef_ports.specs.Telling.{Told}
use Rattle.wef_serving.specs.Serving.{Responds, RespondsInTurn, Serves, to_none, to_one_more}
use Rattle.wef_serving.specs.Serving.{finishes, cuts, refuses, closes, goes_on, breaks, refuses_part, answers_part, leaves}
use Rattle.wef_serving.specs.Turns.{Ends}
use Rattle.wef_serving.specs.declared.ends.ConnectionEnd.{ConnectionEnd}

module _ {S K : Type 0} (known : S → K) (side : Side) (Answers : K → HttpRequest → Answer → K → Type 0) (Leaves : K → HttpRequest → K → Type 0) where
  abbrev AnswersOf : S → HttpRequest → Answer → S → Type 0
  AnswersOf s request answer t = Answers (known s) request answer (known t)

  abbrev LeavesOf : S → HttpRequest → S → Type 0
  LeavesOf s request t = Leaves (known s) request (known t)

  left : (s : S) (request : HttpRequest) (t : S) → LeavesOf s request t ⊎ ((answer : Answer) × AnswersOf s request answer t)
      → Leaves (known s) request (known t) ⊎ ((answer : Answer) × Answers (known s) request answer (known t))
  left s request t (inl leaving) = inl leaving
  left s request t (inr (answer, answers)) = inr (answer, answers)

  serves_known : {bytes : List ℕ} {s : S} {sent : List ℕ} {t : S} {e : ConnectionEnd} → Serves side AnswersOf LeavesOf bytes s sent t e → Serves side Answers Leaves bytes (known s) sent (known t) e
  serves_known (finishes bytes s is) = finishes bytes (known s) is
  serves_known (cuts bytes s is) = cuts bytes (known s) is
  serves_known (refuses bytes s e status is told) = refuses bytes (known s) e status is told
  serves_known (closes bytes rest s t request answer is answers keep) = closes bytes rest (known s) (known t) request answer is answers keep
  serves_known (goes_on bytes rest more s t u request answer e is answers keep served) =
      goes_on bytes rest more (known s) (known t) (known u) request answer e is answers keep (serves_known served)
  serves_known (breaks bytes s e is) = breaks bytes (known s) e is
  serves_known (refuses_part bytes s e status n is told) = refuses_part bytes (known s) e status n is told
  serves_known (answers_part bytes rest s t request answer n is answers) = answers_part bytes rest (known s) (known t) request answer n is answers
  serves_known (leaves bytes rest s t request is leaving) = leaves bytes rest (known s) (known t) request is (left s request t leaving)

  responds_known : (s t : S) → Responds AnswersOf LeavesOf s t → Responds Answers Leaves (known s) (known t)
  responds_known s t (request, responds) = (request, left s request t responds)

  -- and what became of it is so of what is known of it
  pub in_turn_known : {s t : S} → RespondsInTurn AnswersOf LeavesOf s t → RespondsInTurn Answers Leaves (known s) (known t)
  in_turn_known (to_none s) = to_none (known s)
  in_turn_known (to_one_more s t u before here) = to_one_more (known s) (known t) (known u) (in_turn_known before) (responds_known t u here)

  pub ends_known : (ahead : Option (List ℕ)) (before : Told) (s : S) (now : Told) (t : S) (e : ConnectionEnd)
      → Ends side AnswersOf LeavesOf ahead before s now t e → Ends side Answers Leaves ahead before (known s) now (known t) e
  ends_known None before s now t e ends = tt
  ends_known (Some bytes) before s now t e (new, sent, served) = (new, sent, serves_known served)
