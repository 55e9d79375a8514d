-- Connections of the same bytes over rows that are alike are served alike, whatever the clocks tell.
use Rattle.std.proofs.Common.{◌≡◌, ◌⊎◌, inl, inr, ℕ, ◌+◌, ◌≤◌, true, false, List, [], ◌++◌, ap, sym, refl, subst, ◌∙◌, append_assoc, append-nil, arith}
use Rattle.std.proofs.lemmas.Option.{none-some}
use Rattle.std.specs.Prelude.{Option, Some, None}
use Rattle.wef_http.proofs.OneMessage.{only_request}
use Rattle.wef_http.specs.Laws.{IsChoice, IsOneReason}
use Rattle.wef_http.specs.Messages.{IsRequest, RefusesRequest}
use Rattle.wef_http.specs.declared.messages.HttpRequest.{HttpRequest}
use Rattle.wef_http_heads.specs.Laws.{IsByBytes}
use Rattle.wef_http_heads.specs.Statuses.{refusal}
use Rattle.wef_http_heads.specs.declared.answers.Answer.{Answer}
use Rattle.wef_http_heads.specs.declared.ends.HttpEnd.{HttpEnd}
use Rattle.wef_http_heads.specs.declared.ends.HttpEnd.TheVariants as http
use Rattle.wef_http_heads.specs.declared.targets.Side.{Side}
use Rattle.wef_keeper.specs.Rows.{Rows}
use Rattle.wef_serving.specs.Serving.{AnswersAt, IsBroken, LeavesAt, RespondsInTurn, Serves, ending, ending_of, refusal_with, response_to}
use Rattle.wef_serving.specs.Serving.{finishes, cuts, refuses, closes, goes_on, breaks, refuses_part, answers_part, leaves, to_none, to_one_more}
use Rattle.wef_serving.specs.declared.ends.ConnectionEnd.{ConnectionEnd}
use Rattle.wef_serving.specs.declared.ends.ConnectionEnd.TheVariants as over
use Rattle.wef_collector_serving.proofs.AlikeAnswers.{AreAnsweredAlike, answered_alike}
use Rattle.wef_collector_serving.specs.ByRows.{AnswersBy, Kept, LeavesBy, error_of}
use Rattle.wef_collector_serving.specs.Clocks.{AreAlike, AreServedAlike, ClocksDecideNothingElse, IsRefusedOrCut, IsSameOutcome, Outcome}
use Rattle.wef_collector_serving.specs.Clocks.{all_left, left_behind}

-- ---- how a connection begins that doesn't break

-- what is sent where no request is read
abbrev sent_for : Option ℕ → List ℕ
sent_for (Some status) = refusal_with status
sent_for None = []

-- It begins with no request.
record BeginsWithNone {S : Type 0} (side : Side) (bytes : List ℕ) (s : S) (sent : List ℕ) (t : S) (e : ConnectionEnd) : Type 0 where
  why : HttpEnd
  by_bytes : IsByBytes why
  refused : RefusesRequest side bytes why
  unchanged : t ≡ s
  is_sent : sent ≡ sent_for (refusal why)
  ends : e ≡ ending why

-- It begins with a request that is answered.
record BeginsWithOne {S : Type 0} (side : Side) (A : S → HttpRequest → Answer → S → Type 0) (L : S → HttpRequest → S → Type 0) (bytes : List ℕ) (s : S) (sent : List ℕ) (t : S) (e : ConnectionEnd) : Type 0 where
  request : HttpRequest
  rest : List ℕ
  answer : Answer
  mid : S
  more : List ℕ
  is : IsRequest side bytes request rest
  answers : A s request answer mid
  is_sent : sent ≡ response_to request answer ++ more
  -- nothing follows it, or what follows is served
  follows : ((request.keep ≡ false) × (more ≡ []) × (t ≡ mid) × (e ≡ over.Closed)) ⊎ ((request.keep ≡ true) × Serves side A L rest mid more t e)

told_by_bytes : (e : HttpEnd) (status : ℕ) → refusal e ≡ Some status → IsByBytes e
told_by_bytes e status told = (λ is. none-some status (sym (ap refusal is) ∙ told), λ is. none-some status (sym (ap refusal is) ∙ told))

module _ {S : Type 0} (side : Side) (A : S → HttpRequest → Answer → S → Type 0) (L : S → HttpRequest → S → Type 0) where
  begins : {bytes : List ℕ} {s : S} {sent : List ℕ} {t : S} {e : ConnectionEnd} → Serves side A L bytes s sent t e → (IsBroken e → ⊥) → BeginsWithNone side bytes s sent t e ⊎ BeginsWithOne side A L bytes s sent t e
  begins (finishes bytes s is) whole = inl (record { why = http.End; by_bytes = (λ e. cc, λ e. cc); refused = is; unchanged = refl; is_sent = refl; ends = refl })
  begins (cuts bytes s is) whole = inl (record { why = http.Cut; by_bytes = (λ e. cc, λ e. cc); refused = is; unchanged = refl; is_sent = refl; ends = refl })
  begins (refuses bytes s e status is told) whole =
      inl (record { why = e; by_bytes = told_by_bytes e status told; refused = is; unchanged = refl; is_sent = ap sent_for (sym told); ends = ap (λ (o : Option ℕ). ending_of o e) (sym told) })
  begins (closes bytes rest s t request answer is answers keep) whole =
      inr (record { request = request; rest = rest; answer = answer; mid = t; more = []; is = is; answers = answers; is_sent = sym (append-nil (response_to request answer)); follows = inl (keep, refl, refl, refl) })
  begins (goes_on bytes rest more s t u request answer e is answers keep served) whole =
      inr (record { request = request; rest = rest; answer = answer; mid = t; more = more; is = is; answers = answers; is_sent = refl; follows = inr (keep, served) })
  begins (breaks bytes s e broken) whole = absurd (whole broken)
  begins (refuses_part bytes s e status n is told) whole = absurd (whole tt)
  begins (answers_part bytes rest s t request answer n is answers) whole = absurd (whole tt)
  begins (leaves bytes rest s t request is left) whole = absurd (whole tt)

-- ---- how often the store is said to have failed

raised : (errors before now : ℕ) → now ≡ errors + before → before ≤ now
raised errors before now counted = omega arith

unraised : (before now : ℕ) → now ≡ before → before ≤ now
unraised before now same = omega arith

module _ (side : Side) (clock : Option ℕ) (final : Rows) where
  answer_raises : (s : Kept) (request : HttpRequest) (answer : Answer) (t : Kept) → AnswersAt clock (AnswersBy final) s request answer t → s.errors ≤ t.errors
  answer_raises s request answer t (moment, told, (heard, hears, is)) = raised (error_of is.said) s.errors t.errors is.counted

  leaving_raises : (s : Kept) (request : HttpRequest) (t : Kept) → LeavesAt clock LeavesBy s request t ⊎ ((answer : Answer) × AnswersAt clock (AnswersBy final) s request answer t) → s.errors ≤ t.errors
  leaving_raises s request t (inl (moment, told, inl same)) = unraised s.errors t.errors (ap (λ (k : Kept). k.errors) same)
  leaving_raises s request t (inl (moment, told, inr (heard, hears, is))) = unraised s.errors t.errors is.errors
  leaving_raises s request t (inr (answer, answers)) = answer_raises s request answer t answers

  -- it is said no less often in more answers
  pub errors_rise : {bytes : List ℕ} {s : Kept} {sent : List ℕ} {t : Kept} {e : ConnectionEnd} → Serves side (AnswersAt clock (AnswersBy final)) (LeavesAt clock LeavesBy) bytes s sent t e → s.errors ≤ t.errors
  errors_rise (finishes bytes s is) = unraised s.errors s.errors refl
  errors_rise (cuts bytes s is) = unraised s.errors s.errors refl
  errors_rise (refuses bytes s e status is told) = unraised s.errors s.errors refl
  errors_rise (closes bytes rest s t request answer is answers keep) = answer_raises s request answer t answers
  errors_rise (goes_on bytes rest more s t u request answer e is answers keep served) = let here = answer_raises s request answer t answers in let there = errors_rise served in omega (arith, here, there)
  errors_rise (breaks bytes s e is) = unraised s.errors s.errors refl
  errors_rise (refuses_part bytes s e status n is told) = unraised s.errors s.errors refl
  errors_rise (answers_part bytes rest s t request answer n is answers) = answer_raises s request answer t answers
  errors_rise (leaves bytes rest s t request is left) = leaving_raises s request t left

  pub turns_raise : {s t : Kept} → RespondsInTurn (AnswersAt clock (AnswersBy final)) (LeavesAt clock LeavesBy) s t → s.errors ≤ t.errors
  turns_raise (to_none s) = unraised s.errors s.errors refl
  turns_raise (to_one_more s t u before (request, responded)) = let here = turns_raise before in let there = leaving_raises t request u responded in omega (arith, here, there)

-- ---- outcomes

-- the outcome behind a response
abbrev behind : List ℕ → Outcome → Outcome
behind response o = record { sent = response ++ o.sent; end = o.end }

module _ (side : Side) (bytes rest response : List ℕ) (request : HttpRequest) (is : IsRequest side bytes request rest) (keep : request.keep ≡ true) where
  choice_behind : (refused cut : Outcome) → IsRefusedOrCut side rest refused cut → IsRefusedOrCut side bytes (behind response refused) (behind response cut)
  choice_behind refused cut choice = record {
    left = choice.left;
    behind = left_behind bytes rest choice.left request is keep choice.behind;
    headless = choice.headless;
    bad = choice.bad;
    short = choice.short;
    sent_refusal = ap (λ (xs : List ℕ). response ++ xs) choice.sent_refusal ∙ sym (append_assoc response cut.sent (refusal_with 400));
    refused_end = choice.refused_end;
    cut_end = choice.cut_end;
  }

  same_behind : (one other : Outcome) → IsSameOutcome side rest one other → IsSameOutcome side bytes (behind response one) (behind response other)
  same_behind one other (inl equal) = inl (ap (behind response) equal)
  same_behind one other (inr (inl choice)) = inr (inl (choice_behind one other choice))
  same_behind one other (inr (inr choice)) = inr (inr (choice_behind other one choice))

module _ (side : Side) (bytes : List ℕ) where
  choice_of : (s t u v : Kept) (one other : Outcome) (first : BeginsWithNone side bytes s one.sent t one.end) (second : BeginsWithNone side bytes u other.sent v other.end)
      → IsChoice bytes first.why second.why → IsRefusedOrCut side bytes one other
  choice_of s t u v one other first second (bad, cut, none) = record {
    left = bytes;
    behind = all_left bytes;
    headless = none;
    bad = subst (RefusesRequest side bytes) bad first.refused;
    short = subst (RefusesRequest side bytes) cut second.refused;
    sent_refusal = first.is_sent ∙ ap (λ (e : HttpEnd). sent_for (refusal e)) bad ∙ ap (λ (xs : List ℕ). xs ++ refusal_with 400) (sym (second.is_sent ∙ ap (λ (e : HttpEnd). sent_for (refusal e)) cut));
    refused_end = first.ends ∙ ap ending bad;
    cut_end = second.ends ∙ ap ending cut;
  }

  both_with_none : (s t u v : Kept) (one other : Outcome) → BeginsWithNone side bytes s one.sent t one.end → BeginsWithNone side bytes u other.sent v other.end → AreAlike s.rows u.rows → s.memory ≡ u.memory
      → AreServedAlike side bytes one other t v
  both_with_none s t u v one other first second alike drawn = record {
    outcome = by (only_request.reason side bytes first.why second.why first.by_bytes second.by_bytes first.refused second.refused);
    rows = subst (λ (k : Kept). AreAlike k.rows v.rows) (sym first.unchanged) (subst (λ (k : Kept). AreAlike s.rows k.rows) (sym second.unchanged) alike);
    memory = ap (λ (k : Kept). k.memory) first.unchanged ∙ drawn ∙ sym (ap (λ (k : Kept). k.memory) second.unchanged);
  }
    where
      by : IsOneReason bytes first.why second.why → IsSameOutcome side bytes one other
      by (inl equal) = inl (λ i. record {
        sent = (first.is_sent ∙ ap (λ (e : HttpEnd). sent_for (refusal e)) equal ∙ sym second.is_sent) i;
        end = (first.ends ∙ ap ending equal ∙ sym second.ends) i;
      })
      by (inr (inl choice)) = inr (inl (choice_of s t u v one other first second choice))
      by (inr (inr choice)) = inr (inr (choice_of u v s t other one second first choice))

-- ---- connections

-- counts that end as they began, by the one between
between : (first mid last : ℕ) → first ≤ mid → mid ≤ last → last ≡ first → mid ≡ first
between first mid last up on same = omega arith

behind_it : (first mid last : ℕ) → first ≤ mid → mid ≤ last → last ≡ first → last ≡ mid
behind_it first mid last up on same = omega arith

-- The second connection begins with the same request, and answers it alike.
record MeetsOne (Then : List ℕ → Kept → List ℕ → Kept → ConnectionEnd → Type 0) (rest : List ℕ) (request : HttpRequest) (answer : Answer) (t v : Kept) (sent : List ℕ) (e : ConnectionEnd) : Type 0 where
  mid : Kept
  more : List ℕ
  is_sent : sent ≡ response_to request answer ++ more
  rows : AreAlike t.rows mid.rows
  memory : t.memory ≡ mid.memory
  follows : ((request.keep ≡ false) × (more ≡ []) × (v ≡ mid) × (e ≡ over.Closed)) ⊎ ((request.keep ≡ true) × Then rest mid more v e × (v.errors ≡ mid.errors))

module _ (side : Side) (clock other : Option ℕ) (final last : Rows) where
  abbrev First : List ℕ → Kept → List ℕ → Kept → ConnectionEnd → Type 0
  First bytes s sent t e = Serves side (AnswersAt clock (AnswersBy final)) (LeavesAt clock LeavesBy) bytes s sent t e

  abbrev Second : List ℕ → Kept → List ℕ → Kept → ConnectionEnd → Type 0
  Second bytes u sent v e = Serves side (AnswersAt other (AnswersBy last)) (LeavesAt other LeavesBy) bytes u sent v e

  abbrev SecondBegins : List ℕ → Kept → List ℕ → Kept → ConnectionEnd → Type 0
  SecondBegins bytes u sent v e = BeginsWithNone side bytes u sent v e ⊎ BeginsWithOne side (AnswersAt other (AnswersBy last)) (LeavesAt other LeavesBy) bytes u sent v e

  second_begins : (bytes : List ℕ) (u v : Kept) (two : Outcome) → Second bytes u two.sent v two.end → (IsBroken two.end → ⊥) → SecondBegins bytes u two.sent v two.end
  second_begins bytes u v two second whole = begins side (AnswersAt other (AnswersBy last)) (LeavesAt other LeavesBy) second whole

  -- whatever serves the same bytes over rows that are alike does so alike
  abbrev IsMatched : List ℕ → Kept → List ℕ → Kept → ConnectionEnd → Type 0
  IsMatched bytes s sent t e =
      (u v : Kept) (two : Outcome) → Second bytes u two.sent v two.end → (IsBroken two.end → ⊥) → AreAlike s.rows u.rows → s.memory ≡ u.memory → t.errors ≡ s.errors → v.errors ≡ u.errors
      → AreServedAlike side bytes (record { sent = sent; end = e }) two t v

  answers_alike : (request : HttpRequest) (answer two : Answer) (s t u v : Kept) → AnswersAt clock (AnswersBy final) s request answer t → AnswersAt other (AnswersBy last) u request two v
      → AreAlike s.rows u.rows → s.memory ≡ u.memory → t.errors ≡ s.errors → v.errors ≡ u.errors → AreAnsweredAlike answer two t v
  answers_alike request answer two s t u v (now, told, answers) (moment, told_too, also) alike drawn calm calm_too =
      answered_alike final last request now moment answer two s t u v alike drawn calm calm_too answers also

  -- the first begins with no request
  none_first : (bytes : List ℕ) (s t u v : Kept) (one two : Outcome) → BeginsWithNone side bytes s one.sent t one.end → SecondBegins bytes u two.sent v two.end → AreAlike s.rows u.rows → s.memory ≡ u.memory → AreServedAlike side bytes one two t v
  none_first bytes s t u v one two first (inl second) alike drawn = both_with_none side bytes s t u v one two first second alike drawn
  none_first bytes s t u v one two first (inr second) alike drawn = absurd (only_request.stands side bytes second.request second.rest first.why second.is first.refused first.by_bytes)

  -- the first begins with a request, so the second does
  module _ (bytes rest : List ℕ) (request : HttpRequest) (answer : Answer) (s t u v : Kept) (two : Outcome) (is : IsRequest side bytes request rest) (answers : AnswersAt clock (AnswersBy final) s request answer t)
      (alike : AreAlike s.rows u.rows) (drawn : s.memory ≡ u.memory) (calm : t.errors ≡ s.errors) (calm_too : v.errors ≡ u.errors) where
    abbrev Follows : HttpRequest → List ℕ → Kept → List ℕ → Type 0
    Follows r xs mid more = ((r.keep ≡ false) × (more ≡ []) × (v ≡ mid) × (two.end ≡ over.Closed)) ⊎ ((r.keep ≡ true) × Second xs mid more v two.end)

    abbrev FollowsCalmly : Kept → List ℕ → Type 0
    FollowsCalmly mid more = ((request.keep ≡ false) × (more ≡ []) × (v ≡ mid) × (two.end ≡ over.Closed)) ⊎ ((request.keep ≡ true) × Second rest mid more v two.end × (v.errors ≡ mid.errors))

    met : (found : Answer) (mid : Kept) (more : List ℕ) → AreAnsweredAlike answer found t mid → two.sent ≡ response_to request found ++ more → FollowsCalmly mid more → MeetsOne Second rest request answer t v two.sent two.end
    met found mid more same sent follows = record {
      mid = mid;
      more = more;
      is_sent = sent ∙ ap (λ (a : Answer). response_to request a ++ more) (sym same.one);
      rows = same.rows;
      memory = same.memory;
      follows = follows;
    }

    meets_by : (found : Answer) (mid : Kept) (more : List ℕ) → AnswersAt other (AnswersBy last) u request found mid → two.sent ≡ response_to request found ++ more → Follows request rest mid more
        → MeetsOne Second rest request answer t v two.sent two.end
    meets_by found mid more also sent (inl (keep, none, same, closed)) =
        met found mid more (answers_alike request answer found s t u mid answers also alike drawn calm (ap (λ (k : Kept). k.errors) (sym same) ∙ calm_too)) sent (inl (keep, none, same, closed))
    meets_by found mid more also sent (inr (keep, served)) =
        let up = answer_raises side other last u request found mid also in
        let on = errors_rise side other last served in
        met found mid more (answers_alike request answer found s t u mid answers also alike drawn calm (between u.errors mid.errors v.errors up on calm_too)) sent
        (inr (keep, served, behind_it u.errors mid.errors v.errors up on calm_too))

    meets : SecondBegins bytes u two.sent v two.end → MeetsOne Second rest request answer t v two.sent two.end
    meets (inl second) = absurd (only_request.stands side bytes request rest second.why is second.refused second.by_bytes)
    meets (inr second) =
        let equal = only_request.same side bytes second.request request second.rest rest second.is is in
        let also = subst (λ (r : HttpRequest). AnswersAt other (AnswersBy last) u r second.answer second.mid) equal.0 second.answers in
        let follows = subst (λ (r : HttpRequest). Follows r second.rest second.mid second.more) equal.0 second.follows in
        meets_by second.answer second.mid second.more also (second.is_sent ∙ ap (λ (r : HttpRequest). response_to r second.answer ++ second.more) equal.0)
        (subst (λ (xs : List ℕ). Follows request xs second.mid second.more) equal.1 follows)

  closed_alike : (bytes rest : List ℕ) (request : HttpRequest) (answer : Answer) (t v : Kept) (two : Outcome) → request.keep ≡ false → MeetsOne Second rest request answer t v two.sent two.end
      → AreServedAlike side bytes (record { sent = response_to request answer; end = over.Closed }) two t v
  closed_alike bytes rest request answer t v two keep met = by met.follows
    where
      by : ((request.keep ≡ false) × (met.more ≡ []) × (v ≡ met.mid) × (two.end ≡ over.Closed)) ⊎ ((request.keep ≡ true) × Second rest met.mid met.more v two.end × (v.errors ≡ met.mid.errors))
          → AreServedAlike side bytes (record { sent = response_to request answer; end = over.Closed }) two t v
      by (inl (shut, none, same, closed)) =
          let sent : two.sent ≡ response_to request answer = met.is_sent ∙ ap (λ (xs : List ℕ). response_to request answer ++ xs) none ∙ append-nil (response_to request answer) in
          record {
            outcome = inl (λ i. record { sent = sym sent i; end = sym closed i });
            rows = subst (λ (k : Kept). AreAlike t.rows k.rows) (sym same) met.rows;
            memory = met.memory ∙ ap (λ (k : Kept). k.memory) (sym same);
          }
      by (inr (kept, served, calm)) = let bad : true ≡ false = sym kept ∙ keep in cc

  kept_alike : (bytes rest more : List ℕ) (request : HttpRequest) (answer : Answer) (e : ConnectionEnd) (m t v : Kept) (two : Outcome) → IsRequest side bytes request rest → request.keep ≡ true
      → MeetsOne Second rest request answer m v two.sent two.end → IsMatched rest m more t e → (IsBroken two.end → ⊥) → t.errors ≡ m.errors
      → AreServedAlike side bytes (record { sent = response_to request answer ++ more; end = e }) two t v
  kept_alike bytes rest more request answer e m t v two is keep met matched unbroken calm = by met.follows
    where
      by : ((request.keep ≡ false) × (met.more ≡ []) × (v ≡ met.mid) × (two.end ≡ over.Closed)) ⊎ ((request.keep ≡ true) × Second rest met.mid met.more v two.end × (v.errors ≡ met.mid.errors))
          → AreServedAlike side bytes (record { sent = response_to request answer ++ more; end = e }) two t v
      by (inl (shut, none, same, closed)) = let bad : true ≡ false = sym keep ∙ shut in cc
      by (inr (kept, served, calm_too)) =
          let then_on = matched met.mid v (record { sent = met.more; end = two.end }) served unbroken met.rows met.memory calm calm_too in
          record {
            outcome = subst (IsSameOutcome side bytes (record { sent = response_to request answer ++ more; end = e })) (λ i. record { sent = sym met.is_sent i; end = two.end })
                (same_behind side bytes rest (response_to request answer) request is keep (record { sent = more; end = e }) (record { sent = met.more; end = two.end }) then_on.outcome);
            rows = then_on.rows;
            memory = then_on.memory;
          }

  served_alike : {bytes : List ℕ} {s : Kept} {sent : List ℕ} {t : Kept} {e : ConnectionEnd} → First bytes s sent t e → (IsBroken e → ⊥) → IsMatched bytes s sent t e
  served_alike (finishes bytes s is) whole = λ u v two second unbroken alike drawn calm calm_too.
      none_first bytes s s u v (record { sent = []; end = over.End }) two
      (record { why = http.End; by_bytes = (λ e. cc, λ e. cc); refused = is; unchanged = refl; is_sent = refl; ends = refl }) (second_begins bytes u v two second unbroken) alike drawn
  served_alike (cuts bytes s is) whole = λ u v two second unbroken alike drawn calm calm_too.
      none_first bytes s s u v (record { sent = []; end = over.Cut }) two
      (record { why = http.Cut; by_bytes = (λ e. cc, λ e. cc); refused = is; unchanged = refl; is_sent = refl; ends = refl }) (second_begins bytes u v two second unbroken) alike drawn
  served_alike (refuses bytes s e status is told) whole = λ u v two second unbroken alike drawn calm calm_too.
      none_first bytes s s u v (record { sent = refusal_with status; end = over.Refused status }) two
      (record { why = e; by_bytes = told_by_bytes e status told; refused = is; unchanged = refl; is_sent = ap sent_for (sym told); ends = ap (λ (o : Option ℕ). ending_of o e) (sym told) })
      (second_begins bytes u v two second unbroken) alike drawn
  served_alike (closes bytes rest s t request answer is answers keep) whole = λ u v two second unbroken alike drawn calm calm_too.
      closed_alike bytes rest request answer t v two keep
      (meets bytes rest request answer s t u v two is answers alike drawn calm calm_too (second_begins bytes u v two second unbroken))
  served_alike (goes_on bytes rest more s m t request answer e is answers keep served) whole =
      let matched = served_alike served whole in
      let up = answer_raises side clock final s request answer m answers in
      let on = errors_rise side clock final served in
      λ u v two second unbroken alike drawn calm calm_too.
      kept_alike bytes rest more request answer e m t v two is keep
      (meets bytes rest request answer s m u v two is answers alike drawn (between s.errors m.errors t.errors up on calm) calm_too (second_begins bytes u v two second unbroken))
      matched unbroken (behind_it s.errors m.errors t.errors up on calm)
  served_alike (breaks bytes s e broken) whole = absurd (whole broken)
  served_alike (refuses_part bytes s e status n is told) whole = absurd (whole tt)
  served_alike (answers_part bytes rest s t request answer n is answers) whole = absurd (whole tt)
  served_alike (leaves bytes rest s t request is left) whole = absurd (whole tt)

pub clocks_decide_nothing_else : ClocksDecideNothingElse
clocks_decide_nothing_else side bytes clock other final last s t u v one two first second alike drawn =
    served_alike side clock other final last first.serves first.whole u v two second.serves second.whole alike drawn first.calm second.calm
