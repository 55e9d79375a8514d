-- Over rows that are alike the same is answered, at whatever moment, and they stay alike.
use Rattle.std.proofs.Common.{◌≡◌, inl, inr, ℕ, ◌+◌, Bool, true, false, cond, List, ap, sym, refl, subst, ◌∙◌, arith}
use Rattle.std.specs.Prelude.{Ok, Err}
use Rattle.wef_batch.specs.WellFormed.{is_well_formed}
use Rattle.wef_batch.specs.declared.items.Batch.{Batch}
use Rattle.wef_collector.specs.Calls.{hear_by, source_ended_effect, take_by, unread_by}
use Rattle.wef_collector.specs.Taken.{batch_changes}
use Rattle.wef_collector_leases.specs.Changes.{end_lease}
use Rattle.wef_collector_rows.specs.Answers.{channels_read, is_known}
use Rattle.wef_collector_rows.specs.Standing.{standing}
use Rattle.wef_collector_rows.specs.declared.faults.CollectorFault.TheVariants.{NoSubscription, NotWellFormed}
use Rattle.wef_collector_rows.specs.declared.standings.Standing.{Standing}
use Rattle.wef_collector_rows.specs.declared.standings.Standing.TheVariants.{Unknown, Ended, Live}
use Rattle.wef_front.proofs.OneIsHeard.{one_is_heard}
use Rattle.wef_front_collector.specs.Replies.{answer_of, memory_behind, rows_by}
use Rattle.wef_front_collector.specs.Steps.{batch_said, effect_in, said_by, said_where}
use Rattle.wef_front_collector.specs.declared.hearing.Asked.{Asked}
use Rattle.wef_front_collector.specs.declared.hearing.Asked.TheVariants as asks
use Rattle.wef_front_collector.specs.declared.hearing.Asked.TheVariants.{Refused, Enumerate, Unread, Take, Heartbeat, UnreadEnd}
use Rattle.wef_front_collector.specs.declared.hearing.Heard.{Heard}
use Rattle.wef_front_collector.specs.declared.saying.Said.{Said}
use Rattle.wef_front_collector.specs.declared.saying.Said.TheVariants.{Offers}
use Rattle.wef_http.specs.declared.messages.HttpRequest.{HttpRequest}
use Rattle.wef_http_heads.specs.declared.answers.Answer.{Answer}
use Rattle.wef_keeper.specs.Rows.{Rows}
use Rattle.wef_keeper.specs.declared.keys.Change.{Change}
use Rattle.wef_collector_serving.proofs.AlikeRows.{alike_ended, alike_hearing, alike_taken, same_offers, same_standing}
use Rattle.wef_collector_serving.specs.ByRows.{AnswersBy, Goes, IsAnsweredBy, Kept, error_of}
use Rattle.wef_collector_serving.specs.Clocks.{AreAlike}

-- ---- what is said

module _ (rows other : Rows) (u s : List ℕ) (batch : Batch) (now moment : ℕ) where
  take_said : (o : Standing) → said_where (batch_said batch.ack_wanted) tt (take_by o rows u s batch now) ≡ said_where (batch_said batch.ack_wanted) tt (take_by o other u s batch moment)
  take_said Unknown = refl
  take_said (Ended about) = refl
  take_said (Live about) = by (is_well_formed (channels_read about) batch)
    where
      by : (t : Bool) → said_where (batch_said batch.ack_wanted) tt (cond t (Ok (batch_changes rows u s (channels_read about) batch now)) (Err NotWellFormed))
          ≡ said_where (batch_said batch.ack_wanted) tt (cond t (Ok (batch_changes other u s (channels_read about) batch moment)) (Err NotWellFormed))
      by true = refl
      by false = refl

beat_said : (rows other : Rows) (u s : List ℕ) (ack : Bool) (now moment : ℕ) (o : Standing) → said_where (batch_said ack) tt (hear_by o rows u s now) ≡ said_where (batch_said ack) tt (hear_by o other u s moment)
beat_said rows other u s ack now moment Unknown = refl
beat_said rows other u s ack now moment (Ended about) = refl
beat_said rows other u s ack now moment (Live about) = refl

ended_said : (b : Bool) (changes others : List Change) → said_where (batch_said false) tt (cond b (Ok changes) (Err NoSubscription)) ≡ said_where (batch_said false) tt (cond b (Ok others) (Err NoSubscription))
ended_said true changes others = refl
ended_said false changes others = refl

same_said : (host : List ℕ) (asked : Asked) (now moment : ℕ) (rows other : Rows) → AreAlike rows other → said_by host asked rows (effect_in asked now rows) ≡ said_by host asked other (effect_in asked moment other)
same_said host (Refused name) now moment rows other alike = refl
same_said host (Enumerate s) now moment rows other alike = ap Offers (same_offers rows other alike s host)
same_said host (Unread u) now moment rows other alike = ap (λ (o : Standing). said_where (batch_said false) tt (unread_by o)) (same_standing rows other alike u)
same_said host (Take u s batch) now moment rows other alike =
    take_said rows other u s batch now moment (standing rows u) ∙ ap (λ (o : Standing). said_where (batch_said batch.ack_wanted) tt (take_by o other u s batch moment)) (same_standing rows other alike u)
same_said host (Heartbeat u s ack) now moment rows other alike =
    beat_said rows other u s ack now moment (standing rows u) ∙ ap (λ (o : Standing). said_where (batch_said ack) tt (hear_by o other u s moment)) (same_standing rows other alike u)
same_said host (UnreadEnd u) now moment rows other alike =
    ap (λ (o : Standing). said_where (batch_said false) tt (cond (is_known o) (Err NotWellFormed) (Err NoSubscription))) (same_standing rows other alike u)
same_said host (asks.Ended u s identifier) now moment rows other alike =
    ended_said (is_known (standing rows u)) (end_lease rows u s identifier) (end_lease other u s identifier)
    ∙ ap (λ (o : Standing). said_where (batch_said false) tt (cond (is_known o) (Ok (end_lease other u s identifier)) (Err NoSubscription))) (same_standing rows other alike u)

-- ---- what is done

unread_alike : (rows other : Rows) → AreAlike rows other → (o : Standing) → AreAlike (rows_by (unread_by o) rows) (rows_by (unread_by o) other)
unread_alike rows other alike Unknown = alike
unread_alike rows other alike (Ended about) = alike
unread_alike rows other alike (Live about) = alike

take_alike : (rows other : Rows) → AreAlike rows other → (u s : List ℕ) (batch : Batch) (now moment : ℕ) (o : Standing) → AreAlike (rows_by (take_by o rows u s batch now) rows) (rows_by (take_by o other u s batch moment) other)
take_alike rows other alike u s batch now moment Unknown = alike
take_alike rows other alike u s batch now moment (Ended about) = alike
take_alike rows other alike u s batch now moment (Live about) = by (is_well_formed (channels_read about) batch)
  where
    by : (t : Bool) → AreAlike (rows_by (cond t (Ok (batch_changes rows u s (channels_read about) batch now)) (Err NotWellFormed)) rows)
        (rows_by (cond t (Ok (batch_changes other u s (channels_read about) batch moment)) (Err NotWellFormed)) other)
    by true = alike_taken rows other alike u s (channels_read about) batch now moment
    by false = alike

beat_alike : (rows other : Rows) → AreAlike rows other → (u s : List ℕ) (now moment : ℕ) (o : Standing) → AreAlike (rows_by (hear_by o rows u s now) rows) (rows_by (hear_by o other u s moment) other)
beat_alike rows other alike u s now moment Unknown = alike
beat_alike rows other alike u s now moment (Ended about) = alike
beat_alike rows other alike u s now moment (Live about) = alike_hearing rows other alike u s now moment

unread_end_alike : (rows other : Rows) → AreAlike rows other → (b c : Bool) → AreAlike (rows_by (cond b (Err NotWellFormed) (Err NoSubscription)) rows) (rows_by (cond c (Err NotWellFormed) (Err NoSubscription)) other)
unread_end_alike rows other alike true true = alike
unread_end_alike rows other alike true false = alike
unread_end_alike rows other alike false true = alike
unread_end_alike rows other alike false false = alike

ended_alike : (rows other : Rows) → AreAlike rows other → (u s identifier : List ℕ) (b : Bool)
    → AreAlike (rows_by (cond b (Ok (end_lease rows u s identifier)) (Err NoSubscription)) rows) (rows_by (cond b (Ok (end_lease other u s identifier)) (Err NoSubscription)) other)
ended_alike rows other alike u s identifier true = alike_ended rows other alike u s identifier
ended_alike rows other alike u s identifier false = alike

same_done : (asked : Asked) (now moment : ℕ) (rows other : Rows) → AreAlike rows other → AreAlike (rows_by (effect_in asked now rows) rows) (rows_by (effect_in asked moment other) other)
same_done (Refused name) now moment rows other alike = alike
same_done (Enumerate s) now moment rows other alike = alike
same_done (Unread u) now moment rows other alike =
    subst (λ (o : Standing). AreAlike (rows_by (unread_by (standing rows u)) rows) (rows_by (unread_by o) other)) (same_standing rows other alike u) (unread_alike rows other alike (standing rows u))
same_done (Take u s batch) now moment rows other alike =
    subst (λ (o : Standing). AreAlike (rows_by (take_by (standing rows u) rows u s batch now) rows) (rows_by (take_by o other u s batch moment) other)) (same_standing rows other alike u)
    (take_alike rows other alike u s batch now moment (standing rows u))
same_done (Heartbeat u s ack) now moment rows other alike =
    subst (λ (o : Standing). AreAlike (rows_by (hear_by (standing rows u) rows u s now) rows) (rows_by (hear_by o other u s moment) other)) (same_standing rows other alike u)
    (beat_alike rows other alike u s now moment (standing rows u))
same_done (UnreadEnd u) now moment rows other alike = unread_end_alike rows other alike (is_known (standing rows u)) (is_known (standing other u))
same_done (asks.Ended u s identifier) now moment rows other alike =
    subst (λ (o : Standing). AreAlike (rows_by (source_ended_effect rows u s identifier) rows) (rows_by (cond (is_known o) (Ok (end_lease other u s identifier)) (Err NoSubscription)) other))
    (same_standing rows other alike u) (ended_alike rows other alike u s identifier (is_known (standing rows u)))

-- ---- an answer

none_more : (errors before now : ℕ) → now ≡ errors + before → now ≡ before → errors ≡ 0
none_more errors before now counted calm = omega arith

-- where it isn't said that the store failed, all goes by the rows
calm_goes : (host : List ℕ) (asked : Asked) (moment : ℕ) (said : Said) (found left : Rows) → Goes host asked moment said found left → error_of said ≡ 0
    → (said ≡ said_by host asked found (effect_in asked moment found)) × (left ≡ rows_by (effect_in asked moment found) found)
calm_goes host asked moment said found left (inl goes) none = goes
calm_goes host asked moment said found left (inr (is, may)) none = let bad : 1 ≡ 0 = sym (ap error_of is) ∙ none in absurd (omega (arith, bad))

-- Two answers to one request are one, and what is kept then is the same but for the moments at which sources were heard.
pub record AreAnsweredAlike (answer other : Answer) (now then : Kept) : Type 0 where
  pub one : answer ≡ other
  pub rows : AreAlike now.rows then.rows
  pub memory : now.memory ≡ then.memory

module _ (final last : Rows) (request : HttpRequest) (now moment : ℕ) (answer other : Answer) (s t u v : Kept) (alike : AreAlike s.rows u.rows) (drawn : s.memory ≡ u.memory) (calm : t.errors ≡ s.errors) (calm_too : v.errors ≡ u.errors) where
  heard_alike : (heard : Heard) → IsAnsweredBy final request.host heard request.charset now answer s t → IsAnsweredBy last request.host heard request.charset moment other u v → AreAnsweredAlike answer other t v
  heard_alike heard is also =
      let first = calm_goes request.host heard.asked now is.said s.rows t.rows is.goes (none_more (error_of is.said) s.errors t.errors is.counted calm) in
      let second = calm_goes request.host heard.asked moment also.said u.rows v.rows also.goes (none_more (error_of also.said) u.errors v.errors also.counted calm_too) in
      let said : is.said ≡ also.said = first.0 ∙ same_said request.host heard.asked now moment s.rows u.rows alike ∙ sym second.0 in
      record {
        one = is.written ∙ (λ i. answer_of (drawn i).ids request.charset heard.relates (said i)) ∙ sym also.written;
        rows = subst (λ (rows : Rows). AreAlike rows v.rows) (sym first.1)
            (subst (λ (rows : Rows). AreAlike (rows_by (effect_in heard.asked now s.rows) s.rows) rows) (sym second.1) (same_done heard.asked now moment s.rows u.rows alike));
        memory = is.drawn ∙ (λ i. memory_behind (drawn i) (said i)) ∙ sym also.drawn;
      }

  pub answered_alike : AnswersBy final now s request answer t → AnswersBy last moment u request other v → AreAnsweredAlike answer other t v
  answered_alike (heard, hears, is) (again, hears_too, also) =
      heard_alike heard is
      (subst (λ (h : Heard). IsAnsweredBy last request.host h request.charset moment other u v) (sym (one_is_heard request.target request.charset request.body heard again hears.0 hears_too.0)) also)
