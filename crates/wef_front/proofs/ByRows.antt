-- The answers of the collector, by the rows that it finds and by the plan of its store.
use Rattle.std.proofs.Common.{◌≡◌, ℕ, true, false, cond, List, refl, sym, ap, ◌∙◌, subst, inl, inr}
use Rattle.std.specs.Prelude.{Option, Some, None, Ok, Err, IfSome, ◌⊎◌}
use Rattle.wef_base.specs.declared.tree.Charset.{Charset}
use Rattle.wef_ids.specs.declared.FaultName.TheVariants as the
use Rattle.wef_ids.specs.declared.MessageId.{MessageId}
use Rattle.wef_keeper.specs.Access.{From, HasCause, is_planned, plan_with, tries_with}
use Rattle.wef_keeper.specs.Calls.{AnswersFault, FaultByTries, Makes, OnFaultImages, WhereMade}
use Rattle.wef_keeper.specs.Keeping.{Store, outcome}
use Rattle.wef_keeper.specs.Rows.{Rows}
use Rattle.wef_keeper.specs.declared.access.StoreFault.{StoreFault}
use Rattle.wef_keeper.specs.declared.access.StoreFault.TheVariants as store
use Rattle.wef_keeper.specs.declared.keeping.Plan.{Plan}
use Rattle.wef_keeper.specs.declared.keeping.Plan.TheVariants.{Done}
use Rattle.wef_keeper.specs.declared.keys.Change.{Change}
use Rattle.wef_keeper.proofs.Calls.{from_weaker}
use Rattle.wef_keeper.proofs.Told.{told_any, told_map}
use Rattle.wef_collector.specs.Offers.{offers}
use Rattle.wef_collector.specs.declared.memories.Memory.{Memory}
use Rattle.wef_collector_rows.specs.Faults.{collector_store}
use Rattle.wef_collector_rows.specs.Forms.{AreFormed}
use Rattle.wef_collector_rows.specs.declared.faults.CollectorFault.{CollectorFault}
use Rattle.wef_collector_rows.specs.declared.faults.CollectorFault.TheVariants.{NoMemory, NoSubscription, Exists, Ended, NotWellFormed, NotAsked, TooMany, Failed, Full}
use Rattle.wef_collector.specs.Calls.{Effect}
use Rattle.wef_front.specs.Laws.{GoesByPlan, GoesByRows, HasFailed, IsReply, said_planned, tries_by}
use Rattle.wef_front_collector.specs.Replies.{IsAnswer, answer_of, memory_behind, rows_by}
use Rattle.wef_front_collector.proofs.SaidOfCalls.{offers_answered}
use Rattle.wef_front_collector.specs.Steps.{CallsFor, IsAnswered, SaysFor, batch_said, effect_in, fault_for, said_by, said_where}
use Rattle.wef_http_heads.specs.declared.answers.Answer.{Answer}
use Rattle.wef_front_collector.specs.declared.hearing.Asked.{Asked}
use Rattle.wef_front_collector.specs.declared.hearing.Asked.TheVariants as asks
use Rattle.wef_front_collector.specs.declared.hearing.Asked.TheVariants.{Refused, Enumerate, Unread, Take, Heartbeat, UnreadEnd}
use Rattle.wef_front_collector.specs.declared.hearing.Heard.{Heard}
use Rattle.wef_front_collector.specs.declared.saying.Said.{Said}
use Rattle.wef_front_collector.specs.declared.saying.Said.TheVariants.{Offers, Fault}

-- ---- a call, by the rows that it found

-- what is said, the rows behind it and the count of commits, as the rows give them
abbrev Goes : {T : Type 0} → (T → Said) → (Rows → T) → (Rows → Effect) → Said → Store → Store → Rows → Rows → Type 0
Goes tell gives effect said before now found after =
    (said ≡ said_where tell (gives found) (effect found)) × (after ≡ rows_by (effect found) found) × (now.tries ≡ tries_by (effect found) before.tries)

-- or the store failed
abbrev Fails : (Rows → Effect) → Said → Store → Store → Type 0
Fails effect said before now = (said ≡ Fault the.InternalError) × HasCause AreFormed true before now × OnFaultImages (Some store.Failed) effect before now

done_goes : {T : Type 0} (tell : T → Said) (given done : T) (effect : Effect) (found after : Rows) (before now : ℕ) → Makes effect found after → done ≡ given
    → WhereMade effect (λ changes. now ≡ tries_with changes before) → (tell done ≡ said_where tell given effect) × (after ≡ rows_by effect found) × (now ≡ tries_by effect before)
done_goes tell given done (Ok changes) found after before now makes is tries = (ap tell is, makes, tries)
done_goes tell given done (Err fault) found after before now makes is tries = absurd makes

refused_goes : {T : Type 0} (tell : T → Said) (given : T) (effect : Effect) (fault : CollectorFault) (found after : Rows) (before now : ℕ) → effect ≡ Err fault → after ≡ found → now ≡ before
    → (Fault (fault_for fault) ≡ said_where tell given effect) × (after ≡ rows_by effect found) × (now ≡ tries_by effect before)
refused_goes tell given effect fault found after before now is same tries =
    let P : Effect → Type 0 = λ e. (Fault (fault_for fault) ≡ said_where tell given e) × (after ≡ rows_by e found) × (now ≡ tries_by e before) in
    subst P (sym is) (refl, same, tries)

module _ {T : Type 0} (tell : T → Said) (gives : Rows → T) (effect : Rows → Effect) (said : Said) (before now : Store) where
  abbrev GoesOrFails : Rows → Rows → Type 0
  GoesOrFails found after = Goes tell gives effect said before now found after ⊎ Fails effect said before now

  -- a refusal of the collector's own
  own_goes : (fault : CollectorFault) → collector_store fault ≡ None → CallsFor gives effect (Err fault) before now → said ≡ Fault (fault_for fault) → From before now GoesOrFails
  own_goes fault own call is =
      from_weaker _ GoesOrFails before now
      (λ found after did.
      let answer = subst (λ (kind : Option StoreFault). AnswersFault kind fault (effect found) found after) own did.answer in
      let goes = refused_goes tell (gives found) (effect found) fault found after before.tries now.tries answer.0 answer.1 (subst (λ (kind : Option StoreFault). FaultByTries kind before.tries now.tries) own did.tries) in
      inl (is ∙ goes.0, goes.1, goes.2)) call.did

  said_goes : SaysFor IsAnswered tell gives effect said before now → From before now GoesOrFails
  said_goes (Ok done, call, answered, is) =
      from_weaker _ GoesOrFails before now
      (λ found after did. let goes = done_goes tell (gives found) done (effect found) found after before.tries now.tries did.answer.0 did.answer.1 did.tries in inl (is ∙ goes.0, goes.1, goes.2)) call.did
  said_goes (Err NoSubscription, call, answered, is) = own_goes NoSubscription refl call is
  said_goes (Err Ended, call, answered, is) = own_goes Ended refl call is
  said_goes (Err NotWellFormed, call, answered, is) = own_goes NotWellFormed refl call is
  said_goes (Err Failed, call, answered, is) = from_weaker _ GoesOrFails before now (λ found after did. inr (is, call.cause, call.images)) call.did
  said_goes (Err NoMemory, call, answered, is) = absurd answered
  said_goes (Err Exists, call, answered, is) = absurd answered
  said_goes (Err TooMany, call, answered, is) = absurd answered
  said_goes (Err NotAsked, call, answered, is) = absurd answered
  said_goes (Err Full, call, answered, is) = absurd answered

-- ---- an answer, by the rows

-- as the answer to what was heard
reply_goes :
    {T : Type 0} (tell : T → Said) (gives : Rows → T) (host : List ℕ) (relates : Option MessageId) (asked : Asked) (charset : Charset) (moment : ℕ) (answer : Answer) (memory memory_now : Memory) (before now : Store) →
    ((found : Rows) (e : Effect) → said_where tell (gives found) e ≡ said_by host asked found e) →
    (is : IsAnswer host (record { relates = relates; asked = asked }) charset moment answer memory memory_now before now) →
    SaysFor IsAnswered tell gives (effect_in asked moment) is.said before now →
    From before now (λ found after.
    IsReply host (record { relates = relates; asked = asked }) charset moment answer memory memory_now before now found after
    ⊎ HasFailed (record { relates = relates; asked = asked }) charset moment answer memory memory_now before now)
reply_goes tell gives host relates asked charset moment answer memory memory_now before now same is says =
    let heard : Heard = record { relates = relates; asked = asked } in
    from_weaker _ (λ found after. IsReply host heard charset moment answer memory memory_now before now found after ⊎ HasFailed heard charset moment answer memory memory_now before now) before now
    (λ found after either. elim either [
      | inl goes ↦ inl (let said = goes.0 ∙ same found (effect_in asked moment found) in record {
        reply = λ i. record {
          answer = (is.written ∙ ap (answer_of memory.ids charset relates) said) i;
          rows = goes.1 i;
          memory = (is.drawn ∙ ap (memory_behind memory) said) i;
        };
        tries = goes.2;
      })
      | inr fails ↦ inr (record {
        written = is.written ∙ ap (answer_of memory.ids charset relates) fails.0;
        drawn = is.drawn ∙ ap (memory_behind memory) fails.0;
        cause = fails.1;
        images = fails.2;
      })
    ]) (said_goes tell gives (effect_in asked moment) is.said before now says)

replies_by :
    (host : List ℕ) (relates : Option MessageId) (asked : Asked) (charset : Charset) (moment : ℕ) (answer : Answer) (memory memory_now : Memory) (before now : Store) →
    IsAnswer host (record { relates = relates; asked = asked }) charset moment answer memory memory_now before now →
    GoesByRows host asked (record { relates = relates; asked = asked }) charset moment answer memory memory_now before now
replies_by host relates (Refused name) charset moment answer memory memory_now before now is =
    let stepped = is.stepped in
    (is.written ∙ ap (answer_of memory.ids charset relates) stepped.0, is.drawn ∙ ap (memory_behind memory) stepped.0, stepped.1)
replies_by host relates (Enumerate s) charset moment answer memory memory_now before now is =
    reply_goes Offers (λ rows. offers rows s host) host relates (Enumerate s) charset moment answer memory memory_now before now (λ found e. refl) is (offers_answered host s is.said before now is.stepped)
replies_by host relates (Unread u) charset moment answer memory memory_now before now is =
    reply_goes (batch_said false) (λ rows. tt) host relates (Unread u) charset moment answer memory memory_now before now (λ found e. refl) is is.stepped.0
replies_by host relates (Take u s batch) charset moment answer memory memory_now before now is =
    reply_goes (batch_said batch.ack_wanted) (λ rows. tt) host relates (Take u s batch) charset moment answer memory memory_now before now (λ found e. refl) is is.stepped
replies_by host relates (Heartbeat u s ack) charset moment answer memory memory_now before now is =
    reply_goes (batch_said ack) (λ rows. tt) host relates (Heartbeat u s ack) charset moment answer memory memory_now before now (λ found e. refl) is is.stepped
replies_by host relates (UnreadEnd u) charset moment answer memory memory_now before now is =
    reply_goes (batch_said false) (λ rows. tt) host relates (UnreadEnd u) charset moment answer memory memory_now before now (λ found e. refl) is is.stepped.0
replies_by host relates (asks.Ended u s identifier) charset moment answer memory memory_now before now is =
    reply_goes (batch_said false) (λ rows. tt) host relates (asks.Ended u s identifier) charset moment answer memory memory_now before now (λ found e. refl) is is.stepped

pub answers_are_replies :
    (host : List ℕ) (heard : Heard) (charset : Charset) (moment : ℕ) (answer : Answer) (memory memory_now : Memory) (before now : Store) →
    IsAnswer host heard charset moment answer memory memory_now before now →
    GoesByRows host heard.asked heard charset moment answer memory memory_now before now
answers_are_replies host heard charset moment answer memory memory_now before now is = replies_by host heard.relates heard.asked charset moment answer memory memory_now before now is

-- ---- an answer, by the plan

-- what is said is what the plan gives
abbrev Planned : List ℕ → Asked → ℕ → Said → Store → Rows → Type 0
Planned host asked moment said before found =
    IfSome before.plan (λ planned. AreFormed found → said ≡ said_planned planned host asked found (effect_in asked moment found))

module _ {T : Type 0} (tell : T → Said) (gives : Rows → T) (host : List ℕ) (asked : Asked) (moment : ℕ) (same : (found : Rows) (e : Effect) → said_where tell (gives found) e ≡ said_by host asked found e) where
  done_planned : (planned : Plan) (found : Rows) (done : T) (effect : Effect) (Then : List Change → Type 0) → done ≡ gives found
      → WhereMade effect (λ changes. (is_planned changes planned ≡ true) × Then changes) → tell done ≡ said_planned planned host asked found effect
  done_planned planned found done (Ok changes) Then is made =
      ap tell is ∙ same found (Ok changes) ∙ sym (ap (λ b. cond b (said_by host asked found (Ok changes)) (Fault the.InternalError)) made.0)
  done_planned planned found done (Err fault) Then is made = absurd made

  failed_planned : (planned : Plan) (found : Rows) (effect : Effect) (Before After : List Change → Type 0)
      → WhereMade effect (λ changes. (is_planned changes planned ≡ false) × Before changes × After changes) → Fault the.InternalError ≡ said_planned planned host asked found effect
  failed_planned planned found (Ok changes) Before After made = sym (ap (λ b. cond b (said_by host asked found (Ok changes)) (Fault the.InternalError)) made.0)
  failed_planned planned found (Err fault) Before After made = absurd made

  refused_planned : (planned : Plan) (found : Rows) (effect : Effect) (fault : CollectorFault) → effect ≡ Err fault → Fault (fault_for fault) ≡ said_planned planned host asked found effect
  refused_planned planned found effect fault is = same found (Err fault) ∙ sym (ap (said_planned planned host asked found) is)

  -- a refusal of the collector's own
  own_planned : (fault : CollectorFault) (said : Said) (before now : Store) → collector_store fault ≡ None → CallsFor gives (effect_in asked moment) (Err fault) before now → said ≡ Fault (fault_for fault)
      → From before now (λ found after. Planned host asked moment said before found)
  own_planned fault said before now own call is =
      from_weaker _ (λ found after. Planned host asked moment said before found) before now
      (λ found after did.
      let answer = subst (λ (kind : Option StoreFault). AnswersFault kind fault (effect_in asked moment found) found after) own did.answer in
      told_any before.plan _ (λ planned formed. is ∙ refused_planned planned found (effect_in asked moment found) fault answer.0)) call.did

  said_by_plan : (said : Said) (before now : Store) → SaysFor IsAnswered tell gives (effect_in asked moment) said before now → From before now (λ found after. Planned host asked moment said before found)
  said_by_plan said before now (Ok done, call, answered, is) =
      from_weaker _ (λ found after. Planned host asked moment said before found) before now
      (λ found after did. told_map before.plan _ _
      (λ planned goes formed. is ∙ done_planned planned found done (effect_in asked moment found) (λ changes. now.plan ≡ Some (plan_with changes planned)) did.answer.1 goes) did.planned) call.did
  said_by_plan said before now (Err NoSubscription, call, answered, is) = own_planned NoSubscription said before now refl call is
  said_by_plan said before now (Err Ended, call, answered, is) = own_planned Ended said before now refl call is
  said_by_plan said before now (Err NotWellFormed, call, answered, is) = own_planned NotWellFormed said before now refl call is
  said_by_plan said before now (Err Failed, call, answered, is) =
      from_weaker _ (λ found after. Planned host asked moment said before found) before now
      (λ found after did. told_map before.plan _ _
      (λ planned goes formed. is ∙ failed_planned planned found (effect_in asked moment found) (λ changes. now.plan ≡ Some Done) (λ changes. after ≡ outcome planned changes found) (goes formed)) did.planned) call.did
  said_by_plan said before now (Err NoMemory, call, answered, is) = absurd answered
  said_by_plan said before now (Err Exists, call, answered, is) = absurd answered
  said_by_plan said before now (Err TooMany, call, answered, is) = absurd answered
  said_by_plan said before now (Err NotAsked, call, answered, is) = absurd answered
  said_by_plan said before now (Err Full, call, answered, is) = absurd answered

answer_by_plan :
    (host : List ℕ) (relates : Option MessageId) (asked : Asked) (charset : Charset) (moment : ℕ) (answer : Answer) (memory memory_now : Memory) (before now : Store) →
    (is : IsAnswer host (record { relates = relates; asked = asked }) charset moment answer memory memory_now before now) →
    From before now (λ found after. Planned host asked moment is.said before found) →
    From before now (λ found after. IfSome before.plan (λ planned. AreFormed found → answer ≡ answer_of memory.ids charset relates (said_planned planned host asked found (effect_in asked moment found))))
answer_by_plan host relates asked charset moment answer memory memory_now before now is from =
    from_weaker (λ found after. Planned host asked moment is.said before found)
    (λ found after. IfSome before.plan (λ planned. AreFormed found → answer ≡ answer_of memory.ids charset relates (said_planned planned host asked found (effect_in asked moment found)))) before now
    (λ found after goes. told_map before.plan (λ planned. AreFormed found → is.said ≡ said_planned planned host asked found (effect_in asked moment found)) _
    (λ planned said formed. is.written ∙ ap (answer_of memory.ids charset relates) (said formed)) goes) from

plans_by :
    (host : List ℕ) (relates : Option MessageId) (asked : Asked) (charset : Charset) (moment : ℕ) (answer : Answer) (memory memory_now : Memory) (before now : Store) →
    IsAnswer host (record { relates = relates; asked = asked }) charset moment answer memory memory_now before now →
    GoesByPlan host asked (record { relates = relates; asked = asked }) charset moment answer memory before now
plans_by host relates (Refused name) charset moment answer memory memory_now before now is = tt
plans_by host relates (Enumerate s) charset moment answer memory memory_now before now is =
    answer_by_plan host relates (Enumerate s) charset moment answer memory memory_now before now is
    (said_by_plan Offers (λ rows. offers rows s host) host (Enumerate s) moment (λ found e. refl) is.said before now (offers_answered host s is.said before now is.stepped))
plans_by host relates (Unread u) charset moment answer memory memory_now before now is =
    answer_by_plan host relates (Unread u) charset moment answer memory memory_now before now is
    (said_by_plan (batch_said false) (λ rows. tt) host (Unread u) moment (λ found e. refl) is.said before now is.stepped.0)
plans_by host relates (Take u s batch) charset moment answer memory memory_now before now is =
    answer_by_plan host relates (Take u s batch) charset moment answer memory memory_now before now is
    (said_by_plan (batch_said batch.ack_wanted) (λ rows. tt) host (Take u s batch) moment (λ found e. refl) is.said before now is.stepped)
plans_by host relates (Heartbeat u s ack) charset moment answer memory memory_now before now is =
    answer_by_plan host relates (Heartbeat u s ack) charset moment answer memory memory_now before now is
    (said_by_plan (batch_said ack) (λ rows. tt) host (Heartbeat u s ack) moment (λ found e. refl) is.said before now is.stepped)
plans_by host relates (UnreadEnd u) charset moment answer memory memory_now before now is =
    answer_by_plan host relates (UnreadEnd u) charset moment answer memory memory_now before now is
    (said_by_plan (batch_said false) (λ rows. tt) host (UnreadEnd u) moment (λ found e. refl) is.said before now is.stepped.0)
plans_by host relates (asks.Ended u s identifier) charset moment answer memory memory_now before now is =
    answer_by_plan host relates (asks.Ended u s identifier) charset moment answer memory memory_now before now is
    (said_by_plan (batch_said false) (λ rows. tt) host (asks.Ended u s identifier) moment (λ found e. refl) is.said before now is.stepped)

pub answers_go_by_plan :
    (host : List ℕ) (heard : Heard) (charset : Charset) (moment : ℕ) (answer : Answer) (memory memory_now : Memory) (before now : Store) →
    IsAnswer host heard charset moment answer memory memory_now before now →
    GoesByPlan host heard.asked heard charset moment answer memory before now
answers_go_by_plan host heard charset moment answer memory memory_now before now is = plans_by host heard.relates heard.asked charset moment answer memory memory_now before now is
