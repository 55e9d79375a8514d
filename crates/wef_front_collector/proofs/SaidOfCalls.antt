-- A call of the collector, and what is said of how it went.
use Rattle.std.proofs.Common.{◌≡◌, ℕ, Bool, true, false, List, refl, sym, subst}
use Rattle.std.specs.Prelude.{Result, IfErr, IfOk, IfSome, IsErr, OnOk}
use Rattle.std.specs.declared.result.Result.TheVariants.{Ok, Err}
use Rattle.wef_keeper.proofs.Calls.{found_weaker}
use Rattle.wef_keeper.proofs.Told.{told_both}
use Rattle.wef_keeper.specs.Access.{AnyFound}
use Rattle.wef_keeper.specs.Calls.{Answers, Did, DidWith, DoesWith}
use Rattle.wef_keeper.specs.Keeping.{Store}
use Rattle.wef_keeper.specs.Rows.{Rows}
use Rattle.wef_collector_rows.specs.declared.faults.CollectorFault.{CollectorFault}
use Rattle.wef_collector_rows.specs.declared.faults.CollectorFault.TheVariants.{NoMemory, NoSubscription, Exists, Ended, NotWellFormed, NotAsked, TooMany, Failed, Full}
use Rattle.wef_batch.specs.declared.items.Batch.{Batch}
use Rattle.wef_collector.specs.Calls.{Effect, OfEnd, OfKnown, OfTake, OfUnreadEnd, hear_effect, no_effect, source_ended_effect, take_effect, unread_effect, unread_end_effect}
use Rattle.wef_collector.specs.Judged.{AreOffersJudged, JudgesHear, JudgesSourceEnded, JudgesTake}
use Rattle.wef_collector_rows.specs.Answers.{IsOfStore}
use Rattle.wef_collector_rows.specs.Faults.{collector_store}
use Rattle.wef_collector_rows.specs.Forms.{AreFormed}
use Rattle.wef_collector_rows.specs.Judged.{JudgesName}
use Rattle.wef_envelope.specs.Faults.{is_known}
use Rattle.wef_front_collector.specs.Judged.{JudgesBatch, JudgesCall, JudgesEnd, JudgesHeartbeat, JudgesOffers, JudgesUnread, JudgesUnreadEnd}
use Rattle.wef_front_collector.specs.Steps.{Calls, CallsFor, IsAnswered, IsFailure, IsFault, IsKnownSaid, Says, SaysFor, SaysOffers, batch_said, fault_for, said_of, said_with}
use Rattle.wef_front_collector.specs.declared.saying.Said.TheVariants.{Offers}
use Rattle.wef_collector.specs.Offers.{CanAllBeOffered, offers}
use Rattle.wef_eventing.specs.declared.offers.Offer.{Offer}
use Rattle.wef_front_collector.specs.declared.saying.Said.{Said}

says_for :
    {T E : Type 0} (Refuses : CollectorFault → Type 0) (tell : T → Said) (gives : Rows → T) (effect : Rows → Effect) (done : Result T CollectorFault) (result : Result Said E) (before now : Store) →
    CallsFor gives effect done before now → IfOk result (λ said. IfErr done Refuses) → IfOk result (λ said. said ≡ said_with tell done) →
    IfOk result (λ said. SaysFor Refuses tell gives effect said before now)
says_for Refuses tell gives effect done (Ok said) before now call answered is = (done, call, answered, is)
says_for Refuses tell gives effect done (Err fault) before now call answered is = tt

-- of a batch
pub says_of :
    {E : Type 0} (ack : Bool) (effect : Rows → Effect) (done : Result (Unit {0}) CollectorFault) (result : Result Said E) (before now : Store) →
    Calls effect done before now → IfOk result (λ said. IfErr done IsAnswered) → IfOk result (λ said. said ≡ said_of ack done) → IfOk result (λ said. Says ack effect said before now)
says_of ack effect done result before now call answered is = says_for IsAnswered (batch_said ack) (λ rows. tt) effect done result before now call answered is

-- of the offers to a source
pub offers_of :
    {E : Type 0} (host s : List ℕ) (done : Result (List Offer) CollectorFault) (result : Result Said E) (before now : Store) →
    CallsFor (λ rows. offers rows s host) no_effect done before now → IfOk result (λ said. IfErr done IsFailure) → IfOk result (λ said. said ≡ said_with Offers done) →
    IfOk result (λ said. SaysOffers host s said before now)
offers_of host s done result before now call answered is = says_for IsFailure Offers (λ rows. offers rows s host) no_effect done result before now call answered is

-- what is refused is said to be a fault
refused_said : {E : Type 0} (done : Result (Unit {0}) CollectorFault) (result : Result Said E) → IsErr done → IfOk result (λ said. said ≡ said_of false done) → IfOk result IsFault
refused_said (Ok done) result refused is = let bad : ⊥ = cc in absurd bad
refused_said (Err fault) (Ok said) refused is = subst IsFault (sym is) tt
refused_said (Err fault) (Err wanting) refused is = tt

if_both : {E : Type 0} (P Q : Said → Type 0) (result : Result Said E) → IfOk result P → IfOk result Q → IfOk result (λ said. P said × Q said)
if_both P Q (Ok said) p q = (p, q)
if_both P Q (Err fault) p q = tt

pub unread_of :
    {E : Type 0} (effect : Rows → Effect) (done : Result (Unit {0}) CollectorFault) (result : Result Said E) (before now : Store) →
    Calls effect done before now → IsErr done → IfOk result (λ said. IfErr done IsAnswered) → IfOk result (λ said. said ≡ said_of false done) →
    IfOk result (λ said. Says false effect said before now × IsFault said)
unread_of effect done result before now call refused answered is =
    if_both (λ said. Says false effect said before now) IsFault result (says_of false effect done result before now call answered is) (refused_said done result refused is)

-- ---- what was judged

judged_so :
    {T E : Type 0} (tell : T → Said) (gives : Rows → T) (effect : Rows → Effect) (Fact : Result T CollectorFault → Rows → Type 0) (done : Result T CollectorFault) (result : Result Said E) (before now : Store) →
    DoesWith collector_store AreFormed effect gives (λ answer found after. Fact answer found) done before now → IfOk result (λ said. said ≡ said_with tell done) →
    IfOk result (λ said. JudgesCall tell gives effect Fact said before now)
judged_so tell gives effect Fact done (Ok said) before now does is = (done, is, does)
judged_so tell gives effect Fact done (Err fault) before now does is = tt

pub batch_judged :
    {E : Type 0} (u s : List ℕ) (batch : Batch) (moment : ℕ) (done : Result (Unit {0}) CollectorFault) (result : Result Said E) (before now : Store) →
    DoesWith collector_store AreFormed (λ rows. take_effect rows u s batch moment) (λ _. tt) (λ answer found after. JudgesTake answer found u s batch) done before now →
    IfOk result (λ said. said ≡ said_of batch.ack_wanted done) → IfOk result (λ said. JudgesBatch u s batch moment said before now)
batch_judged u s batch moment done result before now does is =
    judged_so (batch_said batch.ack_wanted) (λ _. tt) (λ rows. take_effect rows u s batch moment) (λ answer found. JudgesTake answer found u s batch) done result before now does is

pub heartbeat_judged :
    {E : Type 0} (u s : List ℕ) (ack : Bool) (moment : ℕ) (done : Result (Unit {0}) CollectorFault) (result : Result Said E) (before now : Store) →
    DoesWith collector_store AreFormed (λ rows. hear_effect rows u s moment) (λ _. tt) (λ answer found after. JudgesHear answer found u s) done before now →
    IfOk result (λ said. said ≡ said_of ack done) → IfOk result (λ said. JudgesHeartbeat u s ack moment said before now)
heartbeat_judged u s ack moment done result before now does is =
    judged_so (batch_said ack) (λ _. tt) (λ rows. hear_effect rows u s moment) (λ answer found. JudgesHear answer found u s) done result before now does is

pub unread_judged :
    {E : Type 0} (u : List ℕ) (done : Result (Unit {0}) CollectorFault) (result : Result Said E) (before now : Store) →
    DoesWith collector_store AreFormed (λ rows. unread_effect rows u) (λ _. tt) (λ answer found after. JudgesName answer found u) done before now →
    IfOk result (λ said. said ≡ said_of false done) → IfOk result (λ said. JudgesUnread u said before now)
unread_judged u done result before now does is =
    judged_so (batch_said false) (λ _. tt) (λ rows. unread_effect rows u) (λ answer found. JudgesName answer found u) done result before now does is

pub unread_end_judged :
    {E : Type 0} (u : List ℕ) (done : Result (Unit {0}) CollectorFault) (result : Result Said E) (before now : Store) →
    DoesWith collector_store AreFormed (λ rows. unread_end_effect rows u) (λ _. tt) (λ answer found after. JudgesName answer found u) done before now →
    IfOk result (λ said. said ≡ said_of false done) → IfOk result (λ said. JudgesUnreadEnd u said before now)
unread_end_judged u done result before now does is =
    judged_so (batch_said false) (λ _. tt) (λ rows. unread_end_effect rows u) (λ answer found. JudgesName answer found u) done result before now does is

pub end_judged :
    {E : Type 0} (u s identifier : List ℕ) (done : Result (Unit {0}) CollectorFault) (result : Result Said E) (before now : Store) →
    DoesWith collector_store AreFormed (λ rows. source_ended_effect rows u s identifier) (λ _. tt) (λ answer found after. JudgesSourceEnded answer found u s) done before now →
    IfOk result (λ said. said ≡ said_of false done) → IfOk result (λ said. JudgesEnd u s identifier said before now)
end_judged u s identifier done result before now does is =
    judged_so (batch_said false) (λ _. tt) (λ rows. source_ended_effect rows u s identifier) (λ answer found. JudgesSourceEnded answer found u s) done result before now does is

-- a call that only reads leaves the rows that it found, so what was judged of these is a fact of those
kept_judged : (s : List ℕ) (gives : Rows → List Offer) (done : Result (List Offer) CollectorFault) (found after : Rows) → Answers collector_store done (gives found) (no_effect found) found after
    → OnOk done (AreOffersJudged after s) → OnOk done (AreOffersJudged found s)
kept_judged s gives (Ok list) found after answer judged = subst (λ (rows : Rows). AreOffersJudged rows s) answer.0 judged
kept_judged s gives (Err fault) found after answer judged = tt

pub offers_judged :
    {E : Type 0} (host s : List ℕ) (done : Result (List Offer) CollectorFault) (result : Result Said E) (before now : Store) →
    CallsFor (λ rows. offers rows s host) no_effect done before now → IfSome now.rows (λ rows. OnOk done (AreOffersJudged rows s)) → IfOk result (λ said. said ≡ said_with Offers done) →
    IfOk result (λ said. JudgesOffers host s said before now)
offers_judged host s done result before now call judged is =
    judged_so Offers gives no_effect Fact done result before now
    (told_both now.rows (λ after. AnyFound before.images (λ found. IsDone found after)) (λ after. OnOk done (AreOffersJudged after s)) (λ after. AnyFound before.images (λ found. IsDoneWith found after)) call.did judged
    (λ after any fact.
    found_weaker (λ found. IsDone found after) (λ found. IsDoneWith found after) before.images
    (λ found did. record { did = did; fact = kept_judged s gives done found after did.answer fact }) any)) is
  where
    gives : Rows → List Offer
    gives rows = offers rows s host

    Fact : Result (List Offer) CollectorFault → Rows → Type 0
    Fact answer found = OnOk answer (AreOffersJudged found s)

    IsDone : Rows → Rows → Type 0
    IsDone found after = Did collector_store AreFormed no_effect gives done before now found after

    IsDoneWith : Rows → Rows → Type 0
    IsDoneWith found after = DidWith collector_store AreFormed no_effect gives (λ answer found after. Fact answer found) done before now found after

-- ---- the names of what is said

fault_known : (fault : CollectorFault) → is_known (fault_for fault) ≡ true
fault_known NoMemory = refl
fault_known _ = refl

-- what is said of a batch has a name of the table, if it is a fault
pub said_known : (ack : Bool) (done : Result (Unit {0}) CollectorFault) → IsKnownSaid (said_of ack done)
said_known true (Ok done) = tt
said_known false (Ok done) = tt
said_known ack (Err fault) = fault_known fault

pub says_known : (ack : Bool) (effect : Rows → Effect) (said : Said) (before now : Store) → Says ack effect said before now → IsKnownSaid said
says_known ack effect said before now (done, call, answered, is) = subst IsKnownSaid (sym is) (said_known ack done)

-- so has what is said where offers were asked for, and their texts can stand in a message
pub offers_known : (done : Result (List Offer) CollectorFault) → IfOk done CanAllBeOffered → IsKnownSaid (said_with Offers done)
offers_known (Ok list) can = can
offers_known (Err fault) can = fault_known fault

-- ---- refusals

-- what is said of offers is said as of any call
pub offers_answered : (host s : List ℕ) (said : Said) (before now : Store) → SaysOffers host s said before now → SaysFor IsAnswered Offers (λ rows. offers rows s host) no_effect said before now
offers_answered host s said before now (Ok list, call, answered, is) = (Ok list, call, tt, is)
offers_answered host s said before now (Err Failed, call, answered, is) = (Err Failed, call, tt, is)
offers_answered host s said before now (Err NoMemory, call, answered, is) = absurd answered
offers_answered host s said before now (Err NoSubscription, call, answered, is) = absurd answered
offers_answered host s said before now (Err Exists, call, answered, is) = absurd answered
offers_answered host s said before now (Err Ended, call, answered, is) = absurd answered
offers_answered host s said before now (Err NotWellFormed, call, answered, is) = absurd answered
offers_answered host s said before now (Err TooMany, call, answered, is) = absurd answered
offers_answered host s said before now (Err NotAsked, call, answered, is) = absurd answered
offers_answered host s said before now (Err Full, call, answered, is) = absurd answered

-- a refusal of the store that is answered says that the store failed
pub store_failed : {E : Type 0} (fault : CollectorFault) (result : Result Said E) → IsOfStore fault → IfOk result (λ said. IsAnswered fault) → IfOk result (λ said. IsFailure fault)
store_failed fault (Err wanting) of answered = tt
store_failed Failed (Ok said) of answered = tt
store_failed NoMemory (Ok said) of answered = absurd answered
store_failed NoSubscription (Ok said) of answered = absurd of
store_failed Exists (Ok said) of answered = absurd of
store_failed Ended (Ok said) of answered = absurd of
store_failed NotWellFormed (Ok said) of answered = absurd of
store_failed TooMany (Ok said) of answered = absurd of
store_failed NotAsked (Ok said) of answered = absurd of
store_failed Full (Ok said) of answered = absurd of

-- a call that only reads is refused by its store alone, as one that takes a batch may be
pub store_taken : (fault : CollectorFault) → IsOfStore fault → OfTake fault
store_taken NoMemory of = tt
store_taken NoSubscription of = absurd of
store_taken Exists of = absurd of
store_taken Ended of = absurd of
store_taken NotWellFormed of = absurd of
store_taken TooMany of = absurd of
store_taken Failed of = tt
store_taken NotAsked of = absurd of
store_taken Full of = absurd of

-- what refuses a heartbeat may refuse a batch
end_so : (fault : CollectorFault) → OfEnd fault → OfTake fault
end_so NoMemory of = tt
end_so NoSubscription of = tt
end_so Exists of = absurd of
end_so Ended of = tt
end_so NotWellFormed of = tt
end_so NotAsked of = absurd of
end_so TooMany of = absurd of
end_so Failed of = tt
end_so Full of = absurd of

pub end_taken : (done : Result (Unit {0}) CollectorFault) → IfErr done OfEnd → IfErr done OfTake
end_taken (Ok done) of = tt
end_taken (Err fault) of = end_so fault of

-- so may what refuses the end of a subscription
known_so : (fault : CollectorFault) → OfKnown fault → OfTake fault
known_so NoMemory of = tt
known_so NoSubscription of = tt
known_so Exists of = absurd of
known_so Ended of = tt
known_so NotWellFormed of = tt
known_so NotAsked of = absurd of
known_so TooMany of = absurd of
known_so Failed of = tt
known_so Full of = absurd of

pub known_taken : (done : Result (Unit {0}) CollectorFault) → IfErr done OfKnown → IfErr done OfTake
known_taken (Ok done) of = tt
known_taken (Err fault) of = known_so fault of

-- and so may what refuses one that couldn't be read
unread_so : (fault : CollectorFault) → OfUnreadEnd fault → OfTake fault
unread_so NoMemory of = tt
unread_so NoSubscription of = tt
unread_so Exists of = absurd of
unread_so Ended of = tt
unread_so NotWellFormed of = tt
unread_so NotAsked of = absurd of
unread_so TooMany of = absurd of
unread_so Failed of = tt
unread_so Full of = absurd of

pub unread_end_taken : (done : Result (Unit {0}) CollectorFault) → IfErr done OfUnreadEnd → IfErr done OfTake
unread_end_taken (Ok done) of = tt
unread_end_taken (Err fault) of = unread_so fault of
