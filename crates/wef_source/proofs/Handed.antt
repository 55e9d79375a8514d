-- A source hands on what its log did: what is said of the log's call is true of the source's.
use Rattle.std.proofs.Common.{◌≡◌, true, false, refl, ap, subst, inl, inr}
use Rattle.std.specs.List.{AllByRecursion}
use Rattle.std.specs.Prelude.{ℕ, Option, Some, None, Result, Ok, Err, IfOk, IfSome, List, [], ◌∷◌}
use Rattle.wef_base.specs.Counts.{Rose}
use Rattle.wef_keeper.specs.Access.{AnyOf, From, OpensAndReads, is_planned, plan_with, tries_with}
use Rattle.wef_keeper.specs.Calls.{AllLeft, AnswersFault, Did, DidWith, DoesWith, Effect, FaultByPlan, FaultByTries, FaultReadied, IsCall, Looks, Makes, MayLeave, OnFaultImages, WhereMade, is_failure}
use Rattle.wef_keeper.specs.Keeping.{IsOneOf, Store, outcome}
use Rattle.wef_keeper.specs.Rows.{Rows}
use Rattle.wef_keeper.specs.declared.access.StoreFault.{StoreFault}
use Rattle.wef_keeper.specs.declared.access.StoreFault.TheVariants as store
use Rattle.wef_keeper.specs.declared.keeping.Plan.{Plan}
use Rattle.wef_keeper.specs.declared.keeping.Plan.TheVariants.{Done}
use Rattle.wef_keeper.specs.declared.keys.Change.{Change}
use Rattle.wef_keeper.proofs.Calls.{from_weaker}
use Rattle.wef_keeper.proofs.Told.{told_map}
use Rattle.wef_source_log.specs.Faults.{log_store}
use Rattle.wef_source_log.specs.Forms.{AreFormed}
use Rattle.wef_source_log.specs.Judged as judged
use Rattle.wef_source_log.specs.declared.faults.LogFault.{LogFault}
use Rattle.wef_source_log.specs.declared.faults.LogFault.TheVariants.{NoMemory, Failed, Full, TooLong}
use Rattle.wef_source.specs.Calls.{JudgesStart, JudgesWrite}
use Rattle.wef_building.specs.Faults.{source_answer, source_fault, source_store}
use Rattle.wef_building.specs.declared.faults.SourceFault.{SourceFault}

-- a fault of the store stays the same one
pub one_store : (fault : LogFault) → log_store fault ≡ source_store (source_fault fault)
one_store NoMemory = refl
one_store Failed = refl
one_store Full = refl
one_store TooLong = refl

made : (effect : Effect LogFault) (P : List Change → Type 0) → WhereMade effect P → WhereMade (source_answer effect) P
made (Ok changes) P holds = holds
made (Err fault) P holds = absurd holds

makes : (effect : Effect LogFault) (found after : Rows) → Makes effect found after → Makes (source_answer effect) found after
makes (Ok changes) found after holds = holds
makes (Err fault) found after holds = absurd holds

answers : (kind : Option StoreFault) (fault : LogFault) (effect : Effect LogFault) (found after : Rows) → AnswersFault kind fault effect found after
    → AnswersFault kind (source_fault fault) (source_answer effect) found after
answers (Some store.NoMemory) fault effect found after holds = holds
answers (Some store.Failed) fault effect found after holds = tt
answers None fault effect found after holds = (ap source_answer holds.0, holds.1)

by_plan : (kind : Option StoreFault) (planned : Plan) (effect : Effect LogFault) (found after : Rows) (now : Store) → FaultByPlan kind AreFormed planned effect found after now
    → FaultByPlan kind AreFormed planned (source_answer effect) found after now
by_plan (Some store.NoMemory) planned effect found after now holds = holds
by_plan (Some store.Failed) planned effect found after now holds =
    λ formed. made effect (λ changes. (is_planned changes planned ≡ false) × (now.plan ≡ Some Done) × (after ≡ outcome planned changes found)) (holds formed)
by_plan None planned effect found after now holds = holds

-- ---- images

leave : (effect : Rows → Effect LogFault) (image found : Rows) → MayLeave effect image found → MayLeave (λ rows. source_answer (effect rows)) image found
leave effect image found either = elim either [ inl is ↦ inl is | inr is ↦ inr (makes (effect found) found image is) ]

leave_any : (effect : Rows → Effect LogFault) (image : Rows) (old : List Rows) → AnyOf old (MayLeave effect image) → AnyOf old (MayLeave (λ rows. source_answer (effect rows)) image)
leave_any effect image [] any = any
leave_any effect image (found ∷ []) any = leave effect image found any
leave_any effect image (found ∷ next ∷ old) any = elim any [ inl one ↦ inl (leave effect image found one) | inr later ↦ inr (leave_any effect image (next ∷ old) later) ]

leave_all : (effect : Rows → Effect LogFault) (old left : List Rows) → AllByRecursion (λ image. AnyOf old (MayLeave effect image)) left
    → AllByRecursion (λ image. AnyOf old (MayLeave (λ rows. source_answer (effect rows)) image)) left
leave_all effect old [] all = tt
leave_all effect old (image ∷ left) all = (leave_any effect image old all.0, leave_all effect old left all.1)

all_leave : (effect : Rows → Effect LogFault) (found : Rows) (left : List Rows) → AllByRecursion (λ image. MayLeave effect image found) left
    → AllByRecursion (λ image. MayLeave (λ rows. source_answer (effect rows)) image found) left
all_leave effect found [] all = tt
all_leave effect found (image ∷ left) all = (leave effect image found all.0, all_leave effect found left all.1)

left_of : (effect : Rows → Effect LogFault) (images : Option (List Rows)) (left : List Rows) → AllLeft images effect left → AllLeft images (λ rows. source_answer (effect rows)) left
left_of effect None left all = (all.0, all_leave effect all.0 left all.1)
left_of effect (Some old) left all = leave_all effect old left all

images : (kind : Option StoreFault) (effect : Rows → Effect LogFault) (before now : Store) → OnFaultImages kind effect before now → OnFaultImages kind (λ rows. source_answer (effect rows)) before now
images (Some store.NoMemory) effect before now holds = tt
images (Some store.Failed) effect before now holds =
    told_map now.images (AllLeft before.images effect) (AllLeft before.images (λ rows. source_answer (effect rows))) (left_of effect before.images) holds
images None effect before now holds = tt

-- ---- a call

did : {T : Type 0} (effect : Rows → Effect LogFault) (value : Rows → T) (answer : Result T LogFault) (before now : Store) (found after : Rows)
    → Did log_store AreFormed effect value answer before now found after → Did source_store AreFormed (λ rows. source_answer (effect rows)) value (source_answer answer) before now found after
did effect value (Ok answer) before now found after done = record {
  answer = (makes (effect found) found after done.answer.0, done.answer.1);
  planned = told_map before.plan
      (λ planned. WhereMade (effect found) (λ changes. (is_planned changes planned ≡ true) × (now.plan ≡ Some (plan_with changes planned))))
      (λ planned. WhereMade (source_answer (effect found)) (λ changes. (is_planned changes planned ≡ true) × (now.plan ≡ Some (plan_with changes planned))))
      (λ planned. made (effect found) (λ changes. (is_planned changes planned ≡ true) × (now.plan ≡ Some (plan_with changes planned)))) done.planned;
  tries = made (effect found) (λ changes. now.tries ≡ tries_with changes before.tries) done.tries;
  formed = done.formed;
}
did effect value (Err fault) before now found after done =
    let given = source_answer (effect found) in
    record {
      answer = subst (λ (kind : Option StoreFault). AnswersFault kind (source_fault fault) given found after) (one_store fault) (answers (log_store fault) fault (effect found) found after done.answer);
      planned = subst (λ (kind : Option StoreFault). IfSome before.plan (λ planned. FaultByPlan kind AreFormed planned given found after now)) (one_store fault)
          (told_map before.plan (λ planned. FaultByPlan (log_store fault) AreFormed planned (effect found) found after now) (λ planned. FaultByPlan (log_store fault) AreFormed planned given found after now)
          (λ planned. by_plan (log_store fault) planned (effect found) found after now) done.planned);
      tries = subst (λ (kind : Option StoreFault). FaultByTries kind before.tries now.tries) (one_store fault) done.tries;
      formed = subst (λ (kind : Option StoreFault). is_failure kind ≡ false → AreFormed found → AreFormed after) (one_store fault) done.formed;
    }

did_from : {T : Type 0} (effect : Rows → Effect LogFault) (value : Rows → T) (answer : Result T LogFault) (before now : Store) → IsCall log_store AreFormed effect value answer before now
    → From before now (Did source_store AreFormed (λ rows. source_answer (effect rows)) value (source_answer answer) before now)
did_from effect value answer before now call =
    from_weaker (Did log_store AreFormed effect value answer before now) (Did source_store AreFormed (λ rows. source_answer (effect rows)) value (source_answer answer) before now) before now
    (did effect value answer before now) call.did

pub handed : {T : Type 0} (effect : Rows → Effect LogFault) (value : Rows → T) (answer : Result T LogFault) (before now : Store) → IsCall log_store AreFormed effect value answer before now
    → IsCall source_store AreFormed (λ rows. source_answer (effect rows)) value (source_answer answer) before now
handed effect value (Ok answer) before now call = record {
  did = did_from effect value (Ok answer) before now call;
  images = tt;
  once = call.once;
  cause = call.cause;
  faults = call.faults;
  ready = call.ready;
  formed = call.formed;
  untold = call.untold;
  opened = call.opened;
}
handed effect value (Err fault) before now call = record {
  did = did_from effect value (Err fault) before now call;
  images = subst (λ (kind : Option StoreFault). OnFaultImages kind (λ rows. source_answer (effect rows)) before now) (one_store fault) (images (log_store fault) effect before now call.images);
  once = subst (λ (kind : Option StoreFault). FaultByTries kind before.tries now.tries) (one_store fault) call.once;
  cause = subst (λ (kind : Option StoreFault). is_failure kind ≡ true → IfSome now.rows (λ rows. AreFormed rows → Rose before.faults now.faults)) (one_store fault) call.cause;
  faults = call.faults;
  ready = subst (λ (kind : Option StoreFault). FaultReadied kind now) (one_store fault) call.ready;
  formed = call.formed;
  untold = call.untold;
  opened = call.opened;
}

-- a fact of the rows that the log's call found is told as one of the source's
pub handed_with : {T : Type 0} (effect : Rows → Effect LogFault) (value : Rows → T) (Given : Result T LogFault → Rows → Rows → Type 0) (Fact : Result T SourceFault → Rows → Rows → Type 0) (answer : Result T LogFault) (before now : Store)
    → ((found after : Rows) → Given answer found after → Fact (source_answer answer) found after) → DoesWith log_store AreFormed effect value Given answer before now
    → DoesWith source_store AreFormed (λ rows. source_answer (effect rows)) value Fact (source_answer answer) before now
handed_with effect value Given Fact answer before now gives does =
    from_weaker (DidWith log_store AreFormed effect value Given answer before now) (DidWith source_store AreFormed (λ rows. source_answer (effect rows)) value Fact (source_answer answer) before now) before now
    (λ found after with. record { did = did effect value answer before now found after with.did; fact = gives found after with.fact }) does

-- what a start of the log has read, the source's has
pub start_judged : {T : Type 0} (answer : Result T LogFault) (rows : Rows) → judged.JudgesStart answer rows → JudgesStart (source_answer answer) rows
start_judged (Ok answer) rows read = read
start_judged (Err NoMemory) rows read = read
start_judged (Err Failed) rows read = read
start_judged (Err Full) rows read = read
start_judged (Err TooLong) rows read = read

-- and what a write has
pub write_judged : {T : Type 0} (answer : Result T LogFault) (c : List ℕ) (rows : Rows) → judged.JudgesWrite answer c rows → JudgesWrite (source_answer answer) c rows
write_judged (Ok answer) c rows read = read
write_judged (Err NoMemory) c rows read = read
write_judged (Err Failed) c rows read = read
write_judged (Err Full) c rows read = read
write_judged (Err TooLong) c rows read = read

-- ---- a call that only reads, and is refused as its log's opening is

pub looks_refused : {S T : Type 0} (Formed : Rows → Type 0) (fault : LogFault) (before now : Store) → Looks {T = S} log_store Formed (Err fault) before now → Looks {T = T} source_store Formed (Err (source_fault fault)) before now
looks_refused Formed fault before now looks = record {
  opened = subst (λ (kind : Option StoreFault). OpensAndReads Formed (is_failure kind) before now) (one_store fault) looks.opened;
  found = subst (λ (kind : Option StoreFault). is_failure kind ≡ false → IfSome before.images (λ old. IfSome now.rows (IsOneOf old))) (one_store fault) looks.found;
  ready = subst (λ (kind : Option StoreFault). FaultReadied kind now) (one_store fault) looks.ready;
}

-- what is said of an answer is said of the one that is handed on
pub if_handed : {T : Type 0} (answer : Result T LogFault) (P : T → Type 0) → IfOk answer P → IfOk (source_answer answer) P
if_handed (Ok answer) P holds = holds
if_handed (Err fault) P holds = tt
