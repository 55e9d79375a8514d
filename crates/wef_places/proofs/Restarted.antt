-- A start that gives the boot number is one that gives what the end remembers since.
use Rattle.std.proofs.Common.{◌≡◌, ap, sym, subst}
use Rattle.std.specs.Prelude.{Result, Ok, Err, MatchResult, IfOk}
use Rattle.wef_keeper.specs.Calls.{Did, Effect, IsCall, OfStore}
use Rattle.wef_keeper.specs.Keeping.{Store}
use Rattle.wef_keeper.specs.Rows.{Rows}
use Rattle.wef_keeper.proofs.Calls.{from_weaker}

module _ {T U F : Type 0} (of_store : OfStore F) (AreFormed : Rows → Type 0) (effect : Rows → Effect F) (value : Rows → T) (f : T → U) where
  -- a call that is done gives what is made of its answer
  done_given : (answer : T) (before now : Store) → IsCall of_store AreFormed effect value (Ok answer) before now → IsCall of_store AreFormed effect (λ rows. f (value rows)) (Ok (f answer)) before now
  done_given answer before now call = record {
    did = from_weaker (Did of_store AreFormed effect value (Ok answer) before now) (Did of_store AreFormed effect (λ rows. f (value rows)) (Ok (f answer)) before now) before now
        (λ found after did. record { answer = (did.answer.0, ap f did.answer.1); planned = did.planned; tries = did.tries; formed = did.formed }) call.did;
    images = call.images;
    once = call.once;
    cause = call.cause;
    faults = call.faults;
    ready = call.ready;
    formed = call.formed;
    untold = call.untold;
    opened = call.opened;
  }

  -- and one that is refused gives nothing
  refused_given : (fault : F) (before now : Store) → IsCall {T = T} of_store AreFormed effect value (Err fault) before now → IsCall {T = U} of_store AreFormed effect (λ rows. f (value rows)) (Err fault) before now
  refused_given fault before now call = record {
    did = from_weaker (Did of_store AreFormed effect value (Err fault) before now) (Did of_store AreFormed effect (λ rows. f (value rows)) (Err fault) before now) before now
        (λ found after did. record { answer = did.answer; planned = did.planned; tries = did.tries; formed = did.formed }) call.did;
    images = call.images;
    once = call.once;
    cause = call.cause;
    faults = call.faults;
    ready = call.ready;
    formed = call.formed;
    untold = call.untold;
    opened = call.opened;
  }

  pub started_given : {E K : Type 0} (store : K → Store) (keeper : E → K) (answer : E → T) (memory : E → U) (result : Result E (K × F)) (before : Store)
      → MatchResult result (λ end. IsCall of_store AreFormed effect value (Ok (answer end)) before (store (keeper end))) (λ refused. IsCall of_store AreFormed effect value (Err refused.1) before (store refused.0))
      → IfOk result (λ end. memory end ≡ f (answer end))
      → MatchResult result (λ end. IsCall of_store AreFormed effect (λ rows. f (value rows)) (Ok (memory end)) before (store (keeper end))) (λ refused. IsCall of_store AreFormed effect (λ rows. f (value rows)) (Err refused.1) before (store refused.0))
  started_given store keeper answer memory (Ok end) before call is =
      subst (λ (m : U). IsCall of_store AreFormed effect (λ rows. f (value rows)) (Ok m) before (store (keeper end))) (sym is) (done_given (answer end) before (store (keeper end)) call)
  started_given store keeper answer memory (Err refused) before call is = refused_given refused.1 before (store refused.0) call
