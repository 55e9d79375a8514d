-- A call that gives nothing, as one that gives a value which no row decides.
use Rattle.std.proofs.Common.{refl}
use Rattle.std.specs.Prelude.{Result, Ok, Err}
use Rattle.wef_keeper.proofs.Calls.{from_weaker}
use Rattle.wef_keeper.specs.Calls.{Did, DidWith, DoesWith, IsCall}
use Rattle.wef_keeper.specs.Keeping.{Store}
use Rattle.wef_keeper.specs.Rows.{Rows}
use Rattle.wef_collector_rows.specs.Faults.{collector_store}
use Rattle.wef_collector_rows.specs.Forms.{AreFormed}
use Rattle.wef_collector_rows.specs.declared.faults.CollectorFault.{CollectorFault}
use Rattle.wef_collector.specs.Calls.{Effect}

module _ {T : Type 0} (effect : Rows → Effect) (value : T) (before now : Store) where
  abbrev Gives : Result (Unit {0}) CollectorFault → Rows → Rows → Type 0
  Gives done found after = Did collector_store AreFormed effect (λ rows. tt) done before now found after

  abbrev Tells : Result T CollectorFault → Rows → Rows → Type 0
  Tells answer found after = Did collector_store AreFormed effect (λ rows. value) answer before now found after

  did_done : (found after : Rows) → Gives (Ok tt) found after → Tells (Ok value) found after
  did_done found after did = record { answer = (did.answer.0, refl); planned = did.planned; tries = did.tries; formed = did.formed }

  did_refused : (fault : CollectorFault) (found after : Rows) → Gives (Err fault) found after → Tells (Err fault) found after
  did_refused fault found after did = record { answer = did.answer; planned = did.planned; tries = did.tries; formed = did.formed }

  abbrev Gave : Result (Unit {0}) CollectorFault → Type 0
  Gave done = IsCall collector_store AreFormed effect (λ rows. tt) done before now

  -- one that is done
  pub done_valued : Gave (Ok tt) → IsCall collector_store AreFormed effect (λ rows. value) (Ok value) before now
  done_valued call = record {
    did = from_weaker (Gives (Ok tt)) (Tells (Ok value)) before now did_done call.did;
    images = call.images;
    once = call.once;
    cause = call.cause;
    faults = call.faults;
    ready = call.ready;
    formed = call.formed;
    untold = call.untold;
    opened = call.opened;
  }

  -- one that is refused
  pub refused_valued : (fault : CollectorFault) → Gave (Err fault) → IsCall collector_store AreFormed effect (λ rows. value) (Err fault) before now
  refused_valued fault call = record {
    did = from_weaker (Gives (Err fault)) (Tells (Err fault)) before now (did_refused fault) call.did;
    images = call.images;
    once = call.once;
    cause = call.cause;
    faults = call.faults;
    ready = call.ready;
    formed = call.formed;
    untold = call.untold;
    opened = call.opened;
  }

  module _ (Fact : Result (Unit {0}) CollectorFault → Rows → Type 0) (Told : Result T CollectorFault → Rows → Type 0) where
    abbrev GivesWith : Result (Unit {0}) CollectorFault → Rows → Rows → Type 0
    GivesWith done found after = DidWith collector_store AreFormed effect (λ rows. tt) (λ answer found after. Fact answer found) done before now found after

    abbrev TellsWith : Result T CollectorFault → Rows → Rows → Type 0
    TellsWith answer found after = DidWith collector_store AreFormed effect (λ rows. value) (λ answer found after. Told answer found) answer before now found after

    abbrev Judged : Result (Unit {0}) CollectorFault → Type 0
    Judged done = DoesWith collector_store AreFormed effect (λ rows. tt) (λ answer found after. Fact answer found) done before now

    -- and what it judged
    pub done_judged_so :
        ((found : Rows) → Fact (Ok tt) found → Told (Ok value) found) → Judged (Ok tt)
        → DoesWith collector_store AreFormed effect (λ rows. value) (λ answer found after. Told answer found) (Ok value) before now
    done_judged_so gives does =
        from_weaker (GivesWith (Ok tt)) (TellsWith (Ok value)) before now (λ found after did. record { did = did_done found after did.did; fact = gives found did.fact }) does

    pub refused_judged_so :
        (fault : CollectorFault) → ((found : Rows) → Fact (Err fault) found → Told (Err fault) found)
        → Judged (Err fault)
        → DoesWith collector_store AreFormed effect (λ rows. value) (λ answer found after. Told answer found) (Err fault) before now
    refused_judged_so fault gives does =
        from_weaker (GivesWith (Err fault)) (TellsWith (Err fault)) before now (λ found after did. record { did = did_refused fault found after did.did; fact = gives found did.fact }) does
