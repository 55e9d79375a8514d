-- What is said of held events once they are written, or can't be.
use Rattle.std.proofs.Common.{◌≡◌, ℕ, true, List, refl, inr}
use Rattle.std.proofs.KnownBytes.{Keeps-refl}
use Rattle.std.specs.Prelude.{Option, IfSome}
use Rattle.std.specs.declared.result.Result.TheVariants.{Ok, Err}
use Rattle.wef_collector_rows.specs.Answers.{RefusesUnknown, is_known}
use Rattle.wef_collector_rows.specs.Faults.{collector_store}
use Rattle.wef_collector_rows.specs.Forms.{AreFormed}
use Rattle.wef_collector_rows.specs.Held.{held_rows}
use Rattle.wef_collector_rows.specs.Judged.{IsFormedAt, JudgesName}
use Rattle.wef_collector_rows.specs.Keys.{subscription_key}
use Rattle.wef_collector_rows.specs.Standing.{standing}
use Rattle.wef_collector_rows.specs.declared.faults.CollectorFault.{CollectorFault}
use Rattle.wef_collector_rows.specs.declared.faults.CollectorFault.TheVariants as faults
use Rattle.wef_collector.specs.declared.memories.Memory.{Memory}
use Rattle.wef_keeper.proofs.Told.{told_any, told_both}
use Rattle.wef_keeper.specs.Access.{Reads}
use Rattle.wef_keeper.specs.Calls.{fails}
use Rattle.wef_keeper.specs.Keeping.{Store}
use Rattle.wef_keeper.specs.Rows.{Rows}
use Rattle.wef_commands.proofs.PagesWritten.{no_part}
use Rattle.wef_commands.specs.Calling.{Starts, named_ending}
use Rattle.wef_commands.specs.Endings.{Told}
use Rattle.wef_commands.specs.Showing.{EndsHeld, EndsWriting, EventsEnds, JudgesHeld, JudgesRows, TellsHeld, WritesHeld, WroteUpTo, held_text, is_store_failed}
use Rattle.wef_commands.specs.declared.ending.Ending.{Ending}
use Rattle.wef_commands.specs.declared.ending.Ending.TheVariants as ends

-- ---- the endings

tells_held : (u s c : List ℕ) (ending : Ending) (out : Told) (rows : Rows) → EndsWriting ending out → is_known (standing rows u) ≡ true → WroteUpTo (held_text rows u s c) ending out
    → TellsHeld u s c ending out rows
tells_held u s c ends.Done out rows so known wrote = (known, wrote)
tells_held u s c (ends.Unknown name) out rows so known wrote = absurd so
tells_held u s c _ out rows so known wrote = wrote

judges_held : (u s c : List ℕ) (ending : Ending) (out : Told) (rows : Rows) → EndsWriting ending out → IsFormedAt (subscription_key u) rows → JudgesRows ending (held_rows rows u s c 0) → JudgesHeld u s c ending rows
judges_held u s c ends.Done out rows so formed judged = (formed, judged)
judges_held u s c (ends.Unknown name) out rows so formed judged = absurd so
judges_held u s c _ out rows so formed judged = tt

ends_held : (u : List ℕ) (ending : Ending) (out : Told) → EndsWriting ending out → EndsHeld u ending out
ends_held u (ends.Unknown name) out so = absurd so
ends_held u _ out so = so

-- what is held is written for a subscription that there is
pub known_written : (u s c : List ℕ) (ending : Ending) (out : Told) (before now : Store) → Reads AreFormed (is_store_failed ending) before now
    → IfSome now.rows (λ rows. is_known (standing rows u) ≡ true) → IfSome now.rows (λ rows. WroteUpTo (held_text rows u s c) ending out) → EndsWriting ending out
    → IfSome now.rows (λ rows. IsFormedAt (subscription_key u) rows) → IfSome now.rows (λ rows. JudgesRows ending (held_rows rows u s c 0)) → WritesHeld u s c ending out before now
known_written u s c ending out before now reads known wrote so formed judged = record {
  reads = reads;
  tells = told_both now.rows (λ rows. is_known (standing rows u) ≡ true) (λ rows. WroteUpTo (held_text rows u s c) ending out) (TellsHeld u s c ending out) known wrote
      (λ rows. tells_held u s c ending out rows so);
  judged = told_both now.rows (λ rows. IsFormedAt (subscription_key u) rows) (λ rows. JudgesRows ending (held_rows rows u s c 0)) (JudgesHeld u s c ending) formed judged
      (λ rows. judges_held u s c ending out rows so);
  ends_so = ends_held u ending out so;
}

-- nothing was written
abbrev pub unchanged : Option (List ℕ) → ℕ → Told
unchanged taken faults = record { before = taken; after = taken; faults_before = faults; faults_after = faults }

-- no subscription of the name was found, or none could be looked for
pub not_known : (u s c : List ℕ) (fault : CollectorFault) (taken : Option (List ℕ)) (count : ℕ) (before now : Store)
    → Reads AreFormed (fails {T = Unit {0}} collector_store (Err fault)) before now → RefusesUnknown fault now.rows u → IfSome now.rows (λ rows. JudgesName {T = Unit {0}} (Err fault) rows u)
    → WritesHeld u s c (named_ending u fault) (unchanged taken count) before now
not_known u s c faults.NoMemory taken count before now reads refused judged =
    record { judged = told_any now.rows (JudgesHeld u s c ends.NoMemory) (λ rows. tt); reads = reads; tells = told_any now.rows (TellsHeld u s c ends.NoMemory (unchanged taken count)) (λ rows. no_part taken (held_text rows u s c)); ends_so = tt }
not_known u s c faults.Failed taken count before now reads refused judged =
    record { judged = told_any now.rows (JudgesHeld u s c ends.StoreFailed) (λ rows. tt); reads = reads; tells = told_any now.rows (TellsHeld u s c ends.StoreFailed (unchanged taken count)) (λ rows. no_part taken (held_text rows u s c)); ends_so = tt }
not_known u s c faults.NoSubscription taken count before now reads refused judged = record { judged = judged; reads = reads; tells = refused; ends_so = (refl, Keeps-refl taken) }
not_known u s c _ taken count before now reads refused judged = absurd refused

-- behind a start
pub events_written : (u s c : List ℕ) (ending : Ending) (out : Told) (before mid now : Store) (memory : Memory) → Starts (Ok memory) before mid → WritesHeld u s c ending out mid now
    → EventsEnds u s c ending out before now
events_written u s c ending out before mid now memory start call = inr (inr (record { mid = mid; memory = memory; start = start; call = call }))
