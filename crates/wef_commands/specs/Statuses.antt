-- How `status` ends.
use Rattle.std.specs.Prelude.{◌≡◌, ℕ, true, List, IfSome, OnOk, Result}
use Rattle.std.specs.declared.result.Result.TheVariants.{Ok, Err}
use Rattle.wef_collector_reports.specs.Report.{heard_rows}
use Rattle.wef_collector_rows.specs.Answers.{RefusesUnknown, is_known}
use Rattle.wef_collector_rows.specs.Faults.{collector_store}
use Rattle.wef_collector_rows.specs.Forms.{AreFormed}
use Rattle.wef_collector_rows.specs.Judged.{AreAllFormed, JudgesName}
use Rattle.wef_collector_rows.specs.Standing.{standing}
use Rattle.wef_collector_rows.specs.declared.faults.CollectorFault.{CollectorFault}
use Rattle.wef_collector_statuses.specs.Statuses.{statuses}
use Rattle.wef_keeper.specs.Calls.{Looks}
use Rattle.wef_keeper.specs.Keeping.{Store}
use Rattle.wef_commands.specs.Calling.{CallEnds, WroteOut, named_ending}
use Rattle.wef_commands.specs.Endings.{Told}
use Rattle.wef_commands.specs.declared.ending.Ending.{Ending}

-- the rows have a subscription of the name, and the text says which of its sources are silent at the moment; a refusal is the store's, or
-- there is no such subscription
abbrev pub AreStatuses : List ℕ → ℕ → Result (List ℕ) CollectorFault → Store → Type 0
AreStatuses u moment (Ok text) now = IfSome now.rows (λ rows. is_known (standing rows u) ≡ true) × IfSome now.rows (λ rows. text ≡ statuses rows u moment)
AreStatuses u moment (Err fault) now = RefusesUnknown fault now.rows u

-- which of the rows that it read are of their form: the subscription's, also where there is none, and, once it is done, those of when
-- sources were heard
abbrev pub JudgesStatuses : List ℕ → Result (List ℕ) CollectorFault → Store → Type 0
JudgesStatuses u done now = IfSome now.rows (λ rows. JudgesName done rows u × OnOk done (AreAllFormed (heard_rows rows u)))

-- reading which sources of a subscription are silent at a moment
abbrev pub TellsStatuses : List ℕ → ℕ → Result (List ℕ) CollectorFault → Store → Store → Type 0
TellsStatuses u moment done before now = Looks collector_store AreFormed done before now × AreStatuses u moment done now × JudgesStatuses u done now

abbrev pub StatusEnds : List ℕ → ℕ → Ending → Told → Store → Store → Type 0
StatusEnds u moment ending out before now = CallEnds (TellsStatuses u moment) (named_ending u) WroteOut ending out before now
