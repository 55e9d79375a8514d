-- What a source's calls do that change its store: just what its log's do, refused as the source hands it on.
use Rattle.std.specs.Prelude.{ℕ, List, Result, Ok, Err}
use Rattle.wef_event.specs.Events.{Event}
use Rattle.wef_keeper.specs.Calls.{Effect}
use Rattle.wef_keeper.specs.Rows.{Rows}
use Rattle.wef_source_log.specs.Answers as log
use Rattle.wef_source_log.specs.Judged as judged
use Rattle.wef_source_log.specs.declared.faults.LogFault.{LogFault}
use Rattle.wef_source_log.specs.declared.faults.LogFault.TheVariants as faults
use Rattle.wef_building.specs.Faults.{source_answer}
use Rattle.wef_building.specs.declared.faults.SourceFault.{SourceFault}
use Rattle.wef_building.specs.declared.faults.SourceFault.TheVariants.{Full, TooLong}

-- a start
abbrev pub start_effect : Rows → ℕ → Effect SourceFault
start_effect rows capacity = source_answer (log.start_effect rows capacity)

-- a write
abbrev pub write_effect : Rows → Event → Effect SourceFault
write_effect rows event = source_answer (log.write_effect rows event)

-- the refusal of the log that one of the source hands on; for all others one of the store, of which nothing is said
abbrev pub log_fault : SourceFault → LogFault
log_fault Full = faults.Full
log_fault TooLong = faults.TooLong
log_fault _ = faults.Failed

-- the answer of the log that one of the source hands on
abbrev pub log_answer : {T : Type 0} → Result T SourceFault → Result T LogFault
log_answer (Ok answer) = Ok answer
log_answer (Err fault) = Err (log_fault fault)

-- a start has read what the log's has
abbrev pub JudgesStart : {T : Type 0} → Result T SourceFault → Rows → Type 0
JudgesStart answer rows = judged.JudgesStart (log_answer answer) rows

-- and so has a write
abbrev pub JudgesWrite : {T : Type 0} → Result T SourceFault → List ℕ → Rows → Type 0
JudgesWrite answer c rows = judged.JudgesWrite (log_answer answer) c rows
