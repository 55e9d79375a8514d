-- How `remove` ends.
use Rattle.std.specs.Prelude.{ℕ, List, ◌⊎◌, IfErr, Result, codes}
use Rattle.wef_collector.specs.Calls.{OfEnd, end_effect}
use Rattle.wef_collector_rows.specs.Faults.{collector_store}
use Rattle.wef_collector_rows.specs.Forms.{AreFormed}
use Rattle.wef_collector_rows.specs.Judged.{JudgesName}
use Rattle.wef_collector_rows.specs.declared.faults.CollectorFault.{CollectorFault}
use Rattle.wef_keeper.specs.Calls.{DoesWith, IsCall}
use Rattle.wef_keeper.specs.Keeping.{Store}
use Rattle.wef_lines.specs.Printed.{name_line}
use Rattle.wef_commands.specs.Calling.{CallEnds, IsUndone, WroteOut, named_ending}
use Rattle.wef_commands.specs.Endings.{Told}
use Rattle.wef_commands.specs.declared.ending.Ending.{Ending}

-- `ended NAME`
abbrev pub ended_text : List ℕ → List ℕ
ended_text u = name_line (codes "ended") u

-- ending the subscription of a name; the row that it has read is of its form, unless its store refuses it
abbrev pub Ends : List ℕ → Result (Unit {0}) CollectorFault → Store → Store → Type 0
Ends u done before now =
    IsCall collector_store AreFormed (λ rows. end_effect rows u) (λ _. tt) done before now × IfErr done OfEnd
    × DoesWith collector_store AreFormed (λ rows. end_effect rows u) (λ _. tt) (λ answer found after. JudgesName answer found u) done before now

-- The subscription of the name ends, and that is told when it has.
abbrev pub RemoveEnds : List ℕ → Ending → Told → Store → Store → Type 0
RemoveEnds u ending out before now = IsUndone ending out before now ⊎ CallEnds (Ends u) (named_ending u) (λ _. WroteOut (ended_text u)) ending out before now
