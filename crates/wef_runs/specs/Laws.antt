-- What runs over the stores that people keep have in common.
use Rattle.std.specs.Prelude.{List, Some}
use Rattle.std.specs.List.{AllByRecursion}
use Rattle.wef_cli.specs.Runs.{Peers, RunEnds}
use Rattle.wef_command_line.specs.declared.command.Command.{Command}
use Rattle.wef_commands.specs.Endings.{Told}
use Rattle.wef_commands.specs.Laws.{Stand}
use Rattle.wef_commands.specs.declared.ending.Ending.{Ending}
use Rattle.wef_keeper.specs.Keeping.{IsLawful, MayFind, Store}
use Rattle.wef_keeper.specs.Rows.{Rows}
use Rattle.wef_runs.specs.Deeds.{AreDone, Deed, IsRead, Keeps, Stay}
use Rattle.wef_runs.specs.Runs.{Account, HaveRun, OfCollector, deeds_of}

-- Each run of a command over a store that tells its rows has an account of what it did to them, for any that an opening may find
-- behind it.
abbrev pub RunsAreAccounted : Type 0
RunsAreAccounted =
    (command : Command) (ending : Ending) (input out : Told) (peers : Peers) (before now : Store) → RunEnds (Some command) ending input out peers before now → IsLawful now
    → (found last : Rows) → Stand before found → MayFind now last → Account command found last

-- ---- the store of a collector

-- A run of one of its commands did these deeds, one after the other.
abbrev pub CollectorRunsAreDeeds : Type 0
CollectorRunsAreDeeds = (command : Command) (found last : Rows) (run : Account command found last) → OfCollector command → AreDone (deeds_of run) found last

-- What it read is so as it is of whatever is read.
abbrev pub RunsReadSo : Type 0
RunsReadSo = (command : Command) (found last : Rows) (run : Account command found last) → AllByRecursion IsRead (deeds_of run)

-- Behind deeds, whatever stood before them stays: no subscription is forgotten, no bookmark is lower; and each batch that they took
-- lies within the bookmark of its source.
pub record AreKept (found : Rows) (done : List Deed) (last : Rows) : Type 0 where
  pub stay : Stay found last
  pub taken : AllByRecursion (Keeps last) done

-- So it is behind a run.
abbrev pub RunsKeepTaken : Type 0
RunsKeepTaken = (command : Command) (found last : Rows) (run : Account command found last) → OfCollector command → AreKept found (deeds_of run) last

-- So it is behind any runs, ended or killed.
abbrev pub TakenStaysKept : Type 0
TakenStaysKept = (found last : Rows) (done : List Deed) → HaveRun found done last → AreKept found done last
