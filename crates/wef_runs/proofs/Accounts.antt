-- Accounts of runs: what each did to the rows that stood before it.
use Rattle.std.specs.Prelude.{Some}
use Rattle.wef_cli.specs.Leaving.{RunsLeave}
use Rattle.wef_runs.specs.Laws.{RunsAreAccounted}

pub runs_are_accounted : RunsLeave → RunsAreAccounted
runs_are_accounted leave command ending input out peers before now ends lawful found last stood may = record {
  ending = ending;
  input = input;
  out = out;
  peers = peers;
  before = before;
  now = now;
  says = leave (Some command) ending input out peers before now ends lawful found last stood may;
}
