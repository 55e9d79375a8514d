-- What serving the next connection of a front for a source does: an account of it, whether or not the front tells its bytes.
use Rattle.std.specs.Prelude.{◌≡◌, ◌≤◌, ℕ, Option, Result, IfOk, OnErr, OnOk}
use Rattle.wef_base.specs.Counts.{Rose}
use Rattle.wef_base.specs.declared.ports.IoFailed.{IoFailed}
use Rattle.wef_connections.specs.Opening.{OnlyFails, Rises, next_connection}
use Rattle.wef_keeper.specs.Keeping.{Store}
use Rattle.wef_ports.specs.Telling.{Told}
use Rattle.wef_serving.specs.declared.ends.ConnectionEnd.{ConnectionEnd}
use Rattle.wef_serving.specs.declared.ends.ConnectionEnd.TheVariants.{PortFailed}
use Rattle.wef_source.specs.State.{SourceState}
use Rattle.wef_source_serving.specs.Answers.{AnswersInTurn, EndsConnection, known_of}

-- What serving the next connection does: to what is known of the front, to the source, and to what the clock tells.
pub record NextSourceAccount {K : Type 0} (store : K → Store) (before now : Told) (old new : SourceState K) (told told' : Option ℕ) (result : Result ConnectionEnd IoFailed) : Type 0 where
  -- the connection that was next was served with the source's answers, to its end
  pub served : IfOk result (EndsConnection told (next_connection before) (known_of store old) now (known_of store new))
  -- also where its bytes aren't told, its requests were answered one after the other
  pub answered : OnOk result (AnswersInTurn told (known_of store old) (known_of store new))
  -- the store isn't used
  pub unused : store new.keeper ≡ store old.keeper
  -- other connections stay as they were when it was taken
  pub around : OnOk result (now.around ≡ (next_connection before).around)
  -- the count of faults doesn't fall
  pub later : before.faults ≤ now.faults
  -- the port failed only where that count rose
  pub fault : IfOk result (λ over. over ≡ PortFailed → Rose before.faults now.faults)
  -- where no connection could be taken, all but the two counts is as before
  pub refused : OnErr result (OnlyFails before now)
  -- then the count of faults rose
  pub cause : OnErr result (Rises before.faults now.faults)
  -- and that of refusals
  pub refusals : OnErr result (Rises before.around.refusals now.around.refusals)
  -- and the source is as before
  pub untouched : OnErr result (new ≡ old)
  -- the clock tells what it told
  pub clock : told' ≡ told
