-- What serving the next connection of a front does: an account of it, whether or not the front tells its bytes.
use Rattle.std.specs.Prelude.{◌≡◌, ◌≤◌, ℕ, Option, Result, IfOk, OnErr, OnOk}
use Rattle.wef_base.specs.Counts.{Rose}
use Rattle.wef_base.specs.declared.ports.IoFailed.{IoFailed}
use Rattle.wef_connections.specs.Opening.{OnlyFails, Rises, next_connection}
use Rattle.wef_http.specs.declared.messages.HttpRequest.{HttpRequest}
use Rattle.wef_http_heads.specs.declared.answers.Answer.{Answer}
use Rattle.wef_http_heads.specs.declared.targets.Side.{Side}
use Rattle.wef_ports.specs.Telling.{Told}
use Rattle.wef_serving.specs.Serving.{AnswersAt, LeavesAt, RespondsInTurn}
use Rattle.wef_serving.specs.Turns.{Ends}
use Rattle.wef_serving.specs.declared.ends.ConnectionEnd.{ConnectionEnd}
use Rattle.wef_serving.specs.declared.ends.ConnectionEnd.TheVariants.{PortFailed}

-- What serving the next connection does: to what is known of the front, to the end that answers, and to what the clock tells.
pub record NextAccount {S : Type 0} (side : Side) (Answers : ℕ → S → HttpRequest → Answer → S → Type 0) (Leaves : ℕ → S → HttpRequest → S → Type 0)
    (before now : Told) (s t : S) (told told' : Option ℕ) (result : Result ConnectionEnd IoFailed) : Type 0 where
  -- the connection that was next was served to its end
  pub served : IfOk result (Ends side (AnswersAt told Answers) (LeavesAt told Leaves) (next_connection before).coming (next_connection before) s now t)
  -- also where its bytes aren't told, its requests were answered one after the other
  pub responded : OnOk result (RespondsInTurn (AnswersAt told Answers) (LeavesAt told Leaves) s t)
  -- other connections stay as they were when it was taken
  pub around : OnOk result (now.around ≡ (next_connection before).around)
  -- the count of faults doesn't fall
  pub later : before.faults ≤ now.faults
  -- the port failed only where that count rose
  pub fault : IfOk result (λ over. over ≡ PortFailed → Rose before.faults now.faults)
  -- where no connection could be taken, all but the two counts is as before
  pub refused : OnErr result (OnlyFails before now)
  -- then the count of faults rose
  pub cause : OnErr result (Rises before.faults now.faults)
  -- and that of refusals
  pub refusals : OnErr result (Rises before.around.refusals now.around.refusals)
  -- and the end is as before
  pub untouched : OnErr result (t ≡ s)
  -- the clock tells what it told
  pub clock : told' ≡ told
