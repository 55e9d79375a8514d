-- What a poll does, and what it prepares before it changes anything: an account of each, whether or not the store tells its rows.
use Rattle.std.specs.Prelude.{◌≡◌, ℕ, true, false, is_some, List, Option, Result, IfOk, IfErr, IfSome, OnOk, OnErr}
use Rattle.wef_keeper.specs.Access.{OpensAndReads}
use Rattle.wef_keeper.specs.Calls.{Looks, fails}
use Rattle.wef_keeper.specs.Keeping.{Store}
use Rattle.wef_source_log.specs.Forms.{AreFormed}
use Rattle.wef_source.specs.Answers.{MayRefusePoll, Polls, RefusesPoll, Sends, SendsAddressed, SendsNumbered, SendsRemembered, WhereThere, may_send}
use Rattle.wef_building.specs.Faults.{source_store}
use Rattle.wef_building.specs.Judged.{JudgesBatch}
use Rattle.wef_source.specs.Judged.{JudgesPoll}
use Rattle.wef_source.specs.Machine.{End}
use Rattle.wef_source.specs.Prepared.{MayDraw, MayRefuseToPrepare, Prepares, RefusesToPrepare}
use Rattle.wef_source.specs.Sessions.{has_expired, session_of}
use Rattle.wef_building.specs.declared.faults.SourceFault.{SourceFault}
use Rattle.wef_source.specs.declared.messages.Poll.{Poll}
use Rattle.wef_source.specs.declared.sending.Outgoing.{Outgoing}
use Rattle.wef_building.specs.declared.sessions.Outstanding.{Outstanding}
use Rattle.wef_building.specs.declared.sessions.Session.{Session}

-- What a poll of the session of a name does at a moment: to what keeps the log, to its store, and to what is remembered.
pub record PollAccount {L : Type 0} (log log' : L) (before after : Store) (end end' : End) (u : List ℕ) (now : ℕ) (result : Result Poll SourceFault) : Type 0 where
  -- by the rows: what the session sends, or that it has nothing to send
  pub ok : IfSome after.rows (λ rows. IfOk result (Polls rows end end' u now))
  -- by the rows: why it is refused
  pub refusal : IfSome after.rows (λ rows. IfErr result (λ fault. RefusesPoll fault rows end u now))
  -- what is sent has the next id, and the session awaits the answer; a heartbeat is sent only where one is due
  pub sends : IfOk result (Sends end end' u now)
  -- the numbers of a delivery are such as records have
  pub numbered : IfOk result SendsNumbered
  -- how far a delivery reads is what the session remembers of it
  pub remembered : IfOk result (SendsRemembered end end' u)
  -- a delivery goes where the session says
  pub addressed : IfOk result (SendsAddressed end u)
  -- no row that the answer rests on was spoilt
  pub judged : IfSome after.rows (λ rows. OnOk result (JudgesPoll rows end u))
  -- why it is refused, as far as what is remembered shows it
  pub listed : IfErr result (λ fault. MayRefusePoll fault end u now)
  -- a refused poll leaves what is remembered
  pub err : OnErr result (end' ≡ end)
  -- it isn't answered where the session has expired
  pub unexpired : IfOk result (λ answer. WhereThere (session_of end.sessions u) (λ session. has_expired now session ≡ false))
  -- where the session goes on and no answer is outstanding, the store is opened and read
  pub looks : may_send now (session_of end.sessions u) ≡ true → Looks source_store AreFormed result before after
  -- elsewhere the log is left alone
  pub untouched : may_send now (session_of end.sessions u) ≡ false → log' ≡ log
  -- in both cases the store does no more than open and be read
  pub reads : OpensAndReads AreFormed (fails source_store result) before after

-- What is prepared of what a session sends next at a moment: to what keeps the log, and to its store. What is remembered stays.
pub record PreparedAccount {L : Type 0} (log log' : L) (before after : Store) (end : End) (session : Session) (now : ℕ) (result : Result (Option (Outgoing × Outstanding)) SourceFault) : Type 0 where
  -- by the rows: what is sent and what is awaited of it, or that the session is idle
  pub ok : IfSome after.rows (λ rows. IfOk result (Prepares rows end session now))
  -- by the rows: why it is refused
  pub refusal : IfSome after.rows (λ rows. IfErr result (RefusesToPrepare rows end session now))
  -- what is sent has the next id, and comes where no answer is outstanding
  pub draws : IfOk result (MayDraw end session now)
  -- no row that it rests on was spoilt
  pub judged : IfSome after.rows (λ rows. OnOk result (is_some session.outstanding ≡ false → JudgesBatch rows session))
  -- why it is refused, as far as what is remembered shows it
  pub listed : IfErr result (MayRefuseToPrepare end)
  -- where no answer is outstanding, the store is opened and read
  pub looks : is_some session.outstanding ≡ false → Looks source_store AreFormed result before after
  -- elsewhere the log is left alone
  pub untouched : is_some session.outstanding ≡ true → log' ≡ log
  -- and then it isn't refused
  pub idle : OnErr result (is_some session.outstanding ≡ false)
  -- in both cases the store does no more than open and be read
  pub reads : OpensAndReads AreFormed (fails source_store result) before after
