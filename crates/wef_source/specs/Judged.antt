-- Which rows a poll reads: where it is done, none was spoilt that its batch rests on.
use Rattle.std.specs.Prelude.{◌≡◌, ℕ, false, is_some, List}
use Rattle.wef_building.specs.Judged.{JudgesBatch}
use Rattle.wef_keeper.specs.Rows.{Rows}
use Rattle.wef_source.specs.Answers.{WhereThere}
use Rattle.wef_source.specs.Machine.{End}
use Rattle.wef_source.specs.Sessions.{session_of}

-- a poll of a session that awaits no answer reads them
abbrev pub JudgesPoll : Rows → End → List ℕ → Type 0
JudgesPoll rows end u = WhereThere (session_of end.sessions u) (λ session. is_some session.outstanding ≡ false → JudgesBatch rows session)
