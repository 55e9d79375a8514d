-- The world that lines leave, some at a time.
use Rattle.std.proofs.Common.{◌≡◌, List, [], ◌∷◌, ◌++◌, refl}
use Rattle.wef_machine.specs.States.{State}
use Rattle.wef_machine.specs.Steps.{AreAdmitted, step}
use Rattle.wef_replay.specs.declared.lines.Line.{Line}
use Rattle.wef_summary.specs.Behind.{behind}

pub behind_both : (state : State) (first more : List Line) → behind state (first ++ more) ≡ behind (behind state first) more
behind_both state [] more = refl
behind_both state (line ∷ first) more = behind_both (step line state) first more

pub first_admitted : (state : State) (first more : List Line) → AreAdmitted state (first ++ more) → AreAdmitted state first
first_admitted state [] more all = tt
first_admitted state (line ∷ first) more all = (all.0, first_admitted (step line state) first more all.1)

pub more_admitted : (state : State) (first more : List Line) → AreAdmitted state (first ++ more) → AreAdmitted (behind state first) more
more_admitted state [] more all = all
more_admitted state (line ∷ first) more all = more_admitted (step line state) first more all.1
