-- The world that lines leave.
use Rattle.std.specs.Prelude.{List, [], ◌∷◌}
use Rattle.wef_machine.specs.States.{State}
use Rattle.wef_machine.specs.Steps.{step}
use Rattle.wef_replay.specs.declared.lines.Line.{Line}

abbrev pub behind : State → List Line → State
behind state [] = state
behind state (line ∷ lines) = behind (step line state) lines
