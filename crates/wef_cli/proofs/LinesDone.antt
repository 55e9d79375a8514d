-- What is written, and what is left, while lines are done.
use Rattle.std.proofs.Common.{◌≡◌, List, [], ◌∷◌, ◌++◌, ℕ, sym, subst, ◌∙◌, append_assoc}
use Rattle.std.specs.Prelude.{Option}
use Rattle.wef_replay.specs.declared.lines.Line.{Line}
use Rattle.wef_machine.specs.States.{State}
use Rattle.wef_machine.specs.Steps.{printed_by, step, trail_from}
use Rattle.wef_commands.specs.Streams.{IsWrittenUpTo}

-- once a line is done, what it printed waits, and else what is left stays as it was
pub line_done : (a b : Option (List ℕ)) (whole waiting waiting' : List ℕ) (state state' : State) (line : Line) (lines rest : List Line) → lines ≡ line ∷ rest
    → state' ≡ step line state → waiting' ≡ waiting ++ printed_by line state
    → IsWrittenUpTo a b whole (waiting ++ trail_from state lines) → IsWrittenUpTo a b whole (waiting' ++ trail_from state' rest)
line_done a b whole waiting waiting' state state' line lines rest first stepped printed =
    subst (IsWrittenUpTo a b whole)
    ((λ i. waiting ++ trail_from state (first i)) ∙ sym (append_assoc waiting (printed_by line state) (trail_from (step line state) rest)) ∙ (λ i. sym printed i ++ trail_from (sym stepped i) rest))

-- once no line is left, what waits is all that is left
pub lines_done : (a b : Option (List ℕ)) (whole waiting : List ℕ) (state : State) (lines : List Line) → lines ≡ []
    → IsWrittenUpTo a b whole (waiting ++ trail_from state lines) → IsWrittenUpTo a b whole (waiting ++ [])
lines_done a b whole waiting state lines none = subst (λ (ls : List Line). IsWrittenUpTo a b whole (waiting ++ trail_from state ls)) none
