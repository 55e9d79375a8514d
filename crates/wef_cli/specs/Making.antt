-- What the endings of `made` say of what was written.
use Rattle.std.specs.Prelude.{◌≡◌, ◌⊎◌, ℕ, List}
use Rattle.wef_commands.specs.Calling.{WroteOut}
use Rattle.wef_commands.specs.Endings.{IsUnwritten, Told}
use Rattle.wef_commands.specs.declared.ending.Ending.{Ending}
use Rattle.wef_commands.specs.declared.ending.Ending.TheVariants as ends
use Rattle.wef_machine.specs.States.{start}
use Rattle.wef_made.specs.Made.{schedule}
use Rattle.wef_summary.specs.Behind.{behind}
use Rattle.wef_summary.specs.Summary.{summary}

-- what is told of the world that a made schedule leaves
abbrev pub made_text : ℕ → ℕ → List ℕ
made_text seed size = summary (behind start (schedule seed size))

-- it is written, or the output failed; or memory was wanting, and nothing is written
abbrev pub MadeEnds : ℕ → ℕ → Ending → Told → Type 0
MadeEnds seed size ending out = WroteOut (made_text seed size) ending out ⊎ ((ending ≡ ends.NoMemory) × IsUnwritten out)
