-- How often a line asks the ends to answer bytes, or to hear them.
use Rattle.std.specs.Prelude.{ℕ, Bool}
use Rattle.wef_machine.specs.Deliveries.{message_at, number_back}
use Rattle.wef_machine.specs.States.{State}
use Rattle.wef_places.specs.Settling.{calls_settling}
use Rattle.wef_replay.specs.declared.lines.Line.{Line}
use Rattle.wef_replay.specs.declared.lines.Line.TheVariants.{Deliver, Back, Settle}
pub use Rattle.wef_places.specs.Heard.{counted, is_heard, is_open, is_open_at, once}

-- whether the message of a number reaches an end
abbrev pub is_heard_at : State → ℕ → Bool
is_heard_at state k = is_heard state (message_at state k)

-- the count behind a line: one call more for each message that it delivers to an end which is open, or can be opened
abbrev pub calls_after : Line → State → ℕ → ℕ
calls_after (Deliver k seen) state calls = counted (once (is_heard_at state k)) calls
calls_after (Back n) state calls = counted (once (is_heard_at state (number_back state n))) calls
calls_after Settle state calls = calls_settling state calls
calls_after line state calls = calls
