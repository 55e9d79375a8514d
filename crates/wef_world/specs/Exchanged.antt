-- A message that a step sent, by its number: it is brought to its end, and so is the answer to it.
use Rattle.std.specs.Option.{option_map}
use Rattle.std.specs.Prelude.{ℕ, Bool, false, List, [], ◌∷◌, ◌++◌, Option, Some, None, if◌then◌else◌}
use Rattle.wef_collector.specs.declared.asking.Request.{Request}
use Rattle.wef_collector.specs.declared.memories.Memory.{Memory}
use Rattle.wef_machine.specs.Collecting.{collector_opened, with_opened}
use Rattle.wef_machine.specs.Deliveries.{deliver_step}
use Rattle.wef_machine.specs.Leasing.{next_of}
use Rattle.wef_machine.specs.States.{State, next_number}
use Rattle.wef_machine.specs.declared.verdicts.Verdict.{Verdict}
use Rattle.wef_machine.specs.declared.verdicts.Verdict.TheVariants.{More, Enough, Ended}
use Rattle.wef_places.specs.Counted.{counted, is_heard_at, once}
use Rattle.wef_places.specs.Settling.{Going}
use Rattle.wef_places.specs.declared.places.Used.{Used}
use Rattle.wef_places.specs.declared.places.Used.TheVariants.{Closed, Answered}
use Rattle.wef_world.specs.Delivered.{deliver_comes}
use Rattle.wef_world.specs.declared.deliveries.Delivered.{Delivered}
use Rattle.wef_world.specs.declared.source_lines.Polls.{Polls}
use Rattle.wef_world.specs.declared.source_lines.Polls.TheVariants as polls

-- ---- what was sent is brought to its end

-- the world after that
abbrev pub state_brought : Option ℕ → State → State
state_brought None state = state
state_brought (Some k) state = deliver_step state k

-- with the count of the calls
abbrev pub brought : Option ℕ → Going → Going
brought None g = g
brought (Some k) g = record { state = deliver_step g.state k; calls = counted (once (is_heard_at g.state k)) g.calls }

-- what becomes of it, where something was sent
abbrev pub came : Option ℕ → State → Option Delivered
came None state = None
came (Some k) state = deliver_comes state k

-- the number of the answer to it, where there is one
abbrev pub answer_in : Option Delivered → Option ℕ
answer_in None = None
answer_in (Some delivered) = delivered.answer

-- ---- and so is the answer

abbrev pub brought_both : Option ℕ → Going → Going
brought_both sent g = brought (answer_in (came sent g.state)) (brought sent g)

-- what becomes of the answer
abbrev pub came_back : Option ℕ → State → Option Delivered
came_back sent state = came (answer_in (came sent state)) (state_brought sent state)

-- whether a session goes on by it, or a lease stands
abbrev pub moves_in : Option Delivered → Bool
moves_in None = false
moves_in (Some delivered) = delivered.moves

-- ---- what the steps sent

-- the number of the ask that a source sent, where it sent one
abbrev pub ask_in : Option (Used (Option ℕ)) → Option ℕ
ask_in (Some (Answered sent)) = sent
ask_in _ = None

-- that of the collector's next request
abbrev pub request_number : State → Option Memory → Option ℕ
request_number state None = None
request_number state (Some memory) = option_map (λ (r : Request). next_number state) (next_of state memory)

abbrev pub request_comes : State → Option ℕ
request_comes state = request_number (with_opened state) (collector_opened state.collector).memory

-- that of the batch that a poll sent; a heartbeat isn't delivered
abbrev pub batch_in : Option (Used Polls) → Option ℕ
batch_in (Some (Answered (polls.Sent n))) = Some n
batch_in _ = None

-- how a poll ends that sent a batch, by what became of the answer
abbrev pub verdict_back : Option Delivered → Verdict
verdict_back None = Ended
verdict_back (Some delivered) = if delivered.moves then More else Enough

-- and how any poll does
abbrev pub verdict_of : Option (Used Polls) → Option Delivered → Verdict
verdict_of (Some (Closed how)) back = Ended
verdict_of (Some (Answered polls.Spent)) back = Ended
verdict_of (Some (Answered (polls.Sent n))) back = verdict_back back
verdict_of _ back = Enough

-- ---- the sources that asked

-- those whose work goes on, behind others
abbrev pub behind : List (List ℕ) → Going × List (List ℕ) → Going × List (List ℕ)
behind names x = (x.0, names ++ x.1)
