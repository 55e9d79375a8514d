-- Which ids the ends draw for their messages: none twice, over crashes too.
use Rattle.std.specs.Prelude.{◌≡◌, ℕ, ◌+◌, ◌*◌, ◌<◌, List, Option, Some, None, ◌⊎◌}
use Rattle.std.specs.List.{AllByRecursion}
use Rattle.wef_replay.specs.declared.lines.Line.{Line}
use Rattle.wef_source.specs.Machine.{most_drawn}
use Rattle.wef_safety.specs.Kept.{AreInOrder, IsDrawnBefore}
use Rattle.wef_machine.specs.States.{State, start}
use Rattle.wef_machine.specs.Steps.{AreAdmitted, states}
use Rattle.wef_machine.specs.declared.messages.Message.{Message}
use Rattle.wef_machine.specs.declared.messages.Message.TheVariants.{Ask, Offers, Events, Beat, Ack, Fault, Request, Response, Ended}

-- the value of the id that the collector drew for a reply, or for a request of its own
abbrev pub reply_of : Message → Option ℕ
reply_of (Ask s id) = None
reply_of (Offers s id relates offers) = id.value
reply_of (Events s delivery) = None
reply_of (Beat s beat) = None
reply_of (Ack s id relates) = id.value
reply_of (Fault s id relates fault) = id.value
reply_of (Request s id identifier asks) = id.value
reply_of (Response s id relates answer) = None
reply_of (Ended s note) = None

-- an id is the last that is drawn after some start
abbrev pub IsLastDrawn : ℕ → Type 0
IsLastDrawn id = (boot : ℕ) × (id ≡ boot * 18446744073709551616 + most_drawn)

-- of two such messages the later has the greater id, unless the counter of its start has reached its last value
abbrev pub IsReplyBefore : Message → Message → Type 0
IsReplyBefore m n = (first second : ℕ) → reply_of m ≡ Some first → reply_of n ≡ Some second → (first < second) ⊎ IsLastDrawn second

-- In every state of a good schedule the ids of each source's requests rise in the order in which they were sent.
abbrev pub RequestIdsRise : Type 0
RequestIdsRise = (lines : List Line) → AreAdmitted start lines → AllByRecursion (λ (state : State). AreInOrder IsDrawnBefore state.messages) (states lines)

-- So do the ids of the collector's replies and requests.
abbrev pub ReplyIdsRise : Type 0
ReplyIdsRise = (lines : List Line) → AreAdmitted start lines → AllByRecursion (λ (state : State). AreInOrder IsReplyBefore state.messages) (states lines)
