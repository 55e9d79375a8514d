-- Subscriptions that the collector begins: what it asks a source for, what the source answers, what that makes of the lease,
-- and what a source tells of the ends of sessions.
use Rattle.std.specs.Prelude.{ℕ, ◌+◌, nat_lt, Bool, true, false, ◌&&◌, List, [], ◌∷◌, ◌++◌, length, map, unwrap_or, Option, Some, None, Ok, Err, codes, if◌then◌else◌}
use Rattle.std.specs.Option.{option_map}
use Rattle.wef_bodies.specs.declared.bodies.Body.{Body}
use Rattle.wef_bodies.specs.declared.bodies.Body.TheVariants as body
use Rattle.wef_collector.specs.Asking.{next_request}
use Rattle.wef_collector.specs.Calls as collector
use Rattle.wef_collector.specs.Memories.{answered_in, asked_in, forgotten, waiting_for}
use Rattle.wef_collector.specs.Responses.{answered_of, waiting_effect}
use Rattle.wef_collector.specs.declared.asking.Request.{Request}
use Rattle.wef_collector.specs.declared.memories.Memory.{Memory}
use Rattle.wef_collector.specs.declared.responses.Answered.{Answered}
use Rattle.wef_collector.specs.declared.responses.Answered.TheVariants.{Leased, Cleared}
use Rattle.wef_collector.specs.declared.responses.Response.{Response}
use Rattle.wef_collector.specs.declared.responses.Response.TheVariants as response
use Rattle.wef_collector_leases.specs.Changes.{end_lease}
use Rattle.wef_collector_rows.specs.Answers.{is_known}
use Rattle.wef_collector_rows.specs.Standing.{standing}
use Rattle.wef_eventing.specs.Addresses.{source_in, subscription_in}
use Rattle.wef_front_collector.specs.HeardResponses.{response_of}
use Rattle.wef_front_source.specs.Replies.{answered_in as answered_by, fault_id, last_id}
use Rattle.wef_front_source.specs.Steps.{done_by, said_by}
use Rattle.wef_front_source.specs.declared.saying.Said.{Said}
use Rattle.wef_front_source.specs.declared.saying.Said.TheVariants as said
use Rattle.wef_ids.specs.IdTexts.{id_of_value}
use Rattle.wef_ids.specs.declared.FaultName.{FaultName}
use Rattle.wef_ids.specs.declared.FaultName.TheVariants.{DestinationUnreachable, InternalError}
use Rattle.wef_ids.specs.declared.MessageId.{MessageId}
use Rattle.wef_keeper.specs.Calls.{Effect}
use Rattle.wef_keeper.specs.Rows.{Rows}
use Rattle.wef_lines.specs.Printed.{name_line}
use Rattle.wef_requests.specs.Requests.{meant}
use Rattle.wef_source.specs.Machine.{End, end_notes, most_drawn, next_id, shut_in}
use Rattle.wef_source.specs.declared.messages.EndNote.{EndNote}
use Rattle.wef_machine.specs.Answering.{answers_by, answers_text_by, closed_text, took_text}
use Rattle.wef_machine.specs.Arming.{fate, is_done}
use Rattle.wef_machine.specs.Collecting.{reply_id}
use Rattle.wef_machine.specs.Places.{commits, remembering}
use Rattle.wef_machine.specs.Printed.{collector_name, fate_word, fault_answer, sent_line, took_line}
use Rattle.wef_machine.specs.Sources.{at_source, closed_line, print_at_slot, print_at_source}
use Rattle.wef_machine.specs.States.{Collector, Slot, State, host, next_number, with_collector, with_end, with_message, with_messages}
use Rattle.wef_machine.specs.declared.arming.Fate.{Fate}
use Rattle.wef_machine.specs.declared.arming.Fate.TheVariants.{Done, Failed, Stopped}
use Rattle.wef_machine.specs.declared.messages.Message.{Message}
use Rattle.wef_machine.specs.declared.messages.Message.TheVariants as sent

-- ---- the collector asks

-- a world whose collector remembers this from now on
abbrev pub with_memory : State → Memory → State
with_memory state memory = with_collector state (remembering state.collector memory)

-- what it asks next, if something is due
abbrev pub next_of : State → Memory → Option Request
next_of state memory = next_request state.collector.rows memory.waiting memory.ids host state.moment

abbrev pub request_message : Request → Message
request_message r = sent.Request r.source.name r.id r.identifier r.body

abbrev pub request_by : State → Memory → Option Request → State
request_by state memory None = state
request_by state memory (Some r) = with_message (with_memory state (asked_in r memory)) (request_message r)

-- an open collector sends its next request
abbrev pub request_at : Memory → State → State
request_at memory state = request_by state memory (next_of state memory)

abbrev pub request_word : Body → List ℕ
request_word (body.Renew expires) = codes "renew"
request_word body.Unsubscribe = codes "unsubscribe"
request_word _ = codes "subscribe"

abbrev pub request_text_by : State → Option Request → List ℕ
request_text_by state None = name_line (codes "nothing") collector_name
request_text_by state (Some r) = sent_line (next_number state) (request_word r.body) r.source.name r.sub

abbrev pub request_text : Memory → State → List ℕ
request_text memory state = request_text_by state (next_of state memory)

-- an open collector waits for no answer any longer
abbrev pub forget_at : Memory → State → State
forget_at memory state = with_memory state (forgotten memory)

-- ---- a source answers

-- what a source answers where it says this: the id, and the answer; none where it is one that no collector asks for
abbrev pub responded : End → Said → Option (MessageId × Response)
responded end (said.Done answer) = option_map (λ (r : Response). (id_of_value (next_id end), r)) (response_of answer)
responded end (said.Fault name) = Some (id_of_value (fault_id end), response.Fault name)
responded end said.Spent = Some (id_of_value (last_id end), response.Fault InternalError)

abbrev pub response_message : List ℕ → MessageId → MessageId × Response → Message
response_message s relates r = sent.Response s r.0 relates r.1

-- the message that it answers with
abbrev pub response_sent : List ℕ → MessageId → End → Said → Option Message
response_sent s relates end said = option_map (response_message s relates) (responded end said)

-- a world in which a message is sent, where there is one
abbrev pub with_sent : State → Option Message → State
with_sent state None = state
with_sent state (Some message) = with_message state message

-- what it holds and says by a request, at a moment
abbrev pub request_done : Option (List ℕ) → Body → ℕ → End → End
request_done identifier body now end = done_by end (meant identifier body) now

abbrev pub request_said : Option (List ℕ) → Body → ℕ → End → Said
request_said identifier body now end = said_by end (meant identifier body) now

-- an open source answers, behind what it did
abbrev pub responds_by : List ℕ → MessageId → State → Slot → End → Said → State
responds_by s relates state slot end said = with_sent (with_end state s slot (answered_by end said)) (response_sent s relates end said)

abbrev pub responds_at : List ℕ → MessageId → Option (List ℕ) → Body → State → Slot → End → State
responds_at s id identifier body state slot end =
    responds_by s id state slot (request_done identifier body state.moment end) (request_said identifier body state.moment end)

-- the word for what it answers
abbrev pub response_word : Response → List ℕ
response_word (response.Subscribed identifier expires) = codes "subscribed"
response_word (response.Renewed expires) = codes "renewed"
response_word response.Unsubscribed = codes "cancelled"
response_word (response.Fault name) = fault_answer name

abbrev pub responded_word : Option (MessageId × Response) → List ℕ
responded_word None = []
responded_word (Some r) = response_word r.1

abbrev pub responds_text_by : ℕ → List ℕ → MessageId → State → End → Said → List ℕ
responds_text_by k s relates state end said = took_text k (responded_word (responded end said)) (response_sent s relates end said) (next_number state)

abbrev pub responds_text : ℕ → List ℕ → MessageId → Option (List ℕ) → Body → State → Slot → End → List ℕ
responds_text k s id identifier body state slot end =
    responds_text_by k s id state (request_done identifier body state.moment end) (request_said identifier body state.moment end)

-- what is printed of request k to a source; one that isn't declared is asked for nothing
abbrev pub request_taken_text : State → ℕ → List ℕ → MessageId → Option (List ℕ) → Body → Option Slot → List ℕ
request_taken_text state k s id identifier body None = took_line k (codes "not-asked")
request_taken_text state k s id identifier body (Some slot) = print_at_slot state s (Some slot) (closed_text k) (responds_text k s id identifier body)

-- ---- the collector takes the answer

-- what an answer to a message does, by the rows and by what is remembered
abbrev pub response_effect : Memory → MessageId → Response → ℕ → Rows → collector.Effect
response_effect memory relates answer now rows = waiting_effect (waiting_for memory relates.value) answer now rows

-- a collector that waits for the answer to a message no longer
abbrev pub waiting_no_longer : Option ℕ → Collector → Collector
waiting_no_longer id c = record c { memory = option_map (answered_in id) c.memory }

-- An answer that is taken ends the wait, also where its commit fails; one that isn't leaves all.
abbrev pub response_by : State → Option ℕ → collector.Effect → State
response_by state id (Ok changes) = with_collector state (waiting_no_longer id (commits state.collector changes))
response_by state id (Err fault) = state

abbrev pub response_at : MessageId → Response → Memory → State → State
response_at relates answer memory state = response_by state relates.value (response_effect memory relates answer state.moment state.collector.rows)

-- whether there is a lease from now on by what is answered
abbrev pub is_leased : Answered → Bool
is_leased Leased = true
is_leased Cleared = false

-- whether an answer with this effect leases: it is taken, and its commit is done
abbrev pub leases : State → Response → collector.Effect → Bool
leases state answer (Ok changes) = is_done (fate state.collector.armed changes) && is_leased (answered_of answer)
leases state answer (Err fault) = false

abbrev pub answered_word : Answered → List ℕ
answered_word Leased = codes "leased"
answered_word Cleared = codes "cleared"

abbrev pub leasing_word : Response → Fate → List ℕ
leasing_word answer Done = answered_word (answered_of answer)
leasing_word answer Failed = fate_word Failed
leasing_word answer Stopped = fate_word Stopped

abbrev pub heard_word : State → Response → collector.Effect → List ℕ
heard_word state answer (Ok changes) = leasing_word answer (fate state.collector.armed changes)
heard_word state answer (Err fault) = codes "not-asked"

abbrev pub response_text : ℕ → MessageId → Response → Memory → State → List ℕ
response_text k relates answer memory state = took_line k (heard_word state answer (response_effect memory relates answer state.moment state.collector.rows))

-- ---- a source ends sessions

-- whether it has fewer ids left than it has ends to tell
abbrev pub is_short : End → Bool
is_short end = nat_lt most_drawn (end.drawn + length (end_notes end))

-- an open source ends the sessions that collectors began, and tells the ends
abbrev pub shut_at : List ℕ → State → Slot → End → State
shut_at s state slot end =
    if is_short end then state
    else with_messages (with_end state s slot (shut_in end)) (map (sent.Ended s) (end_notes end))

-- the subscription that a note tells of, by the address that it goes to
abbrev pub note_name : EndNote → List ℕ
note_name note = unwrap_or (subscription_in note.end_to) []

-- what is printed of notes, of which the first is message k
abbrev pub notes_text : List ℕ → ℕ → List EndNote → List ℕ
notes_text s k [] = []
notes_text s k (note ∷ notes) = sent_line k (codes "end") s (note_name note) ++ notes_text s (k + 1) notes

abbrev pub shut_lines : List ℕ → ℕ → List EndNote → List ℕ
shut_lines s k [] = name_line (codes "nothing") s
shut_lines s k (note ∷ notes) = notes_text s k (note ∷ notes)

abbrev pub shut_text : List ℕ → State → Slot → End → List ℕ
shut_text s state slot end = if is_short end then name_line (codes "spent") s else shut_lines s (next_number state) (end_notes end)

abbrev pub shut_step : State → List ℕ → State
shut_step state s = at_source state s (shut_at s)

abbrev pub shut_printed : State → List ℕ → List ℕ
shut_printed state s = print_at_source state s (closed_line s) (shut_text s)

-- ---- the collector hears of an end

abbrev pub ended_effect_by : Rows → List ℕ → List ℕ → List ℕ → Bool → Effect FaultName
ended_effect_by rows u s identifier true = Ok (end_lease rows u s identifier)
ended_effect_by rows u s identifier false = Err DestinationUnreachable

-- what the end of a session does, by what its address leads to: the lease ends that is named so, also where the subscription has ended
abbrev pub ended_effect : Rows → Option (List ℕ) → Option (List ℕ) → List ℕ → Effect FaultName
ended_effect rows (Some u) (Some s) identifier = ended_effect_by rows u s identifier (is_known (standing rows u))
ended_effect rows _ _ identifier = Err DestinationUnreachable

abbrev pub note_effect : Rows → EndNote → Effect FaultName
note_effect rows note = ended_effect rows (subscription_in note.end_to) (source_in note.end_to) note.identifier

-- an open collector hears of the end of a session; one that was heard is answered by nothing
abbrev pub note_at : List ℕ → EndNote → Memory → State → State
note_at s note memory state = answers_by state (note_effect state.collector.rows note) false s (reply_id memory) note.id

abbrev pub note_text : ℕ → List ℕ → EndNote → Memory → State → List ℕ
note_text k s note memory state = answers_text_by state (note_effect state.collector.rows note) false k s (reply_id memory) note.id
