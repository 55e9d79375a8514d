-- What is sent in answer to a message, and what is printed of the message.
use Rattle.std.specs.Prelude.{ℕ, Bool, List, Option, Some, None, Ok, Err, codes, if◌then◌else◌}
use Rattle.wef_ids.specs.declared.FaultName.{FaultName}
use Rattle.wef_ids.specs.declared.FaultName.TheVariants.{InternalError}
use Rattle.wef_ids.specs.declared.MessageId.{MessageId}
use Rattle.wef_keeper.specs.Calls.{Effect}
use Rattle.wef_machine.specs.Arming.{fate}
use Rattle.wef_machine.specs.Collecting.{with_call, with_reply}
use Rattle.wef_machine.specs.Printed.{answered_line, fate_word, fault_answer, took_line}
use Rattle.wef_machine.specs.States.{State, next_number}
use Rattle.wef_machine.specs.declared.arming.Fate.{Fate}
use Rattle.wef_machine.specs.declared.arming.Fate.TheVariants.{Done, Failed, Stopped}
use Rattle.wef_machine.specs.declared.messages.Message.{Message}
use Rattle.wef_machine.specs.declared.messages.Message.TheVariants as sent

-- the world with an answer of the collector, where there is one: it has an id that is drawn for it
abbrev pub with_answer : State → Option Message → State
with_answer state None = state
with_answer state (Some message) = with_reply 1 state message

-- what is printed of message k, by the word for it and the number of the answer, where there is one
abbrev pub took_text : ℕ → List ℕ → Option Message → ℕ → List ℕ
took_text k word None j = took_line k word
took_text k word (Some answer) j = answered_line k word j

-- what is printed of message k where its end can't be opened
abbrev pub closed_text : ℕ → Fate → List ℕ
closed_text k fate = took_line k (fate_word fate)

-- ---- what a source sends, which changes rows or is refused

-- the collector's answer, which has an id of its own, to what it commits, where it is committed: none where none is asked for
abbrev pub answer_done : Bool → List ℕ → MessageId → MessageId → Option Message
answer_done ack s id relates = if ack then Some (sent.Ack s id relates) else None

-- its answer by how the commit went: nobody answers where the collector was stopped in it
abbrev pub answer_by : Fate → Bool → List ℕ → MessageId → MessageId → Option Message
answer_by Done ack s id relates = answer_done ack s id relates
answer_by Failed ack s id relates = Some (sent.Fault s id relates InternalError)
answer_by Stopped ack s id relates = None

-- its answer to a message with this effect
abbrev pub answer_with : State → Effect FaultName → Bool → List ℕ → MessageId → MessageId → Option Message
answer_with state (Ok changes) ack s id relates = answer_by (fate state.collector.armed changes) ack s id relates
answer_with state (Err fault) ack s id relates = Some (sent.Fault s id relates fault)

-- the word for what is committed
abbrev pub commit_word : Bool → Fate → List ℕ
commit_word ack Done = if ack then codes "ack" else codes "quiet"
commit_word ack Failed = fault_answer InternalError
commit_word ack Stopped = fate_word Stopped

-- the word for what became of it
abbrev pub answer_word : State → Effect FaultName → Bool → List ℕ
answer_word state (Ok changes) ack = commit_word ack (fate state.collector.armed changes)
answer_word state (Err fault) ack = fault_answer fault

-- an open collector takes a message of a source with this effect
abbrev pub answers_by : State → Effect FaultName → Bool → List ℕ → MessageId → MessageId → State
answers_by state effect ack s id relates = with_answer (with_call state effect) (answer_with state effect ack s id relates)

abbrev pub answers_text_by : State → Effect FaultName → Bool → ℕ → List ℕ → MessageId → MessageId → List ℕ
answers_text_by state effect ack k s id relates = took_text k (answer_word state effect ack) (answer_with state effect ack s id relates) (next_number state)
