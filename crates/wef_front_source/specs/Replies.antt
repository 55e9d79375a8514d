-- The replies of a source, as they are written.
use Rattle.std.specs.Prelude.{◌≡◌, ℕ, ◌+◌, ◌*◌, ◌⊎◌, Option, if◌then◌else◌}
use Rattle.wef_base.specs.declared.tree.Charset.{Charset}
use Rattle.wef_bodies.specs.Laws.{action_of}
use Rattle.wef_bodies.specs.Written.{body_elements}
use Rattle.wef_bodies.specs.declared.bodies.Body.{Body}
use Rattle.wef_envelope.specs.declared.envelopes.Envelope.{Envelope}
use Rattle.wef_http_heads.specs.declared.answers.Answer.{Answer}
use Rattle.wef_ids.specs.IdTexts.{id_of_value}
use Rattle.wef_ids.specs.declared.FaultName.TheVariants.{InternalError}
use Rattle.wef_ids.specs.declared.MessageId.{MessageId}
use Rattle.wef_replies.specs.Replies.{answer_with, envelope_with, fault_envelope}
use Rattle.wef_source.specs.Machine.{End, drawn_in, is_spent, most_drawn, next_id}
use Rattle.wef_front_source.specs.Steps.{done_by, said_by}
use Rattle.wef_front_source.specs.declared.hearing.Heard.{Heard}
use Rattle.wef_front_source.specs.declared.saying.Said.{Said}
use Rattle.wef_front_source.specs.declared.saying.Said.TheVariants.{Done, Fault, Spent}

-- the envelope of an answer
abbrev pub done_envelope : Body → MessageId → Option MessageId → Envelope
done_envelope answer id relates = envelope_with (action_of answer) (body_elements answer) id relates

-- the last id of a boot number, which a reply bears that no id is drawn for
abbrev pub last_id : End → ℕ
last_id end = end.boot * 18446744073709551616 + most_drawn

-- the id of a fault: the next one, or the last one where all ids were drawn
abbrev pub fault_id : End → ℕ
fault_id end = if is_spent end then last_id end else next_id end

-- the answer in which something is said
abbrev pub answer_of : End → Charset → Option MessageId → Said → Answer
answer_of end charset relates (Done answer) = answer_with 200 charset (done_envelope answer (id_of_value (next_id end)) relates)
answer_of end charset relates (Fault name) = answer_with 500 charset (fault_envelope name (id_of_value (fault_id end)) relates)
answer_of end charset relates Spent = answer_with 500 charset (fault_envelope InternalError (id_of_value (last_id end)) relates)

-- the source behind a fault: its id is drawn, where one is left
abbrev pub faulted_in : End → End
faulted_in end = if is_spent end then end else drawn_in end

-- the source behind the answer: the id of the answer is drawn, where one is left; no id is drawn where there aren't enough
abbrev pub answered_in : End → Said → End
answered_in end (Done answer) = drawn_in end
answered_in end (Fault name) = faulted_in end
answered_in end Spent = end

-- What a source answers, and what it holds then.
pub record Reply : Type 0 where
  pub answer : Answer
  pub end : End

-- The reply to what was heard at a moment. No row of its log decides it, and none changes.
abbrev pub reply : End → Heard → Charset → ℕ → Reply
reply end heard charset now = record {
  answer = answer_of (done_by end heard.asked now) charset heard.relates (said_by end heard.asked now);
  end = answered_in (done_by end heard.asked now) (said_by end heard.asked now);
}

-- where there was no memory for the answer, what is asked is done or it isn't, and the id of the answer is drawn or it isn't
abbrev pub MayHaveReplied : End → Heard → ℕ → End → Type 0
MayHaveReplied end heard now end' =
    (end' ≡ end) ⊎ (end' ≡ done_by end heard.asked now) ⊎ (end' ≡ answered_in (done_by end heard.asked now) (said_by end heard.asked now))
