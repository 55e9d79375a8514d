-- The replies of the collector, as they are written.
use Rattle.std.specs.Prelude.{◌≡◌, ℕ, zero, suc, ◌≤◌, ◌⊎◌, List, [], ◌∷◌, length, Option, Ok, Err}
use Rattle.std.specs.List.{AllByRecursion}
use Rattle.wef_base.specs.declared.tree.Charset.{Charset}
use Rattle.wef_bodies.specs.Written.{offers_element}
use Rattle.wef_eventing.specs.declared.offers.Offer.{Offer}
use Rattle.wef_envelope.specs.Laws.{IsSpelt}
use Rattle.wef_envelope.specs.declared.actions.TheConstants.{ACK, ENUMERATE_RESPONSE}
use Rattle.wef_ids.specs.IdTexts.{id_of_value}
use Rattle.wef_ids.specs.Ids.{next_id, with_drawn}
use Rattle.wef_ids.specs.declared.MessageId.{MessageId}
use Rattle.wef_ids.specs.declared.ids.Ids.{Ids}
use Rattle.wef_keeper.specs.Keeping.{Store}
use Rattle.wef_keeper.specs.Rows.{Rows, applied}
use Rattle.wef_collector.specs.Calls.{Effect}
use Rattle.wef_collector.specs.declared.memories.Memory.{Memory}
use Rattle.wef_envelope.specs.declared.envelopes.Envelope.{Envelope}
use Rattle.wef_replies.specs.Replies.{answer_with, envelope_with, fault_envelope}
use Rattle.wef_front_collector.specs.Judged.{Judges}
use Rattle.wef_front_collector.specs.Steps.{HasStepped, Steps, effect_in, said_by}
use Rattle.wef_http_heads.specs.declared.answers.Answer.{Answer}
use Rattle.wef_front_collector.specs.declared.hearing.Heard.{Heard}
use Rattle.wef_front_collector.specs.declared.saying.Said.{Said}
use Rattle.wef_front_collector.specs.declared.saying.Said.TheVariants.{Ack, Quiet, Offers, Fault}

abbrev pub ack_envelope : MessageId → Option MessageId → Envelope
ack_envelope id relates = envelope_with ACK.now [] id relates

-- the ids behind so many draws, one after the other
abbrev pub ids_after : ℕ → Ids → Ids
ids_after zero ids = ids
ids_after (suc more) ids = ids_after more (with_drawn 1 ids)

-- so many ids, as they are drawn one after the other
abbrev pub drawn_ids : ℕ → Ids → List MessageId
drawn_ids zero ids = []
drawn_ids (suc more) ids = id_of_value (next_id ids) ∷ drawn_ids more (with_drawn 1 ids)

-- the ids of the envelopes in offers: those that are drawn behind the answer's own, in the order of the offers
abbrev pub nested_ids : Ids → List Offer → List MessageId
nested_ids ids list = drawn_ids (length list) (with_drawn 1 ids)

abbrev pub offers_envelope : MessageId → List MessageId → Option MessageId → List Offer → Envelope
offers_envelope id nested relates list = envelope_with ENUMERATE_RESPONSE.now (offers_element nested list ∷ []) id relates

-- the answer in which something is said, under the next id of an end
abbrev pub answer_of : Ids → Charset → Option MessageId → Said → Answer
answer_of ids charset relates Quiet = record { status = 204; body = [] }
answer_of ids charset relates Ack = answer_with 200 charset (ack_envelope (id_of_value (next_id ids)) relates)
answer_of ids charset relates (Offers list) = answer_with 200 charset (offers_envelope (id_of_value (next_id ids)) (nested_ids ids list) relates list)
answer_of ids charset relates (Fault name) = answer_with 500 charset (fault_envelope name (id_of_value (next_id ids)) relates)

-- how many ids are drawn for it: what has no envelope has no id, and each offer has one
abbrev pub draws_for : Said → ℕ
draws_for Quiet = 0
draws_for Ack = 1
draws_for (Offers list) = suc (length list)
draws_for (Fault name) = 1

-- what a collector remembers behind so many draws, one after the other
abbrev pub memory_after : ℕ → Memory → Memory
memory_after draws memory = record memory { ids = ids_after draws memory.ids }

-- what it remembers behind those for it
abbrev pub memory_behind : Memory → Said → Memory
memory_behind memory said = memory_after (draws_for said) memory

-- where something is said under an id, that is the id of its text; so are those of the envelopes in offers
abbrev pub IsSpeltFor : Ids → Said → Type 0
IsSpeltFor ids Quiet = Unit {0}
IsSpeltFor ids Ack = IsSpelt (id_of_value (next_id ids))
IsSpeltFor ids (Offers list) = IsSpelt (id_of_value (next_id ids)) × AllByRecursion IsSpelt (nested_ids ids list)
IsSpeltFor ids (Fault name) = IsSpelt (id_of_value (next_id ids))

-- What the collector answers, the rows that it leaves, and what it remembers then.
pub record Reply : Type 0 where
  pub answer : Answer
  pub rows : Rows
  pub memory : Memory

-- the rows with what a call changes, where it isn't refused
abbrev pub rows_by : Effect → Rows → Rows
rows_by (Ok changes) rows = applied changes rows
rows_by (Err fault) rows = rows

-- The reply to what was heard at a moment, by the rows that the collector finds, where its store doesn't fail. Batches come to
-- the host.
abbrev pub reply : List ℕ → Heard → Charset → ℕ → Memory → Rows → Reply
reply host heard charset moment memory rows = record {
  answer = answer_of memory.ids charset heard.relates (said_by host heard.asked rows (effect_in heard.asked moment rows));
  rows = rows_by (effect_in heard.asked moment rows) rows;
  memory = memory_behind memory (said_by host heard.asked rows (effect_in heard.asked moment rows));
}

-- so many ids are drawn, or fewer
abbrev pub MayHaveDrawn : ℕ → Memory → Memory → Type 0
MayHaveDrawn most before now = (draws : ℕ) × (draws ≤ most) × (now ≡ memory_after draws before)

-- An answer to what was heard at a moment: what the collector did with it, what it said, and how that is written.
pub record IsAnswer (host : List ℕ) (heard : Heard) (charset : Charset) (moment : ℕ) (answer : Answer) (memory memory_now : Memory) (before now : Store) : Type 0 where
  pub said : Said
  pub stepped : Steps host heard.asked moment said before now
  -- the rows that it read for that are of their form, unless it says that its store failed
  pub judged : Judges host heard.asked moment said before now
  pub written : answer ≡ answer_of memory.ids charset heard.relates said
  pub spelt : IsSpeltFor memory.ids said
  pub drawn : memory_now ≡ memory_behind memory said

-- what was said couldn't be written, and ids may be drawn for it
abbrev pub IsUnwritten : List ℕ → Heard → ℕ → Memory → Memory → Store → Store → Type 0
IsUnwritten host heard moment memory memory_now before now = (said : Said) × Steps host heard.asked moment said before now × MayHaveDrawn (draws_for said) memory memory_now

-- Where there was no memory for the answer: the step of a message wanted it, and no id is drawn; or the answer did.
abbrev pub IsUnanswered : List ℕ → Heard → ℕ → Memory → Memory → Store → Store → Type 0
IsUnanswered host heard moment memory memory_now before now =
    (HasStepped host heard.asked moment before now × (memory_now ≡ memory)) ⊎ IsUnwritten host heard moment memory memory_now before now
