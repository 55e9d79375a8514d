-- What the bytes of an answer say to a collector, and what becomes of it.
use Rattle.std.specs.Prelude.{◌≡◌, ℕ, List, Option, Some, None, Result, Ok, Err, IfErr}
use Rattle.std.specs.Option.{option_and_then, option_map}
use Rattle.wef_base.specs.declared.tree.Charset.TheVariants.{Utf8}
use Rattle.wef_base.specs.declared.tree.Element.{Element}
use Rattle.wef_bodies.specs.Reading.{body_in}
use Rattle.wef_bodies.specs.declared.bodies.Body.{Body}
use Rattle.wef_bodies.specs.declared.bodies.Body.TheVariants as body
use Rattle.wef_collector.specs.Calls.{OfResponse}
use Rattle.wef_collector.specs.Judged.{JudgesResponse}
use Rattle.wef_collector.specs.Memories.{memory_answered, waiting_for}
use Rattle.wef_collector.specs.Responses.{answered_of, waiting_effect}
use Rattle.wef_collector.specs.declared.memories.Memory.{Memory}
use Rattle.wef_collector.specs.declared.responses.Answered.{Answered}
use Rattle.wef_collector.specs.declared.responses.Answered.TheVariants as answered
use Rattle.wef_collector.specs.declared.responses.Response.{Response}
use Rattle.wef_collector.specs.declared.responses.Response.TheVariants as response
use Rattle.wef_collector_rows.specs.Faults.{collector_store}
use Rattle.wef_collector_rows.specs.Forms.{AreFormed}
use Rattle.wef_collector_rows.specs.declared.faults.CollectorFault.{CollectorFault}
use Rattle.wef_collector_rows.specs.declared.faults.CollectorFault.TheVariants as fault
use Rattle.wef_envelope.specs.Envelopes.{said}
use Rattle.wef_envelope.specs.declared.envelopes.Envelope.{Envelope}
use Rattle.wef_envelope.specs.declared.envelopes.EnvelopeFault.{EnvelopeFault}
use Rattle.wef_ids.specs.declared.FaultName.{FaultName}
use Rattle.wef_ids.specs.declared.MessageId.{MessageId}
use Rattle.wef_keeper.specs.Calls.{DoesWith, IsCall}
use Rattle.wef_keeper.specs.Keeping.{Store}
use Rattle.wef_replies.specs.Faults.{fault_among}
use Rattle.wef_subscribes.specs.declared.faults.BodyFault.{BodyFault}
use Rattle.wef_tree_reading.specs.Documents.{tree_of}
use Rattle.wef_front_collector.specs.declared.listening.Hears.{Hears}
use Rattle.wef_front_collector.specs.declared.listening.Hears.TheVariants.{Leased, Cleared, NotAsked, Failed, Unreadable}

-- ---- what is told

-- the answer that a body is; how long a session still lasts is none, since the collector never asks that
abbrev pub response_of : Body → Option Response
response_of (body.Subscribed identifier expires) = Some (response.Subscribed identifier expires)
response_of (body.Renewed expires) = Some (response.Renewed expires)
response_of body.Unsubscribed = Some response.Unsubscribed
response_of _ = None

-- that of a body that is good
abbrev pub response_read : Result Body BodyFault → Option Response
response_read (Ok b) = response_of b
response_read (Err fault) = None

-- a fault is the answer, whatever else there is
abbrev pub response_by : Option FaultName → Result Body BodyFault → Option Response
response_by (Some name) read = Some (response.Fault name)
response_by None read = response_read read

-- the answer that an envelope is, at a moment in milliseconds since 1970: a fault, or else what its body says by its action
abbrev pub response_in : ℕ → Envelope → Option Response
response_in now e = response_by (fault_among e.body) (body_in now e)

-- what an answer relates to, and the answer
abbrev pub Told : Type 0
Told = MessageId × Response

abbrev pub told_in : Option MessageId → Option Response → Option Told
told_in None answer = None
told_in (Some relates) answer = option_map (λ (r : Response). (relates, r)) answer

abbrev pub told_by : ℕ → Result Envelope EnvelopeFault → Option Told
told_by now (Ok e) = told_in e.relates (response_in now e)
told_by now (Err fault) = None

-- What the bytes of an answer tell at a moment: they are the document of an envelope that relates to a message, and is an answer
-- that a collector knows.
abbrev pub response_told : ℕ → List ℕ → Option Told
response_told now bytes = option_and_then (λ (root : Element). told_by now (said root)) (tree_of Utf8 bytes)

-- ---- what becomes of it

-- the call by which the collector takes an answer
pub record Responds (done : Result Answered CollectorFault) (relates : MessageId) (answer : Response) (moment : ℕ) (memory memory_now : Memory) (before now : Store) : Type 0 where
  pub call : IsCall collector_store AreFormed (waiting_effect (waiting_for memory relates.value) answer moment) (λ _. answered_of answer) done before now
  -- the rows that it read are of their form, unless its store refused it
  pub judged : DoesWith collector_store AreFormed (waiting_effect (waiting_for memory relates.value) answer moment) (λ _. answered_of answer)
      (λ given found after. JudgesResponse given found (waiting_for memory relates.value) answer moment) done before now
  pub listed : IfErr done OfResponse
  pub remembered : memory_now ≡ memory_answered done relates.value memory

-- want of memory isn't heard
abbrev pub IsHeard : CollectorFault → Type 0
IsHeard fault.NoMemory = ⊥
IsHeard _ = Unit {0}

abbrev pub hears_by : Answered → Hears
hears_by answered.Leased = Leased
hears_by answered.Cleared = Cleared

-- what is heard of how it was taken
abbrev pub hears_of : Result Answered CollectorFault → Hears
hears_of (Ok given) = hears_by given
hears_of (Err fault.NotAsked) = NotAsked
hears_of (Err _) = Failed

abbrev pub HearsAnswer : Hears → MessageId → Response → ℕ → Memory → Memory → Store → Store → Type 0
HearsAnswer hears relates answer moment memory memory_now before now =
    (done : Result Answered CollectorFault) × Responds done relates answer moment memory memory_now before now × IfErr done IsHeard × (hears ≡ hears_of done)

-- What a collector makes of what it is told: it takes the answer, or there is none and all is as before.
abbrev pub HearsResponse : Option Told → Hears → ℕ → Memory → Memory → Store → Store → Type 0
HearsResponse None hears moment memory memory_now before now = (hears ≡ Unreadable) × (memory_now ≡ memory) × (now ≡ before)
HearsResponse (Some t) hears moment memory memory_now before now = HearsAnswer hears t.0 t.1 moment memory memory_now before now

-- where there was no memory for the call
abbrev pub WantsMemory : MessageId → Response → ℕ → Memory → Memory → Store → Store → Type 0
WantsMemory relates answer moment memory memory_now before now = Responds (Err fault.NoMemory) relates answer moment memory memory_now before now

-- and an answer was told
abbrev pub IsUntaken : Option Told → ℕ → Memory → Memory → Store → Store → Type 0
IsUntaken None moment memory memory_now before now = ⊥
IsUntaken (Some t) moment memory memory_now before now = WantsMemory t.0 t.1 moment memory memory_now before now
