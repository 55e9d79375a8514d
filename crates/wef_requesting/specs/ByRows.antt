-- What a request of the collector to a source does to the rows that are kept, whatever its store does meanwhile.
use Rattle.std.specs.Prelude.{◌≡◌, ◌⊎◌, ℕ, true, List, Option, Some, None, Result, Ok, Err, IfErr}
use Rattle.wef_collector.specs.Asking.{next_request}
use Rattle.wef_collector.specs.Calls.{OfResponse, no_effect}
use Rattle.wef_collector.specs.Memories.{memory_answered, memory_asked, waiting_for}
use Rattle.wef_collector.specs.Responses.{answered_of, waiting_effect}
use Rattle.wef_collector.specs.declared.asking.Request.{Request}
use Rattle.wef_collector.specs.declared.memories.Memory.{Memory}
use Rattle.wef_collector.specs.declared.responses.Answered.{Answered}
use Rattle.wef_collector.specs.declared.responses.Response.{Response}
use Rattle.wef_collector_rows.specs.Answers.{IsOfStore}
use Rattle.wef_collector_rows.specs.Faults.{collector_store}
use Rattle.wef_collector_rows.specs.declared.faults.CollectorFault.{CollectorFault}
use Rattle.wef_collector_rows.specs.declared.faults.CollectorFault.TheVariants as collector
use Rattle.wef_forwarding.specs.Exchanges.{BrokeOff, WasMade}
use Rattle.wef_forwarding.specs.declared.exchanges.FrontFault.{FrontFault}
use Rattle.wef_forwarding.specs.declared.exchanges.FrontFault.TheVariants as front
use Rattle.wef_front_collector.specs.HeardResponses as told
use Rattle.wef_front_collector.specs.HeardResponses.{IsHeard as IsHeardFault, hears_of, response_told}
use Rattle.wef_front_collector.specs.declared.listening.Hears as heard
use Rattle.wef_front_collector.specs.declared.listening.Hears.TheVariants.{Unreadable}
use Rattle.wef_ids.specs.declared.MessageId.{MessageId}
use Rattle.wef_keeper.specs.Calls.{GoesOver}
use Rattle.wef_keeper.specs.Keeping.{IsLawful, MayFind}
use Rattle.wef_keeper.specs.Rows.{Rows}
use Rattle.wef_ports.specs.Telling.{Told}
use Rattle.wef_requesting.specs.Requesting.{Asking, RequestsOnce, outcome_of, refused_by, request_of}
use Rattle.wef_requesting.specs.declared.requesting.Outcome.{Outcome}
use Rattle.wef_requesting.specs.declared.requesting.RequestFault.{RequestFault}
use Rattle.wef_requesting.specs.declared.requesting.RequestFault.TheVariants.{NoMemory, LinkFailed, StoreFailed}
use Rattle.wef_requesting.specs.declared.requesting.Sent.{Sent}

-- What is kept of a collector that asks sources: the rows that an opening of its store finds, what it remembers, and what is told of
-- the link.
pub record Kept : Type 0 where
  pub rows : Rows
  pub memory : Memory
  pub link : Told

abbrev pub kept_of : Rows → Asking → Kept
kept_of rows asking = record { rows = rows; memory = asking.memory; link = asking.link }

-- ---- what is due

-- The collector gives the next request that the rows call for at a moment, or its store refused that.
abbrev pub AsksOver : List ℕ → ℕ → Result (Option Request) CollectorFault → Memory → Memory → Rows → Rows → Type 0
AsksOver host moment asked memory memory_now found left =
    GoesOver collector_store no_effect (λ rows. next_request rows memory.waiting memory.ids host moment) asked found left × IfErr asked IsOfStore × (memory_now ≡ memory_asked asked memory)

-- ---- what comes back

-- It takes an answer: the rows then are those with what the answer changes; or it refuses it, or its store failed.
abbrev pub TakesOver : Result Answered CollectorFault → MessageId → Response → ℕ → Memory → Memory → Rows → Rows → Type 0
TakesOver done relates answer moment memory memory_now found left =
    GoesOver collector_store (waiting_effect (waiting_for memory relates.value) answer moment) (λ _. answered_of answer) done found left × IfErr done OfResponse
    × (memory_now ≡ memory_answered done relates.value memory)

-- what it makes of what it is told
abbrev pub HearsOver : Option told.Told → heard.Hears → ℕ → Memory → Memory → Rows → Rows → Type 0
HearsOver None hears moment memory memory_now found left = (hears ≡ Unreadable) × (memory_now ≡ memory) × (left ≡ found)
HearsOver (Some t) hears moment memory memory_now found left =
    (done : Result Answered CollectorFault) × TakesOver done t.0 t.1 moment memory memory_now found left × IfErr done IsHeardFault × (hears ≡ hears_of done)

-- and of the envelope that came back
abbrev pub GetsOver : Option (List ℕ) → ℕ → Memory → Memory → Rows → Rows → Option heard.Hears → Type 0
GetsOver None moment memory memory_now found left made = (made ≡ None) × (memory_now ≡ memory) × (left ≡ found)
GetsOver (Some envelope) moment memory memory_now found left made =
    (h : heard.Hears) × HearsOver (response_told moment envelope) h moment memory memory_now found left × (made ≡ Some h)

-- For want of memory it heard nothing, or did what it does without an answer.
abbrev pub MissesOver : Option (List ℕ) → ℕ → Memory → Memory → Rows → Rows → Type 0
MissesOver None moment memory memory_now found left = ⊥
MissesOver (Some envelope) moment memory memory_now found left =
    ((memory_now ≡ memory) × (left ≡ found))
    ⊎ ((relates : MessageId) × (answer : Response) × (response_told moment envelope ≡ Some (relates, answer)) × TakesOver (Err collector.NoMemory) relates answer moment memory memory_now found left)

-- ---- what becomes of a request

abbrev pub IsAnsweredOver : Request → ℕ → Kept → Kept → Result Outcome RequestFault → Type 0
IsAnsweredOver r moment before now result =
    (envelope : Option (List ℕ)) × WasMade (request_of r) envelope before.link now.link
    × ((h : Option heard.Hears) × GetsOver envelope moment before.memory now.memory before.rows now.rows h × (result ≡ outcome_of h))

abbrev pub IsBrokenOver : Request → FrontFault → Kept → Kept → Type 0
IsBrokenOver r fault before now = BrokeOff (request_of r) fault before.link now.link × (now.memory ≡ before.memory) × (now.rows ≡ before.rows)

abbrev pub IsForgoneOver : Request → ℕ → Kept → Kept → Type 0
IsForgoneOver r moment before now =
    (envelope : Option (List ℕ)) × WasMade (request_of r) envelope before.link now.link × MissesOver envelope moment before.memory now.memory before.rows now.rows

abbrev pub OutcomesOver : Request → ℕ → Kept → Kept → Result Outcome RequestFault → Type 0
OutcomesOver r moment before now (Ok outcome) = IsAnsweredOver r moment before now (Ok outcome)
OutcomesOver r moment before now (Err StoreFailed) = IsAnsweredOver r moment before now (Err StoreFailed)
OutcomesOver r moment before now (Err LinkFailed) = IsBrokenOver r front.LinkFailed before now
OutcomesOver r moment before now (Err NoMemory) = IsBrokenOver r front.NoMemory before now ⊎ IsForgoneOver r moment before now

abbrev pub GivesNoneOver : List ℕ → ℕ → Result (Option Request) CollectorFault → Kept → Kept → Type 0
GivesNoneOver host moment asked before now = AsksOver host moment asked before.memory now.memory before.rows now.rows × (now.link ≡ before.link)

-- A request is given by the rows, and sent.
pub record SendsOver (host : List ℕ) (moment : ℕ) (r : Request) (before now : Kept) (result : Result Outcome RequestFault) : Type 0 where
  pub memory : Memory
  pub rows : Rows
  pub asks : AsksOver host moment (Ok (Some r)) before.memory memory before.rows rows
  pub outcomes : OutcomesOver r moment (record { rows = rows; memory = memory; link = before.link }) now result

-- What a request does over rows, by its answer.
abbrev pub RequestsOver : List ℕ → ℕ → Kept → Kept → Result (Option Sent) RequestFault → Type 0
RequestsOver host moment before now (Ok None) = GivesNoneOver host moment (Ok None) before now
RequestsOver host moment before now (Ok (Some sent)) = SendsOver host moment sent.request before now (Ok sent.outcome)
RequestsOver host moment before now (Err fault) =
    ((refusal : CollectorFault) × GivesNoneOver host moment (Err refusal) before now × (fault ≡ refused_by refusal)) ⊎ ((r : Request) × SendsOver host moment r before now (Err fault))

-- ---- the law

-- A request over a store that was opened goes by rows: from any of those that an opening may find behind it, back to those that one
-- could find before it.
pub record GoesByRows (host : List ℕ) (moment : ℕ) (before now : Asking) (result : Result (Option Sent) RequestFault) (last : Rows) : Type 0 where
  pub first : Rows
  pub found : MayFind before.store first
  pub requests : RequestsOver host moment (kept_of first before) (kept_of last now) result
  pub opened : now.store.opened ≡ true

abbrev pub RequestsGoByRows : Type 0
RequestsGoByRows =
    (host : List ℕ) (moment : ℕ) (before now : Asking) (result : Result (Option Sent) RequestFault) (last : Rows) →
    RequestsOnce host moment before now result → IsLawful now.store → before.store.opened ≡ true → MayFind now.store last → GoesByRows host moment before now result last
