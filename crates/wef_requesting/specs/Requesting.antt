-- What a request of the collector to a source does: the request that is due, its exchange over a link, and what the collector makes
-- of the answer.
use Rattle.std.specs.Prelude.{◌≡◌, ◌⊎◌, ℕ, List, Option, Some, None, Result, Ok, Err, IfErr, IfOk, IfSome, OnOk, codes}
use Rattle.wef_collector.specs.Asking.{next_request}
use Rattle.wef_collector.specs.Calls.{no_effect}
use Rattle.wef_collector.specs.Judged.{JudgesRequest}
use Rattle.wef_collector.specs.Memories.{memory_asked}
use Rattle.wef_collector.specs.declared.asking.Request.{Request}
use Rattle.wef_collector.specs.declared.memories.Memory.{Memory}
use Rattle.wef_collector_rows.specs.Answers.{IsOfStore}
use Rattle.wef_collector_rows.specs.Faults.{collector_store}
use Rattle.wef_collector_rows.specs.Forms.{AreFormed}
use Rattle.wef_collector_rows.specs.declared.faults.CollectorFault.{CollectorFault}
use Rattle.wef_collector_rows.specs.declared.faults.CollectorFault.TheVariants as collector
use Rattle.wef_forwarding.specs.Exchanges.{BrokeOff, WasMade}
use Rattle.wef_forwarding.specs.declared.exchanges.FrontFault.{FrontFault}
use Rattle.wef_forwarding.specs.declared.exchanges.FrontFault.TheVariants as front
use Rattle.wef_forwarding.specs.declared.exchanges.Request as message
use Rattle.wef_front_collector.specs.HeardResponses.{HearsResponse, IsUntaken, response_told}
use Rattle.wef_front_collector.specs.declared.listening.Hears as heard
use Rattle.wef_front_collector.specs.declared.listening.Hears.TheVariants as hears
use Rattle.wef_keeper.specs.Calls.{IsCall, Looks}
use Rattle.wef_keeper.specs.Keeping.{IsLawful, Store}
use Rattle.wef_ports.specs.Telling.{Told}
use Rattle.wef_requests.specs.Requests.{request_bytes}
use Rattle.wef_requesting.specs.declared.requesting.Outcome.{Outcome}
use Rattle.wef_requesting.specs.declared.requesting.Outcome.TheVariants.{Leased, Cleared, Lost}
use Rattle.wef_requesting.specs.declared.requesting.RequestFault.{RequestFault}
use Rattle.wef_requesting.specs.declared.requesting.RequestFault.TheVariants.{NoMemory, LinkFailed, StoreFailed}
use Rattle.wef_requesting.specs.declared.requesting.Sent.{Sent}

-- What is known of a collector that asks sources: what it remembers, its store, and what is told of the link.
pub record Asking : Type 0 where
  pub memory : Memory
  pub store : Store
  pub link : Told

-- ---- what is sent

-- the path at which a source takes requests
unfoldable pub source_path : List ℕ
source_path = codes "/wsman"

-- the message of HTTP that a request makes, which goes to the source's address
abbrev pub request_of : Request → message.Request
request_of r = record { host = r.source.address; path = source_path; body = request_bytes r }

-- ---- what is due

-- The collector gives the next request that is due at a moment, where one is, and waits for its answer from then on; or it refuses.
-- Events come to the host.
pub record AsksNext (host : List ℕ) (moment : ℕ) (asked : Result (Option Request) CollectorFault) (memory memory_now : Memory) (before now : Store) : Type 0 where
  -- by the rows that it finds, of which it changes none
  pub call : IsCall collector_store AreFormed no_effect (λ rows. next_request rows memory.waiting memory.ids host moment) asked before now
  pub looks : Looks collector_store AreFormed asked before now
  pub by_rows : IfSome now.rows (λ rows. IfOk asked (λ given. given ≡ next_request rows memory.waiting memory.ids host moment))
  -- the rows that it read are of their form
  pub judged : IfSome now.rows (λ rows. OnOk asked (JudgesRequest rows memory.waiting moment))
  pub refusal : IfErr asked IsOfStore
  pub remembered : memory_now ≡ memory_asked asked memory
  -- the store has the laws of every keeper's
  pub lawful : IsLawful now

-- why the collector gives no request
abbrev pub refused_by : CollectorFault → RequestFault
refused_by collector.NoMemory = NoMemory
refused_by _ = StoreFailed

-- ---- what comes back

-- why nothing is known of what came back; an exchange isn't refused by a source
abbrev pub broken_by : FrontFault → RequestFault
broken_by front.NoMemory = NoMemory
broken_by front.LinkFailed = LinkFailed
broken_by (front.Source fault) = LinkFailed

-- What the collector makes of the envelope that came back; nothing where none did.
abbrev pub Takes : Option (List ℕ) → ℕ → Memory → Memory → Store → Store → Option heard.Hears → Type 0
Takes None moment memory memory_now before now made = (made ≡ None) × (memory_now ≡ memory) × (now ≡ before)
Takes (Some envelope) moment memory memory_now before now made =
    (h : heard.Hears) × HearsResponse (response_told moment envelope) h moment memory memory_now before now × (made ≡ Some h)

-- what became of a request, by what the collector made of the answer
abbrev pub outcome_by : heard.Hears → Result Outcome RequestFault
outcome_by hears.Leased = Ok Leased
outcome_by hears.Cleared = Ok Cleared
outcome_by hears.NotAsked = Ok Lost
outcome_by hears.Unreadable = Ok Lost
outcome_by hears.Failed = Err StoreFailed

abbrev pub outcome_of : Option heard.Hears → Result Outcome RequestFault
outcome_of None = Ok Lost
outcome_of (Some h) = outcome_by h

-- The collector heard what came back, and this is the outcome.
abbrev pub IsHeard : Option (List ℕ) → ℕ → Memory → Memory → Store → Store → Result Outcome RequestFault → Type 0
IsHeard envelope moment memory memory_now before now result =
    (h : Option heard.Hears) × Takes envelope moment memory memory_now before now h × (result ≡ outcome_of h)

-- For want of memory it heard nothing, or did what it does without an answer.
abbrev pub IsUnheard : Option (List ℕ) → ℕ → Memory → Memory → Store → Store → Type 0
IsUnheard None moment memory memory_now before now = ⊥
IsUnheard (Some envelope) moment memory memory_now before now =
    ((memory_now ≡ memory) × (now ≡ before)) ⊎ IsUntaken (response_told moment envelope) moment memory memory_now before now

abbrev pub HearsBack : Option (List ℕ) → ℕ → Memory → Memory → Store → Store → Result Outcome RequestFault → Type 0
HearsBack envelope moment memory memory_now before now (Ok outcome) = IsHeard envelope moment memory memory_now before now (Ok outcome)
HearsBack envelope moment memory memory_now before now (Err NoMemory) = IsUnheard envelope moment memory memory_now before now
HearsBack envelope moment memory memory_now before now (Err LinkFailed) = ⊥
HearsBack envelope moment memory memory_now before now (Err StoreFailed) = IsHeard envelope moment memory memory_now before now (Err StoreFailed)

-- ---- what becomes of a request

-- A request was sent, and the collector heard what came back.
abbrev pub IsAnswered : Request → ℕ → Asking → Asking → Result Outcome RequestFault → Type 0
IsAnswered r moment before now result =
    (envelope : Option (List ℕ)) × WasMade (request_of r) envelope before.link now.link × IsHeard envelope moment before.memory now.memory before.store now.store result

-- An exchange was broken off, and the collector is as it was.
abbrev pub IsBroken : Request → FrontFault → Asking → Asking → Type 0
IsBroken r fault before now = BrokeOff (request_of r) fault before.link now.link × (now.memory ≡ before.memory) × (now.store ≡ before.store)

-- It was made, and for want of memory what came back wasn't heard.
abbrev pub IsForgone : Request → ℕ → Asking → Asking → Type 0
IsForgone r moment before now =
    (envelope : Option (List ℕ)) × WasMade (request_of r) envelope before.link now.link × IsUnheard envelope moment before.memory now.memory before.store now.store

abbrev pub Outcomes : Request → ℕ → Asking → Asking → Result Outcome RequestFault → Type 0
Outcomes r moment before now (Ok outcome) = IsAnswered r moment before now (Ok outcome)
Outcomes r moment before now (Err StoreFailed) = IsAnswered r moment before now (Err StoreFailed)
Outcomes r moment before now (Err LinkFailed) = IsBroken r front.LinkFailed before now
Outcomes r moment before now (Err NoMemory) = IsBroken r front.NoMemory before now ⊎ IsForgone r moment before now

-- the same with the request beside it
abbrev pub SendsRequest : Request → ℕ → Asking → Asking → Result (Option Sent) RequestFault → Type 0
SendsRequest r moment before now (Ok None) = ⊥
SendsRequest r moment before now (Ok (Some sent)) = (sent.request ≡ r) × Outcomes r moment before now (Ok sent.outcome)
SendsRequest r moment before now (Err fault) = Outcomes r moment before now (Err fault)

-- No request is given, and the link is as it was.
abbrev pub GivesNone : List ℕ → ℕ → Result (Option Request) CollectorFault → Asking → Asking → Type 0
GivesNone host moment asked before now = AsksNext host moment asked before.memory now.memory before.store now.store × (now.link ≡ before.link)

-- A request is given and sent.
pub record GivesAndSends (host : List ℕ) (moment : ℕ) (r : Request) (before now : Asking) (result : Result Outcome RequestFault) : Type 0 where
  pub memory : Memory
  pub store : Store
  pub asks : AsksNext host moment (Ok (Some r)) before.memory memory before.store store
  pub outcomes : Outcomes r moment (record { memory = memory; store = store; link = before.link }) now result

-- What it does to a collector and a link, by its answer: nothing is due; or a request was sent, with this outcome; or the collector
-- refused, or a request was sent and nobody knows what became of it.
abbrev pub RequestsOnce : List ℕ → ℕ → Asking → Asking → Result (Option Sent) RequestFault → Type 0
RequestsOnce host moment before now (Ok None) = GivesNone host moment (Ok None) before now
RequestsOnce host moment before now (Ok (Some sent)) = GivesAndSends host moment sent.request before now (Ok sent.outcome)
RequestsOnce host moment before now (Err fault) =
    ((refusal : CollectorFault) × GivesNone host moment (Err refusal) before now × (fault ≡ refused_by refusal))
    ⊎ ((r : Request) × GivesAndSends host moment r before now (Err fault))
