-- A request of the collector, step by step: what is due, its exchange, and what the collector hears.
use Rattle.std.proofs.Common.{◌≡◌, ◌⊎◌, inl, inr, ℕ, List, ap, refl, sym, subst}
use Rattle.std.specs.Prelude.{Option, Some, None, Result, Ok, Err, IfErr, IfOk, IfSome, OnOk}
use Rattle.wef_collector.specs.Asking.{next_request}
use Rattle.wef_collector.specs.Calls.{no_effect}
use Rattle.wef_collector.specs.Judged.{JudgesRequest}
use Rattle.wef_collector.specs.Memories.{memory_asked}
use Rattle.wef_collector.specs.State.{CollectorState}
use Rattle.wef_collector.specs.declared.asking.Request.{Request}
use Rattle.wef_collector.specs.declared.memories.Memory.{Memory}
use Rattle.wef_collector_rows.specs.Answers.{IsOfStore}
use Rattle.wef_collector_rows.specs.Faults.{collector_store}
use Rattle.wef_collector_rows.specs.Forms.{AreFormed}
use Rattle.wef_collector_rows.specs.declared.faults.CollectorFault.{CollectorFault}
use Rattle.wef_forwarding.proofs.Exchanging.{unbegun}
use Rattle.wef_forwarding.specs.Exchanges.{BrokeOff, WasMade}
use Rattle.wef_forwarding.specs.declared.exchanges.FrontFault.{FrontFault}
use Rattle.wef_forwarding.specs.declared.exchanges.FrontFault.TheVariants as front
use Rattle.wef_forwarding.specs.declared.exchanges.Request as message
use Rattle.wef_front_collector.specs.HeardResponses.{HearsResponse, IsUntaken, response_told}
use Rattle.wef_front_collector.specs.declared.listening.Hears as heard
use Rattle.wef_front_collector.specs.declared.listening.Hears.TheVariants as hears
use Rattle.wef_keeper.specs.Calls.{IsCall, Looks}
use Rattle.wef_keeper.specs.Keeping.{IsLawful, Store}
use Rattle.wef_ports.specs.Telling.{Told}
use Rattle.wef_requesting.specs.Requesting.{Asking, AsksNext, GivesAndSends, GivesNone, HearsBack, IsHeard, IsUnheard, Outcomes, RequestsOnce, SendsRequest, broken_by, outcome_by, refused_by, request_of}
use Rattle.wef_requesting.specs.declared.requesting.Outcome.{Outcome}
use Rattle.wef_requesting.specs.declared.requesting.Outcome.TheVariants.{Lost}
use Rattle.wef_requesting.specs.declared.requesting.RequestFault.{RequestFault}
use Rattle.wef_requesting.specs.declared.requesting.RequestFault.TheVariants.{NoMemory, LinkFailed, StoreFailed}
use Rattle.wef_requesting.specs.declared.requesting.Sent.{Sent}

-- ---- what is heard

-- no envelope came back
pub none_heard : (moment : ℕ) (memory : Memory) (store : Store) → HearsBack None moment memory memory store store (Ok Lost)
none_heard moment memory store = (None, (refl, refl, refl), refl)

-- one did, and this is what the collector made of it
pub some_heard : (envelope : List ℕ) (moment : ℕ) (memory memory_now : Memory) (before now : Store) (h : heard.Hears) → HearsResponse (response_told moment envelope) h moment memory memory_now before now
    → HearsBack (Some envelope) moment memory memory_now before now (outcome_by h)
some_heard envelope moment memory memory_now before now hears.Leased is = (Some hears.Leased, (hears.Leased, is, refl), refl)
some_heard envelope moment memory memory_now before now hears.Cleared is = (Some hears.Cleared, (hears.Cleared, is, refl), refl)
some_heard envelope moment memory memory_now before now hears.NotAsked is = (Some hears.NotAsked, (hears.NotAsked, is, refl), refl)
some_heard envelope moment memory memory_now before now hears.Unreadable is = (Some hears.Unreadable, (hears.Unreadable, is, refl), refl)
some_heard envelope moment memory memory_now before now hears.Failed is = (Some hears.Failed, (hears.Failed, is, refl), refl)

-- for want of memory it made nothing of it, or not all
pub unheard_so : {K : Type 0} (store : K → Store) (envelope : List ℕ) (moment : ℕ) (s t : CollectorState K)
    → (t ≡ s) ⊎ IsUntaken (response_told moment envelope) moment s.memory t.memory (store s.keeper) (store t.keeper)
    → HearsBack (Some envelope) moment s.memory t.memory (store s.keeper) (store t.keeper) (Err NoMemory)
unheard_so {K = K} store envelope moment s t (inl same) = inl (ap (λ (c : CollectorState K). c.memory) same, ap (λ (c : CollectorState K). store c.keeper) same)
unheard_so store envelope moment s t (inr untaken) = inr untaken

-- ---- the exchange

-- there was no memory for the message of HTTP
pub not_written : (r : Request) (moment : ℕ) (now : Asking) → Outcomes r moment now now (Err NoMemory)
not_written r moment now = inl (unbegun (request_of r) now.link, refl, refl)

-- it was made, and heard
pub heard_so : (r : Request) (m : message.Request) (moment : ℕ) (memory memory_now : Memory) (before now : Store) (link link' : Told) (envelope : Option (List ℕ)) (result : Result Outcome RequestFault)
    → m ≡ request_of r → WasMade m envelope link link' → HearsBack envelope moment memory memory_now before now result
    → Outcomes r moment (record { memory = memory; store = before; link = link }) (record { memory = memory_now; store = now; link = link' }) result
heard_so r m moment memory memory_now before now link link' envelope result is made hears = by result hears
  where
    so : WasMade (request_of r) envelope link link'
    so = subst (λ (x : message.Request). WasMade x envelope link link') is made

    by : (e : Result Outcome RequestFault) → HearsBack envelope moment memory memory_now before now e
        → Outcomes r moment (record { memory = memory; store = before; link = link }) (record { memory = memory_now; store = now; link = link' }) e
    by (Ok outcome) hears = (envelope, so, hears)
    by (Err StoreFailed) hears = (envelope, so, hears)
    by (Err LinkFailed) hears = absurd hears
    by (Err NoMemory) hears = inr (envelope, so, hears)

-- it was broken off
pub broken_so : (r : Request) (m : message.Request) (moment : ℕ) (memory : Memory) (store : Store) (link link' : Told) (fault : FrontFault)
    → m ≡ request_of r → BrokeOff m fault link link'
    → Outcomes r moment (record { memory = memory; store = store; link = link }) (record { memory = memory; store = store; link = link' }) (Err (broken_by fault))
broken_so r m moment memory store link link' front.NoMemory is broke = inl (subst (λ (x : message.Request). BrokeOff x front.NoMemory link link') is broke, refl, refl)
broken_so r m moment memory store link link' front.LinkFailed is broke = (subst (λ (x : message.Request). BrokeOff x front.LinkFailed link link') is broke, refl, refl)
broken_so r m moment memory store link link' (front.Source fault) is broke = absurd broke.cause

-- ---- the request

module _ (host : List ℕ) (moment : ℕ) (memory memory_now : Memory) (before now : Store) (asked : Result (Option Request) CollectorFault) where
  asks : IsCall collector_store AreFormed no_effect (λ rows. next_request rows memory.waiting memory.ids host moment) asked before now
      → Looks collector_store AreFormed asked before now
      → IfSome now.rows (λ rows. IfOk asked (λ given. given ≡ next_request rows memory.waiting memory.ids host moment))
      → IfSome now.rows (λ rows. OnOk asked (JudgesRequest rows memory.waiting moment)) → IfErr asked IsOfStore → memory_now ≡ memory_asked asked memory → IsLawful now
      → AsksNext host moment asked memory memory_now before now
  asks call looks by_rows judged refusal remembered lawful = record { call = call; looks = looks; by_rows = by_rows; judged = judged; refusal = refusal; remembered = remembered; lawful = lawful }

-- nothing is due
pub nothing_due : (host : List ℕ) (moment : ℕ) (memory memory_now : Memory) (before now : Store) (link : Told)
    → IsCall collector_store AreFormed no_effect (λ rows. next_request rows memory.waiting memory.ids host moment) (Ok None) before now → Looks {T = Option Request} collector_store AreFormed (Ok None) before now
    → IfSome now.rows (λ rows. None ≡ next_request rows memory.waiting memory.ids host moment) → IfSome now.rows (λ rows. JudgesRequest rows memory.waiting moment) → memory_now ≡ memory → IsLawful now
    → RequestsOnce host moment (record { memory = memory; store = before; link = link }) (record { memory = memory_now; store = now; link = link }) (Ok None)
nothing_due host moment memory memory_now before now link call looks by_rows judged remembered lawful = (asks host moment memory memory_now before now (Ok None) call looks by_rows judged tt remembered lawful, refl)

-- the collector refuses
pub refused : (host : List ℕ) (moment : ℕ) (memory memory_now : Memory) (before now : Store) (link : Told) (fault : CollectorFault)
    → IsCall collector_store AreFormed no_effect (λ rows. next_request rows memory.waiting memory.ids host moment) (Err fault) before now → Looks {T = Option Request} collector_store AreFormed (Err fault) before now
    → IsOfStore fault → memory_now ≡ memory → IsLawful now → RequestsOnce host moment (record { memory = memory; store = before; link = link }) (record { memory = memory_now; store = now; link = link }) (Err (refused_by fault))
refused host moment memory memory_now before now link fault call looks refusal remembered lawful =
    inl (fault, (asks host moment memory memory_now before now (Err fault) call looks (anything now.rows) (anything now.rows) refusal remembered lawful, refl), refl)
  where
    anything : {A : Type 0} (o : Option A) → IfSome o (λ a. Unit {0})
    anything None = tt
    anything (Some a) = tt

-- it gives a request, which is sent
pub sent_so : (host : List ℕ) (moment : ℕ) (memory mid last : Memory) (before between now : Store) (link link' : Told) (r : Request) (result : Result (Option Sent) RequestFault)
    → IsCall collector_store AreFormed no_effect (λ rows. next_request rows memory.waiting memory.ids host moment) (Ok (Some r)) before between → Looks {T = Option Request} collector_store AreFormed (Ok (Some r)) before between
    → IfSome between.rows (λ rows. Some r ≡ next_request rows memory.waiting memory.ids host moment) → IfSome between.rows (λ rows. JudgesRequest rows memory.waiting moment) → mid ≡ memory_asked (Ok (Some r)) memory → IsLawful between
    → SendsRequest r moment (record { memory = mid; store = between; link = link }) (record { memory = last; store = now; link = link' }) result
    → RequestsOnce host moment (record { memory = memory; store = before; link = link }) (record { memory = last; store = now; link = link' }) result
sent_so host moment memory mid last before between now link link' r result call looks by_rows judged remembered lawful sends = by result sends
  where
    given : AsksNext host moment (Ok (Some r)) memory mid before between
    given = asks host moment memory mid before between (Ok (Some r)) call looks by_rows judged tt remembered lawful

    first : Asking
    first = record { memory = memory; store = before; link = link }

    ended : Asking
    ended = record { memory = last; store = now; link = link' }

    with_request : (o : Outcome) (q : Request) → q ≡ r → Outcomes r moment (record { memory = mid; store = between; link = link }) ended (Ok o) → GivesAndSends host moment q first ended (Ok o)
    with_request o q is outcomes =
        subst (λ (x : Request). GivesAndSends host moment x first ended (Ok o)) (sym is) (record { memory = mid; store = between; asks = given; outcomes = outcomes })

    by : (e : Result (Option Sent) RequestFault) → SendsRequest r moment (record { memory = mid; store = between; link = link }) ended e → RequestsOnce host moment first ended e
    by (Ok None) sends = absurd sends
    by (Ok (Some s)) sends = with_request s.outcome s.request sends.0 sends.1
    by (Err fault) sends = inr (r, record { memory = mid; store = between; asks = given; outcomes = sends })
