-- Why a run of `request` says that its store failed, and that its rows stay of their form.
use Rattle.std.proofs.Common.{◌≡◌, inl, inr, ℕ, ◌≤◌, true, List, [], ◌∷◌, refl, ap, sym, ◌∙◌, arith}
use Rattle.std.specs.Prelude.{Option, Some, None, Result, Ok, Err, IfErr}
use Rattle.wef_collector.specs.declared.memories.Memory.{Memory}
use Rattle.wef_collector.specs.declared.responses.Answered.{Answered}
use Rattle.wef_collector.specs.declared.responses.Answered.TheVariants as answered
use Rattle.wef_collector_rows.specs.Forms.{AreFormed}
use Rattle.wef_collector_rows.specs.declared.faults.CollectorFault.{CollectorFault}
use Rattle.wef_collector_rows.specs.declared.faults.CollectorFault.TheVariants as faults
use Rattle.wef_commands.specs.Endings.{Told}
use Rattle.wef_commands.specs.declared.ending.Ending.TheVariants as ends
use Rattle.wef_front_collector.specs.HeardResponses as told
use Rattle.wef_front_collector.specs.HeardResponses.{HearsResponse, hears_of, response_told}
use Rattle.wef_front_collector.specs.declared.listening.Hears as heard
use Rattle.wef_front_collector.specs.declared.listening.Hears.TheVariants as hears
use Rattle.wef_keeper.specs.Access.{HasCause}
use Rattle.wef_keeper.specs.Keeping.{Store}
use Rattle.wef_requesting.specs.Requesting.{Asking, AsksNext, GivesAndSends, RequestsOnce, Takes, outcome_of, refused_by}
use Rattle.wef_requesting.specs.declared.requesting.Outcome.{Outcome}
use Rattle.wef_requesting.specs.declared.requesting.RequestFault.{RequestFault}
use Rattle.wef_requesting.specs.declared.requesting.RequestFault.TheVariants as fault
use Rattle.wef_requesting.specs.declared.requesting.Sent.{Sent}
use Rattle.wef_subscribing.specs.Requesting.{AreRequestedBy, IsRequested, RequestsAll, StopsBy, request_ending}
use Rattle.wef_cli.proofs.Causes.{later_caused, not_failed}

abbrev Caused : Store → Store → Type 0
Caused before now = HasCause AreFormed true before now

-- ---- no request lowers the count of faults

same_faults : (before now : Store) → now ≡ before → before.faults ≤ now.faults
same_faults before now same = let is : before.faults ≡ now.faults = ap (λ (s : Store). s.faults) (sym same) in omega (arith, is)

hears_later : (t : Option told.Told) (h : heard.Hears) (moment : ℕ) (memory memory_now : Memory) (before now : Store) → HearsResponse t h moment memory memory_now before now → before.faults ≤ now.faults
hears_later None h moment memory memory_now before now (is, remembered, same) = same_faults before now same
hears_later (Some t) h moment memory memory_now before now (done, responds, known, is) = responds.call.faults

takes_later : (envelope : Option (List ℕ)) (moment : ℕ) (memory memory_now : Memory) (before now : Store) (made : Option heard.Hears) → Takes envelope moment memory memory_now before now made → before.faults ≤ now.faults
takes_later None moment memory memory_now before now made (is, remembered, same) = same_faults before now same
takes_later (Some envelope) moment memory memory_now before now made (h, taking, is) = hears_later (response_told moment envelope) h moment memory memory_now before now taking

-- one that has an outcome
sent_later : (clock : Option ℕ) (host : List ℕ) (sent : Sent) (before now : Asking) → IsRequested clock host (Ok (Some sent)) before now → before.store.faults ≤ now.store.faults
sent_later clock host sent before now requested =
    let sends : GivesAndSends host requested.moment sent.request before now (Ok sent.outcome) = requested.requests in
    let first : before.store.faults ≤ sends.store.faults = sends.asks.call.faults in
    let next : sends.store.faults ≤ now.store.faults = takes_later sends.outcomes.0 requested.moment sends.memory now.memory sends.store now.store sends.outcomes.2.0 sends.outcomes.2.1 in
    omega (arith, first, next)

all_later : (clock : Option ℕ) (host : List ℕ) (xs : List Sent) (before now : Asking) → AreRequestedBy (IsRequested clock host) xs before now → before.store.faults ≤ now.store.faults
all_later clock host [] before now same = same_faults before.store now.store (ap (λ (a : Asking). a.store) same)
all_later clock host (x ∷ xs) before now (mid, requested, more) =
    let first = sent_later clock host x before mid requested in
    let next = all_later clock host xs mid now more in
    omega (arith, first, next)

-- ---- one that failed in the store

abbrev gave : heard.Hears → Option heard.Hears
gave h = Some h

abbrev failing : Result Outcome RequestFault
failing = Err fault.StoreFailed

is_failed : (made : Option heard.Hears) → failing ≡ outcome_of made → made ≡ Some hears.Failed
is_failed None is = cc
is_failed (Some hears.Leased) is = cc
is_failed (Some hears.Cleared) is = cc
is_failed (Some hears.NotAsked) is = cc
is_failed (Some hears.Unreadable) is = cc
is_failed (Some hears.Failed) is = refl

-- of an answer that was taken
taken_caused : (t : told.Told) (done : Result Answered CollectorFault) (moment : ℕ) (memory memory_now : Memory) (before now : Store) → told.Responds done t.0 t.1 moment memory memory_now before now → IfErr done told.IsHeard
    → hears.Failed ≡ hears_of done → Caused before now
taken_caused t (Ok answered.Leased) moment memory memory_now before now responds known is = cc
taken_caused t (Ok answered.Cleared) moment memory memory_now before now responds known is = cc
taken_caused t (Err faults.Failed) moment memory memory_now before now responds known is = responds.call.cause
taken_caused t (Err faults.NotAsked) moment memory memory_now before now responds known is = cc
taken_caused t (Err faults.NoMemory) moment memory memory_now before now responds known is = absurd known
taken_caused t (Err faults.NoSubscription) moment memory memory_now before now responds known is = absurd responds.listed
taken_caused t (Err faults.Exists) moment memory memory_now before now responds known is = absurd responds.listed
taken_caused t (Err faults.Ended) moment memory memory_now before now responds known is = absurd responds.listed
taken_caused t (Err faults.NotWellFormed) moment memory memory_now before now responds known is = absurd responds.listed
taken_caused t (Err faults.TooMany) moment memory memory_now before now responds known is = absurd responds.listed
taken_caused t (Err faults.Full) moment memory memory_now before now responds known is = absurd responds.listed

hears_caused : (t : Option told.Told) (h : heard.Hears) (moment : ℕ) (memory memory_now : Memory) (before now : Store) → HearsResponse t h moment memory memory_now before now → h ≡ hears.Failed → Caused before now
hears_caused None h moment memory memory_now before now (is, remembered, same) failed = let no : hears.Failed ≡ hears.Unreadable = sym failed ∙ is in cc
hears_caused (Some t) h moment memory memory_now before now (done, responds, known, is) failed = taken_caused t done moment memory memory_now before now responds known (sym failed ∙ is)

same_hears : (one other : heard.Hears) → gave one ≡ gave other → one ≡ other
same_hears one other is = cc

takes_caused : (envelope : Option (List ℕ)) (moment : ℕ) (memory memory_now : Memory) (before now : Store) (made : Option heard.Hears) → Takes envelope moment memory memory_now before now made → made ≡ Some hears.Failed → Caused before now
takes_caused None moment memory memory_now before now made (is, remembered, same) failed = let no : None ≡ gave hears.Failed = sym is ∙ failed in cc
takes_caused (Some envelope) moment memory memory_now before now made (h, taking, is) failed =
    hears_caused (response_told moment envelope) h moment memory memory_now before now taking (same_hears h hears.Failed (sym is ∙ failed))

-- of what is due
asks_caused : (host : List ℕ) (moment : ℕ) (refusal : CollectorFault) (memory memory_now : Memory) (before now : Store) → AsksNext host moment (Err refusal) memory memory_now before now → fault.StoreFailed ≡ refused_by refusal → Caused before now
asks_caused host moment faults.Failed memory memory_now before now asks is = asks.call.cause
asks_caused host moment faults.NoMemory memory memory_now before now asks is = cc
asks_caused host moment faults.NoSubscription memory memory_now before now asks is = absurd asks.refusal
asks_caused host moment faults.Exists memory memory_now before now asks is = absurd asks.refusal
asks_caused host moment faults.Ended memory memory_now before now asks is = absurd asks.refusal
asks_caused host moment faults.NotWellFormed memory memory_now before now asks is = absurd asks.refusal
asks_caused host moment faults.NotAsked memory memory_now before now asks is = absurd asks.refusal
asks_caused host moment faults.TooMany memory memory_now before now asks is = absurd asks.refusal
asks_caused host moment faults.Full memory memory_now before now asks is = absurd asks.refusal

once_caused : (host : List ℕ) (moment : ℕ) (before now : Asking) → RequestsOnce host moment before now (Err fault.StoreFailed) → Caused before.store now.store
once_caused host moment before now (inl (refusal, (asks, link), is)) = asks_caused host moment refusal before.memory now.memory before.store now.store asks is
once_caused host moment before now (inr (r, sends)) =
    later_caused AreFormed before.store sends.store now.store sends.asks.call.faults
    (takes_caused sends.outcomes.0 moment sends.memory now.memory sends.store now.store sends.outcomes.2.0 sends.outcomes.2.1 (is_failed sends.outcomes.2.0 sends.outcomes.2.2))

at_caused : (clock : Option ℕ) (host : List ℕ) (f : RequestFault) (before now : Asking) → IsRequested clock host (Err f) before now → ends.StoreFailed ≡ request_ending f → Caused before.store now.store
at_caused clock host fault.NoMemory before now requested is = absurd (not_failed ends.NoMemory refl is)
at_caused clock host fault.LinkFailed before now requested is = absurd (not_failed ends.LinkFailed refl is)
at_caused clock host fault.StoreFailed before now requested is = once_caused host requested.moment before now requested.requests

stops_caused : (clock : Option ℕ) (host : List ℕ) (left : ℕ) (text : List ℕ) (out : Told) (before now : Asking) → StopsBy (IsRequested clock host) left text ends.StoreFailed out before now → Caused before.store now.store
stops_caused clock host left text out before now (inl (why, done)) = absurd done
stops_caused clock host left text out before now (inr (some, inl (f, requested, is, told))) = at_caused clock host f before now requested is
stops_caused clock host left text out before now (inr (some, inr (sent, requested, untold))) = absurd untold

pub requests_caused : (clock : Option ℕ) (host : List ℕ) (count : ℕ) (out : Told) (before now : Asking) → RequestsAll clock host count ends.StoreFailed out before now → Caused before.store now.store
requests_caused clock host count out before now all =
    later_caused AreFormed before.store all.mid.store now.store (all_later clock host all.sent before all.mid all.are_sent) (stops_caused clock host _ _ out all.mid now all.stops)
