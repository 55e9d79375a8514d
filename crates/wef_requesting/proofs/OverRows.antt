-- Requests over rows: from any of those that an opening may find behind one, back to those that stood before it.
use Rattle.std.proofs.Common.{◌≡◌, ◌⊎◌, inl, inr, ℕ, true, List, ap, refl, subst, ◌∙◌}
use Rattle.std.specs.Prelude.{Option, Some, None, Result, Ok, Err}
use Rattle.wef_collector.specs.Asking.{next_request}
use Rattle.wef_collector.specs.Calls.{Effect, no_effect}
use Rattle.wef_collector.specs.Memories.{waiting_for}
use Rattle.wef_collector.specs.Responses.{answered_of, waiting_effect}
use Rattle.wef_collector.specs.declared.asking.Request.{Request}
use Rattle.wef_collector.specs.declared.memories.Memory.{Memory}
use Rattle.wef_collector_rows.specs.Faults.{collector_store}
use Rattle.wef_collector_rows.specs.Forms.{AreFormed}
use Rattle.wef_collector_rows.specs.declared.faults.CollectorFault.{CollectorFault}
use Rattle.wef_front_collector.specs.HeardResponses as told
use Rattle.wef_front_collector.specs.HeardResponses.{HearsResponse, IsUntaken, response_told}
use Rattle.wef_front_collector.specs.declared.listening.Hears as heard
use Rattle.wef_keeper.proofs.Going.{goes_over, told_before, which_found}
use Rattle.wef_keeper.specs.Calls.{GoesOver, IsCall}
use Rattle.wef_keeper.specs.Keeping.{IsLawful, MayFind, Store}
use Rattle.wef_keeper.specs.Rows.{Rows}
use Rattle.wef_requesting.specs.ByRows.{AsksOver, GetsOver, GoesByRows, HearsOver, MissesOver, OutcomesOver, RequestsGoByRows, RequestsOver, SendsOver, kept_of}
use Rattle.wef_requesting.specs.Requesting.{Asking, AsksNext, GivesAndSends, IsUnheard, Outcomes, RequestsOnce, Takes}
use Rattle.wef_requesting.specs.declared.requesting.Outcome.{Outcome}
use Rattle.wef_requesting.specs.declared.requesting.RequestFault.{RequestFault}
use Rattle.wef_requesting.specs.declared.requesting.RequestFault.TheVariants.{NoMemory, LinkFailed, StoreFailed}
use Rattle.wef_requesting.specs.declared.requesting.Sent.{Sent}

-- Rows before a step, by those behind it; and the store is opened then.
abbrev Back : (Rows → Type 0) → Store → Store → Type 0
Back Holds before now = (first : Rows) × MayFind before first × Holds first × (now.opened ≡ true)

-- ---- one call of the collector

call_back : {T : Type 0} (gives : Rows → T) (effect : Rows → Effect) (done : Result T CollectorFault) (before now : Store) (last : Rows) → IsCall collector_store AreFormed effect gives done before now → IsLawful now
    → before.opened ≡ true → MayFind now last → Back (λ first. GoesOver collector_store effect gives done first last) before now
call_back gives effect done before now last call lawful opened found =
    let back = which_found (λ rows. GoesOver collector_store effect gives done rows last) before.images (goes_over collector_store AreFormed effect gives before now last done call lawful found) in
    (back.0, told_before before now back.0 last lawful opened call.untold found back.1, back.2, call.opened opened)

-- a store that is as it was
same_back : (before now : Store) (last : Rows) → now ≡ before → before.opened ≡ true → MayFind now last → Back (λ first. last ≡ first) before now
same_back before now last same opened found = (last, subst (λ (s : Store). MayFind s last) same found, refl, ap (λ (s : Store). s.opened) same ∙ opened)

asks_back : (host : List ℕ) (moment : ℕ) (asked : Result (Option Request) CollectorFault) (memory memory_now : Memory) (before now : Store) (last : Rows) → AsksNext host moment asked memory memory_now before now
    → before.opened ≡ true → MayFind now last → Back (λ first. AsksOver host moment asked memory memory_now first last) before now
asks_back host moment asked memory memory_now before now last asks opened found =
    let back = call_back (λ rows. next_request rows memory.waiting memory.ids host moment) no_effect asked before now last asks.call asks.lawful opened found in
    (back.0, back.1, (back.2, asks.refusal, asks.remembered), back.3)

-- ---- what came back

hears_back : (t : Option told.Told) (h : heard.Hears) (moment : ℕ) (memory memory_now : Memory) (before now : Store) (last : Rows) → HearsResponse t h moment memory memory_now before now → IsLawful now
    → before.opened ≡ true → MayFind now last → Back (λ first. HearsOver t h moment memory memory_now first last) before now
hears_back None h moment memory memory_now before now last (is, remembered, same) lawful opened found =
    let back = same_back before now last same opened found in (back.0, back.1, (is, remembered, back.2), back.3)
hears_back (Some t) h moment memory memory_now before now last (done, responds, known, is) lawful opened found =
    let back = call_back (λ _. answered_of t.1) (waiting_effect (waiting_for memory t.0.value) t.1 moment) done before now last responds.call lawful opened found in
    (back.0, back.1, (done, (back.2, responds.listed, responds.remembered), known, is), back.3)

takes_back : (envelope : Option (List ℕ)) (moment : ℕ) (memory memory_now : Memory) (before now : Store) (last : Rows) (made : Option heard.Hears) → Takes envelope moment memory memory_now before now made → IsLawful now
    → before.opened ≡ true → MayFind now last → Back (λ first. GetsOver envelope moment memory memory_now first last made) before now
takes_back None moment memory memory_now before now last made (is, remembered, same) lawful opened found =
    let back = same_back before now last same opened found in (back.0, back.1, (is, remembered, back.2), back.3)
takes_back (Some envelope) moment memory memory_now before now last made (h, hears, is) lawful opened found =
    let back = hears_back (response_told moment envelope) h moment memory memory_now before now last hears lawful opened found in
    (back.0, back.1, (h, back.2, is), back.3)

untaken_back : (envelope : List ℕ) (t : Option told.Told) (moment : ℕ) (memory memory_now : Memory) (before now : Store) (last : Rows) → response_told moment envelope ≡ t → IsUntaken t moment memory memory_now before now → IsLawful now
    → before.opened ≡ true → MayFind now last → Back (λ first. MissesOver (Some envelope) moment memory memory_now first last) before now
untaken_back envelope None moment memory memory_now before now last tells untaken lawful opened found = absurd untaken
untaken_back envelope (Some t) moment memory memory_now before now last tells untaken lawful opened found =
    let back = call_back (λ _. answered_of t.1) (waiting_effect (waiting_for memory t.0.value) t.1 moment) _ before now last untaken.call lawful opened found in
    (back.0, back.1, inr (t.0, t.1, tells, (back.2, untaken.listed, untaken.remembered)), back.3)

unheard_back : (envelope : Option (List ℕ)) (moment : ℕ) (memory memory_now : Memory) (before now : Store) (last : Rows) → IsUnheard envelope moment memory memory_now before now → IsLawful now
    → before.opened ≡ true → MayFind now last → Back (λ first. MissesOver envelope moment memory memory_now first last) before now
unheard_back None moment memory memory_now before now last unheard lawful opened found = absurd unheard
unheard_back (Some envelope) moment memory memory_now before now last (inl (remembered, same)) lawful opened found =
    let back = same_back before now last same opened found in (back.0, back.1, inl (remembered, back.2), back.3)
unheard_back (Some envelope) moment memory memory_now before now last (inr untaken) lawful opened found =
    untaken_back envelope (response_told moment envelope) moment memory memory_now before now last refl untaken lawful opened found

-- ---- what becomes of a request

outcomes_back : (r : Request) (moment : ℕ) (before now : Asking) (result : Result Outcome RequestFault) (last : Rows) → Outcomes r moment before now result → IsLawful now.store
    → before.store.opened ≡ true → MayFind now.store last → Back (λ first. OutcomesOver r moment (kept_of first before) (kept_of last now) result) before.store now.store
outcomes_back r moment before now (Ok outcome) last (envelope, made, (h, takes, is)) lawful opened found =
    let back = takes_back envelope moment before.memory now.memory before.store now.store last h takes lawful opened found in
    (back.0, back.1, (envelope, made, (h, back.2, is)), back.3)
outcomes_back r moment before now (Err StoreFailed) last (envelope, made, (h, takes, is)) lawful opened found =
    let back = takes_back envelope moment before.memory now.memory before.store now.store last h takes lawful opened found in
    (back.0, back.1, (envelope, made, (h, back.2, is)), back.3)
outcomes_back r moment before now (Err LinkFailed) last (broke, remembered, same) lawful opened found =
    let back = same_back before.store now.store last same opened found in (back.0, back.1, (broke, remembered, back.2), back.3)
outcomes_back r moment before now (Err NoMemory) last (inl (broke, remembered, same)) lawful opened found =
    let back = same_back before.store now.store last same opened found in (back.0, back.1, inl (broke, remembered, back.2), back.3)
outcomes_back r moment before now (Err NoMemory) last (inr (envelope, made, unheard)) lawful opened found =
    let back = unheard_back envelope moment before.memory now.memory before.store now.store last unheard lawful opened found in
    (back.0, back.1, inr (envelope, made, back.2), back.3)

sends_back : (host : List ℕ) (moment : ℕ) (r : Request) (before now : Asking) (result : Result Outcome RequestFault) (last : Rows) → GivesAndSends host moment r before now result → IsLawful now.store
    → before.store.opened ≡ true → MayFind now.store last → Back (λ first. SendsOver host moment r (kept_of first before) (kept_of last now) result) before.store now.store
sends_back host moment r before now result last sends lawful opened found =
    let mid : Asking = record { memory = sends.memory; store = sends.store; link = before.link } in
    let between : sends.store.opened ≡ true = sends.asks.call.opened opened in
    let then_on = outcomes_back r moment mid now result last sends.outcomes lawful between found in
    let here = asks_back host moment (Ok (Some r)) before.memory sends.memory before.store sends.store then_on.0 sends.asks opened then_on.1 in
    (here.0, here.1, record { memory = sends.memory; rows = then_on.0; asks = here.2; outcomes = then_on.2 }, then_on.3)

requests_back : (host : List ℕ) (moment : ℕ) (before now : Asking) (result : Result (Option Sent) RequestFault) (last : Rows) → RequestsOnce host moment before now result → IsLawful now.store
    → before.store.opened ≡ true → MayFind now.store last → Back (λ first. RequestsOver host moment (kept_of first before) (kept_of last now) result) before.store now.store
requests_back host moment before now (Ok None) last (asks, link) lawful opened found =
    let back = asks_back host moment (Ok None) before.memory now.memory before.store now.store last asks opened found in (back.0, back.1, (back.2, link), back.3)
requests_back host moment before now (Ok (Some sent)) last sends lawful opened found = sends_back host moment sent.request before now (Ok sent.outcome) last sends lawful opened found
requests_back host moment before now (Err fault) last (inl (refusal, (asks, link), is)) lawful opened found =
    let back = asks_back host moment (Err refusal) before.memory now.memory before.store now.store last asks opened found in (back.0, back.1, inl (refusal, (back.2, link), is), back.3)
requests_back host moment before now (Err fault) last (inr (r, sends)) lawful opened found =
    let back = sends_back host moment r before now (Err fault) last sends lawful opened found in (back.0, back.1, inr (r, back.2), back.3)

pub requests_go_by_rows : RequestsGoByRows
requests_go_by_rows host moment before now result last requests lawful opened found =
    let back = requests_back host moment before now result last requests lawful opened found in
    record { first = back.0; found = back.1; requests = back.2; opened = back.3 }

-- ---- the store is opened behind a request

opened_same : (before now : Store) → now ≡ before → before.opened ≡ true → now.opened ≡ true
opened_same before now same opened = ap (λ (s : Store). s.opened) same ∙ opened

opened_hears : (t : Option told.Told) (h : heard.Hears) (moment : ℕ) (memory memory_now : Memory) (before now : Store) → HearsResponse t h moment memory memory_now before now → before.opened ≡ true → now.opened ≡ true
opened_hears None h moment memory memory_now before now (is, remembered, same) opened = opened_same before now same opened
opened_hears (Some t) h moment memory memory_now before now (done, responds, known, is) opened = responds.call.opened opened

opened_takes : (envelope : Option (List ℕ)) (moment : ℕ) (memory memory_now : Memory) (before now : Store) (made : Option heard.Hears) → Takes envelope moment memory memory_now before now made → before.opened ≡ true → now.opened ≡ true
opened_takes None moment memory memory_now before now made (is, remembered, same) opened = opened_same before now same opened
opened_takes (Some envelope) moment memory memory_now before now made (h, hears, is) opened = opened_hears (response_told moment envelope) h moment memory memory_now before now hears opened

opened_untaken : (t : Option told.Told) (moment : ℕ) (memory memory_now : Memory) (before now : Store) → IsUntaken t moment memory memory_now before now → before.opened ≡ true → now.opened ≡ true
opened_untaken None moment memory memory_now before now untaken opened = absurd untaken
opened_untaken (Some t) moment memory memory_now before now untaken opened = untaken.call.opened opened

opened_unheard : (envelope : Option (List ℕ)) (moment : ℕ) (memory memory_now : Memory) (before now : Store) → IsUnheard envelope moment memory memory_now before now → before.opened ≡ true → now.opened ≡ true
opened_unheard None moment memory memory_now before now unheard opened = absurd unheard
opened_unheard (Some envelope) moment memory memory_now before now (inl (remembered, same)) opened = opened_same before now same opened
opened_unheard (Some envelope) moment memory memory_now before now (inr untaken) opened = opened_untaken (response_told moment envelope) moment memory memory_now before now untaken opened

opened_outcomes : (r : Request) (moment : ℕ) (before now : Asking) (result : Result Outcome RequestFault) → Outcomes r moment before now result → before.store.opened ≡ true → now.store.opened ≡ true
opened_outcomes r moment before now (Ok outcome) (envelope, made, (h, takes, is)) opened = opened_takes envelope moment before.memory now.memory before.store now.store h takes opened
opened_outcomes r moment before now (Err StoreFailed) (envelope, made, (h, takes, is)) opened = opened_takes envelope moment before.memory now.memory before.store now.store h takes opened
opened_outcomes r moment before now (Err LinkFailed) (broke, remembered, same) opened = opened_same before.store now.store same opened
opened_outcomes r moment before now (Err NoMemory) (inl (broke, remembered, same)) opened = opened_same before.store now.store same opened
opened_outcomes r moment before now (Err NoMemory) (inr (envelope, made, unheard)) opened = opened_unheard envelope moment before.memory now.memory before.store now.store unheard opened

pub opened_once : (host : List ℕ) (moment : ℕ) (before now : Asking) (result : Result (Option Sent) RequestFault) → RequestsOnce host moment before now result → before.store.opened ≡ true → now.store.opened ≡ true
opened_once host moment before now (Ok None) (asks, link) opened = asks.call.opened opened
opened_once host moment before now (Ok (Some sent)) sends opened = opened_outcomes sent.request moment _ now (Ok sent.outcome) sends.outcomes (sends.asks.call.opened opened)
opened_once host moment before now (Err fault) (inl (refusal, (asks, link), is)) opened = asks.call.opened opened
opened_once host moment before now (Err fault) (inr (r, sends)) opened = opened_outcomes r moment _ now (Err fault) sends.outcomes (sends.asks.call.opened opened)
