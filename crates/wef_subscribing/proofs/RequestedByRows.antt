-- `request` over rows: from any of those that an opening may find behind it, back to those that stood before.
use Rattle.std.proofs.Common.{◌≡◌, inl, inr, ℕ, ◌-◌, true, List, [], ◌∷◌, length, ap, subst, ◌∙◌}
use Rattle.std.specs.List.{flat_map}
use Rattle.std.specs.Prelude.{Option, Some, None, Result, Ok, Err}
use Rattle.wef_collector.specs.Boots.{memory_begun}
use Rattle.wef_collector.specs.Calls.{boot_effect}
use Rattle.wef_collector.specs.declared.memories.Memory.{Memory}
use Rattle.wef_collector_rows.specs.Faults.{collector_store}
use Rattle.wef_collector_rows.specs.Forms.{AreFormed}
use Rattle.wef_collector_rows.specs.declared.faults.CollectorFault.{CollectorFault}
use Rattle.wef_commands.proofs.ByRows.{could_start, from_one, started_so}
use Rattle.wef_commands.specs.Calling.{Starts}
use Rattle.wef_commands.specs.Endings.{IsUnwritten, Told}
use Rattle.wef_commands.specs.Laws.{Stand, started}
use Rattle.wef_commands.specs.Refusals.{store_ending}
use Rattle.wef_commands.specs.declared.ending.Ending.{Ending}
use Rattle.wef_keeper.proofs.Going.{calm_rows, goes_over, which_found}
use Rattle.wef_keeper.specs.Calls.{Did, GoesOver}
use Rattle.wef_keeper.specs.Keeping.{MayFind, Store}
use Rattle.wef_keeper.specs.Rows.{Rows}
use Rattle.wef_ports.specs.Telling as ports
use Rattle.wef_requesting.proofs.OverRows.{opened_once, requests_go_by_rows}
use Rattle.wef_requesting.specs.ByRows.{Kept, kept_of}
use Rattle.wef_requesting.specs.Requesting.{Asking}
use Rattle.wef_requesting.specs.declared.requesting.RequestFault.{RequestFault}
use Rattle.wef_requesting.specs.declared.requesting.Sent.{Sent}
use Rattle.wef_running.proofs.ByRows.{only_found}
use Rattle.wef_subscribing.specs.ByRows.{IsAsking, IsNotStarted, IsRequestedOver, RequestsByRows}
use Rattle.wef_subscribing.specs.Requesting.{AreRequestedBy, EndsAtBy, IsRequested, RequestsAll, RequestsAllBy, StopsBy, request_line}

-- Rows before a step, by those behind it; and the store is opened then.
pub record Back (Holds : Rows → Type 0) (before now : Store) : Type 0 where
  pub first : Rows
  pub found : MayFind before first
  pub holds : Holds first
  pub opened : now.opened ≡ true

module _ (clock : Option ℕ) (host : List ℕ) where
  one_back : (result : Result (Option Sent) RequestFault) (before now : Asking) (last : Rows) → IsRequested clock host result before now → before.store.opened ≡ true → MayFind now.store last
      → Back (λ first. IsRequestedOver clock host result (kept_of first before) (kept_of last now)) before.store now.store
  one_back result before now last requested opened found =
      let back = requests_go_by_rows host requested.moment before now result last requested.requests requested.lawful opened found in
      record { first = back.first; found = back.found; holds = record { moment = requested.moment; is_moment = requested.is_moment; requests = back.requests }; opened = back.opened }

  -- a collector that is as it was
  same_back : (before now : Asking) (last : Rows) → now ≡ before → before.store.opened ≡ true → MayFind now.store last → Back (λ first. kept_of last now ≡ kept_of first before) before.store now.store
  same_back before now last same opened found = record {
    first = last;
    found = subst (λ (a : Asking). MayFind a.store last) same found;
    holds = ap (kept_of last) same;
    opened = ap (λ (a : Asking). a.store.opened) same ∙ opened;
  }

  opened_by : (result : Result (Option Sent) RequestFault) (before now : Asking) → IsRequested clock host result before now → before.store.opened ≡ true → now.store.opened ≡ true
  opened_by result before now requested opened = opened_once host requested.moment before now result requested.requests opened

  all_back : (xs : List Sent) (before now : Asking) (last : Rows) → AreRequestedBy (IsRequested clock host) xs before now → before.store.opened ≡ true → MayFind now.store last
      → Back (λ first. AreRequestedBy (IsRequestedOver clock host) xs (kept_of first before) (kept_of last now)) before.store now.store
  all_back [] before now last same opened found = same_back before now last same opened found
  all_back (x ∷ xs) before now last (mid, requested, more) opened found =
      let then_on = all_back xs mid now last more (opened_by (Ok (Some x)) before mid requested opened) found in
      let here = one_back (Ok (Some x)) before mid then_on.first requested opened then_on.found in
      record { first = here.first; found = here.found; holds = (kept_of then_on.first mid, here.holds, then_on.holds); opened = then_on.opened }

  at_back : (text : List ℕ) (ending : Ending) (out : Told) (before now : Asking) (last : Rows) → EndsAtBy (IsRequested clock host) text ending out before now → before.store.opened ≡ true → MayFind now.store last
      → Back (λ first. EndsAtBy (IsRequestedOver clock host) text ending out (kept_of first before) (kept_of last now)) before.store now.store
  at_back text ending out before now last (inl (fault, requested, is, said)) opened found =
      let back = one_back (Err fault) before now last requested opened found in
      record { first = back.first; found = back.found; holds = inl (fault, back.holds, is, said); opened = back.opened }
  at_back text ending out before now last (inr (sent, requested, unsaid)) opened found =
      let back = one_back (Ok (Some sent)) before now last requested opened found in
      record { first = back.first; found = back.found; holds = inr (sent, back.holds, unsaid); opened = back.opened }

  stops_back : (left : ℕ) (text : List ℕ) (ending : Ending) (out : Told) (before now : Asking) (last : Rows) → StopsBy (IsRequested clock host) left text ending out before now → before.store.opened ≡ true → MayFind now.store last
      → Back (λ first. StopsBy (IsRequestedOver clock host) left text ending out (kept_of first before) (kept_of last now)) before.store now.store
  stops_back left text ending out before now last (inl (inl (none, same), done)) opened found =
      let back = same_back before now last same opened found in
      record { first = back.first; found = back.found; holds = inl (inl (none, back.holds), done); opened = back.opened }
  stops_back left text ending out before now last (inl (inr (some, requested), done)) opened found =
      let back = one_back (Ok None) before now last requested opened found in
      record { first = back.first; found = back.found; holds = inl (inr (some, back.holds), done); opened = back.opened }
  stops_back left text ending out before now last (inr (some, at)) opened found =
      let back = at_back text ending out before now last at opened found in
      record { first = back.first; found = back.found; holds = inr (some, back.holds); opened = back.opened }

  all_opened : (xs : List Sent) (before now : Asking) → AreRequestedBy (IsRequested clock host) xs before now → before.store.opened ≡ true → now.store.opened ≡ true
  all_opened [] before now same opened = ap (λ (a : Asking). a.store.opened) same ∙ opened
  all_opened (x ∷ xs) before now (mid, requested, more) opened = all_opened xs mid now more (opened_by (Ok (Some x)) before mid requested opened)

  pub requests_back : (count : ℕ) (ending : Ending) (out : Told) (before now : Asking) (last : Rows) → RequestsAll clock host count ending out before now → before.store.opened ≡ true → MayFind now.store last
      → Back (λ first. RequestsAllBy (IsRequestedOver clock host) count ending out (kept_of first before) (kept_of last now)) before.store now.store
  requests_back count ending out before now last all opened found =
      let then_on = stops_back (count - length all.sent) (flat_map request_line all.sent) ending out all.mid now last all.stops (all_opened all.sent before all.mid all.are_sent opened) found in
      let front = all_back all.sent before all.mid then_on.first all.are_sent opened then_on.found in
      record {
        first = front.first;
        found = front.found;
        holds = record { sent = all.sent; mid = kept_of then_on.first all.mid; are_sent = front.holds; within = all.within; stops = then_on.holds };
        opened = then_on.opened;
      }

-- ---- the run

not_started : (ending : Ending) (out : Told) (link link' : ports.Told) (before now : Store) (fault : CollectorFault) → Starts (Err fault) before now → ending ≡ store_ending fault → IsUnwritten out → link' ≡ link
    → (found last : Rows) → Stand before found → MayFind now last → IsNotStarted ending out link link' found last
not_started ending out link link' before now fault start is unwritten same found last stand may =
    let back = which_found (λ rows. GoesOver collector_store boot_effect memory_begun (Err fault) rows last) before.images
    (goes_over collector_store AreFormed boot_effect memory_begun before now last (Err fault) start.0 start.2 may) in
    (fault, is, start.1, unwritten, same, subst (λ (rows : Rows). GoesOver collector_store boot_effect memory_begun (Err fault) rows last) (only_found before found back.0 stand back.1) back.2)

was_asking : (host : List ℕ) (count : ℕ) (ending : Ending) (out : Told) (clock : Option ℕ) (link link' : ports.Told) (before mid now : Store) (memory memory_now : Memory) → Starts (Ok memory) before mid
    → RequestsAll clock host count ending out (record { memory = memory; store = mid; link = link }) (record { memory = memory_now; store = now; link = link' })
    → (found last : Rows) → Stand before found → MayFind now last → IsAsking host count ending out clock link link' found last
was_asking host count ending out clock link link' before mid now memory memory_now start asks found last stand may =
    let back = requests_back clock host count ending out (record { memory = memory; store = mid; link = link }) (record { memory = memory_now; store = now; link = link' }) last asks start.0.ready.0 may in
    let told : mid.rows ≡ Some back.first = calm_rows mid.rows mid.images back.first start.2.both (start.2.only start.0.ready.1) back.found in
    let rows : back.first ≡ started found = started_so before mid memory found back.first start stand told in
    let did = from_one before mid found back.first (Did collector_store AreFormed boot_effect memory_begun (Ok memory) before mid) stand told start.0.did in
    let first : Kept = record { rows = back.first; memory = memory; link = link } in
    let kept : first ≡ record { rows = started found; memory = memory_begun found; link = link } = λ i. record { rows = rows i; memory = did.answer.1 i; link = link } in
    record {
      memory = memory_now;
      starts = could_start before mid memory found back.first start stand told;
      asks = subst (λ (k : Kept). RequestsAllBy (IsRequestedOver clock host) count ending out k (record { rows = last; memory = memory_now; link = link' })) kept back.holds;
    }

pub requests_by_rows : RequestsByRows
requests_by_rows host count ending out clock link link' before now (inl (fault, start, is, unwritten, same)) = λ lawful found last stand may.
    inl (not_started ending out link link' before now fault start is unwritten same found last stand may)
requests_by_rows host count ending out clock link link' before now (inr (mid, memory, memory_now, start, asks)) = λ lawful found last stand may.
    inr (was_asking host count ending out clock link link' before mid now memory memory_now start asks found last stand may)
