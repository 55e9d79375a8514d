-- What the collector of a kept world asks next can be written as bytes, and is heard as it was meant.
use Rattle.std.proofs.Common.{◌≡◌, ℕ, ◌+◌, ◌*◌, ◌<◌, ◌^◌, ◌≤◌, min, true, List, subst, arith}
use Rattle.std.specs.Prelude.{Some, IfSome}
use Rattle.wef_base.specs.declared.numbers.TheConstants.{MAX}
use Rattle.wef_bodies.specs.Laws.{IsPlainBody}
use Rattle.wef_bodies.specs.declared.bodies.Body.{Body}
use Rattle.wef_collector.specs.Asking.{body_for, identifier_of, request_for}
use Rattle.wef_collector.specs.declared.asking.Request.{Request}
use Rattle.wef_collector.specs.declared.memories.Memory.{Memory}
use Rattle.wef_collector_leases.specs.declared.leases.Wants.{Wants}
use Rattle.wef_collector_leases.specs.declared.leases.Wants.TheVariants.{Subscribes, Renews, Unsubscribes}
use Rattle.wef_collector_leases.specs.declared.next.Due.{Due}
use Rattle.wef_collector_reports.specs.declared.listing.Listed.{Listed}
use Rattle.wef_collector_rows.specs.Forms.{AreFormed}
use Rattle.wef_envelope.specs.Laws.{IsSpelt, IsTrimmed}
use Rattle.wef_ids.specs.Ids.{next_id}
use Rattle.wef_ids.specs.declared.MessageId.{MessageId}
use Rattle.wef_keeper.specs.Rows.{Rows}
use Rattle.wef_machine.specs.Collecting.{reply_id}
use Rattle.wef_machine.specs.Leasing.{next_of}
use Rattle.wef_machine.specs.States.{State, address_of, host}
use Rattle.wef_replay.specs.Good.{is_source}
use Rattle.wef_replies.proofs.IdTexts.{id_spelt}
use Rattle.wef_requests.specs.Requests.{IsAsking, IsKeptBody, IsPlainRequest}
use Rattle.wef_subscribes.specs.Laws.{IsWithin}
use Rattle.wef_times.specs.declared.durations.TheConstants.{LIMIT}
use Rattle.wef_safety.specs.Kept as kept
use Rattle.wef_safety.specs.Kept.{IsHeld}
use Rattle.wef_safety.proofs.DueRequests.{IsDueOf, IsPlainWish, due_body, next_has}
use Rattle.wef_safety.proofs.Offerable.{host_there, kept_wish, known_said, plain_wish}
use Rattle.wef_safety.proofs.Offering.{IsListed}
use Rattle.wef_safety.proofs.RowMoves.{AreRowsKept}

-- A body that a collector asks with, and that is read as it is written.
record IsPlainAsk (body : Body) : Type 0 where
  asks : IsAsking body
  plain : IsPlainBody body
  kept : IsKeptBody body

listed_ask : (rows : Rows) (s : List ℕ) (l : Listed) → AreRowsKept rows → AreFormed rows → is_source s ≡ true → IsListed rows l → (wants : Wants) →
    IsPlainAsk (body_for rows host l.subscription s wants)
listed_ask rows s l keys formed good is wants = by wants
  where
    timed : IsWithin 1 LIMIT l.subscription.expires
    timed = (known_said rows l.subscription.name l.subscription is.known).plain.expires

    by : (wants : Wants) → IsPlainAsk (body_for rows host l.subscription s wants)
    by Subscribes = record {
      asks = tt;
      plain = plain_wish rows s host (Some l.subscription.expires) host_there keys formed good timed l is;
      kept = kept_wish rows s host (Some l.subscription.expires) keys formed l is;
    }
    by (Renews identifier) = record { asks = tt; plain = timed; kept = tt }
    by (Unsubscribes identifier) = record { asks = tt; plain = tt; kept = tt }

trimmed_wish : (wants : Wants) → IsPlainWish wants → IfSome (identifier_of wants) IsTrimmed
trimmed_wish Subscribes plain = tt
trimmed_wish (Renews identifier) plain = plain.0
trimmed_wish (Unsubscribes identifier) plain = plain.0

-- A request that is heard as it was meant, and goes where its source is found by its name.
pub record IsWellAsked (r : Request) : Type 0 where
  pub name : is_source r.source.name ≡ true
  pub address : r.source.address ≡ address_of r.source.name
  pub asks : IsAsking r.body
  pub plain : IsPlainRequest r

due_is : (rows : Rows) (id : MessageId) (due : Due) → IsSpelt id → AreRowsKept rows → AreFormed rows → IsDueOf rows due → IsWellAsked (request_for rows host id due)
due_is rows id due spelt keys formed is =
    let ask = due_body IsPlainAsk rows due is (listed_ask rows due.source.name is.listed keys formed is.source.name is.is due.wants) in
    record {
      name = is.source.name;
      address = is.source.address;
      asks = ask.asks;
      plain = record { id = spelt; identifier = trimmed_wish due.wants is.wants; body = ask.plain; kept = ask.kept };
    }

small_id : (boot drawn : ℕ) → boot ≤ MAX → boot * 18446744073709551616 + min drawn 18446744073709551615 < 2 ^ 128
small_id boot drawn few = omega arith

-- the next request of a collector that runs is such
pub request_can_be_sent : (state : State) (memory : Memory) → IsHeld state → state.collector.memory ≡ Some memory → IfSome (next_of state memory) IsWellAsked
request_can_be_sent state memory held runs =
    let asks = subst kept.IsAsking runs held.asking in
    let spelt = id_spelt (next_id memory.ids) (small_id memory.ids.boot (memory.ids.drawn + 1) asks.0) in
    next_has IsWellAsked state.collector.rows memory.waiting memory.ids state.moment held.kept.keys
    (λ due is. due_is state.collector.rows (reply_id memory) due spelt held.kept.keys held.kept.formed is)
