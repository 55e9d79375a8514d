-- Why a run of `request` or `serve` tells the ending that is due, where nothing fails.
use Rattle.std.proofs.Common.{◌≡◌, ◌∙◌, ℕ, true, false, List, ◌++◌, ap, refl, subst, inl, inr}
use Rattle.std.specs.Prelude.{◌⊎◌, Option, Some, None, Result, Ok, Err, is_some}
use Rattle.wef_base.specs.Counts.{Rose}
use Rattle.wef_building.specs.declared.faults.SourceFault.{SourceFault}
use Rattle.wef_building.specs.declared.faults.SourceFault.TheVariants as faults
use Rattle.wef_commands.proofs.ByRows.{could_start}
use Rattle.wef_commands.specs.Calling.{IsUndone}
use Rattle.wef_commands.specs.Endings.{HasFailed, Told}
use Rattle.wef_commands.specs.Laws.{Stand, can_start}
use Rattle.wef_commands.specs.Refusals.{source_ending}
use Rattle.wef_commands.specs.Writing.{IsUntold}
use Rattle.wef_commands.specs.declared.ending.Ending.{Ending}
use Rattle.wef_commands.specs.declared.ending.Ending.TheVariants as ends
use Rattle.wef_commands.specs.declared.writing.TheConstants.{LOG_CAPACITY}
use Rattle.wef_forwarding.specs.Forwarding.{Forwards}
use Rattle.wef_forwarding.specs.declared.exchanges.FrontFault.{FrontFault}
use Rattle.wef_forwarding.specs.declared.exchanges.FrontFault.TheVariants as fronts
use Rattle.wef_forwarding.specs.declared.forwarding.Exchange.{Exchange}
use Rattle.wef_keeper.proofs.Going.{calm_rows}
use Rattle.wef_keeper.specs.Keeping.{IsLawful, MayFind, Store}
use Rattle.wef_keeper.specs.Rows.{Rows}
use Rattle.wef_ports.specs.Telling as ports
use Rattle.wef_requesting.specs.Requesting.{Asking}
use Rattle.wef_requesting.specs.declared.requesting.RequestFault.{RequestFault}
use Rattle.wef_requesting.specs.declared.requesting.RequestFault.TheVariants as request_faults
use Rattle.wef_running.proofs.SentByRows.{rows_told, start_keeps, start_room, started_did}
use Rattle.wef_running.specs.Collecting.{connection_line, listening_line}
use Rattle.wef_running.specs.Forwarding.{EndsAtBy, EndsDone, IsSent, Running, StartsSource, unless_gone}
use Rattle.wef_source.specs.Machine.{End, start_of}
use Rattle.wef_serving.specs.declared.ends.ConnectionEnd.{ConnectionEnd}
use Rattle.wef_source_log.specs.Answers.{is_boot_full}
use Rattle.wef_source_log.specs.LogWindow as log
use Rattle.wef_subscribing.proofs.Counted.{failed_fronts_are_counted, failed_links_are_counted}
use Rattle.wef_subscribing.proofs.RequestedByRows.{requests_back, requests_by_rows}
use Rattle.wef_subscribing.proofs.ServedByRows.{listening_goes, serves_by_rows}
use Rattle.wef_subscribing.specs.ByRows.{RequestSays, ServeSays}
use Rattle.wef_subscribing.specs.Requesting.{IsRequested, RequestEnds, StopsBy, request_ending}
use Rattle.wef_subscribing.specs.Serving.{DeliveryStopsBy, Listening, ListeningEnds, RoundStopsBy, ServeEnds, ServesAll, ServingStopsBy, listening_at, rounds_text}
use Rattle.wef_cli.proofs.CollectingDue as collecting
use Rattle.wef_cli.proofs.CollectingDue.{rose_by, with_says}
use Rattle.wef_cli.proofs.ForwardingDue as forwarding
use Rattle.wef_cli.proofs.TellingDue.{begun_due, may_find, start_due, sure, told_due}
use Rattle.wef_cli.specs.Due.{RequestsAsDue, ServesAsDue, TellsDue, once_begun, once_started}
use Rattle.wef_command_line.specs.declared.command.Command.TheVariants as the

-- ---- a text that isn't told

module _ (out : Told) (ending : Ending) (writes : HasFailed out → ⊥) where
  untold_so : (e : Ending) (text line : List ℕ) → IsUntold e out text line → e ≡ ends.NoMemory
  untold_so ends.OutputFailed text line untold = absurd (writes untold.0)
  untold_so ends.NoMemory text line untold = refl
  untold_so _ text line untold = absurd untold

  done_so : (e : Ending) (text : List ℕ) → EndsDone text e out → (e ≡ ends.Done) ⊎ (e ≡ ends.NoMemory)
  done_so ends.Done text done = inl refl
  done_so ends.OutputFailed text untold = absurd (writes untold.0)
  done_so ends.NoMemory text untold = inr refl
  done_so _ text untold = absurd untold

-- ---- `request`

module _ (out : Told) (ending : Ending) (writes : HasFailed out → ⊥) (sure : ending ≡ ends.StoreFailed → ⊥) (linked : ending ≡ ends.LinkFailed → ⊥) where
  fault_so : (fault : RequestFault) → ending ≡ request_ending fault → ending ≡ ends.NoMemory
  fault_so request_faults.NoMemory is = is
  fault_so request_faults.LinkFailed is = absurd (linked is)
  fault_so request_faults.StoreFailed is = absurd (sure is)

  stops_so : (clock : Option ℕ) (host : List ℕ) (left : ℕ) (text : List ℕ) (before now : Asking) → StopsBy (IsRequested clock host) left text ending out before now → (ending ≡ ends.Done) ⊎ (ending ≡ ends.NoMemory)
  stops_so clock host left text before now (inl (why, done)) = done_so out ending writes ending text done
  stops_so clock host left text before now (inr (some, inl (fault, requested, is, said))) = inr (fault_so fault is)
  stops_so clock host left text before now (inr (some, inr (sent, requested, untold))) = inr (untold_so out ending writes ending text _ untold)

module _ (out : Told) (before now : Store) (found after : Rows) (stand : Stand before found) (known : now.rows ≡ Some after) (may : MayFind now after) (writes : HasFailed out → ⊥) where
  abbrev IsDue : Ending → Type 0
  IsDue ending = ending ≡ once_started found ends.Done

  requested_due : (host : List ℕ) (count : ℕ) (ending : Ending) (clock : Option ℕ) (link link' : ports.Told) → (ending ≡ ends.StoreFailed → ⊥) → (ending ≡ ends.LinkFailed → ⊥)
      → RequestEnds host count ending out clock link link' before now → IsDue ending ⊎ (ending ≡ ends.NoMemory)
  requested_due host count ending clock link link' sure linked (inl (fault, start, is, unwritten, same)) = collecting.unstarted_due out before now found after stand known may writes fault ending sure start is
  requested_due host count ending clock link link' sure linked (inr (mid, memory, memory_now, start, asks)) =
      let back = requests_back clock host count ending out (record { memory = memory; store = mid; link = link }) (record { memory = memory_now; store = now; link = link' }) after asks start.0.ready.0 may in
      let stood : mid.rows ≡ Some back.first = calm_rows mid.rows mid.images back.first start.2.both (start.2.only start.0.ready.1) back.found in
      by (could_start before mid memory found back.first start stand stood) (stops_so out ending writes sure linked clock host _ _ asks.mid _ asks.stops)
    where
      by : can_start found ≡ true → (ending ≡ ends.Done) ⊎ (ending ≡ ends.NoMemory) → IsDue ending ⊎ (ending ≡ ends.NoMemory)
      by starts (inl done) = inl (start_due found ending ends.Done starts done)
      by starts (inr wants) = inr wants

pub requests_as_due : RequestsAsDue
requests_as_due address requests ending told input out peers before now found after well link = by well.ends_so.1
  where
    IsRequestDue : Ending → Type 0
    IsRequestDue e = e ≡ once_started found ends.Done

    Says : Ending → Type 0
    Says e = RequestSays address requests e out peers.moment peers.link_before peers.link_after found after

    by : (IsUndone ending out before now × (peers.link_after ≡ peers.link_before)) ⊎ RequestEnds address requests ending out peers.moment peers.link_before peers.link_after before now → TellsDue IsRequestDue Says told
    by (inl ((is, unwritten, same), unasked)) = told_due IsRequestDue Says ending told well.told_so (inr is)
    by (inr ended) =
        let may = may_find now after well.lawful well.known in
        let linked : ending ≡ ends.LinkFailed → ⊥ = λ is. link (failed_links_are_counted.request address requests out peers.moment peers.link_before peers.link_after before now
        (subst (λ (e : Ending). RequestEnds address requests e out peers.moment peers.link_before peers.link_after before now) is ended)) in
        let says = requests_by_rows address requests ending out peers.moment peers.link_before peers.link_after before now ended well.lawful found after well.stand may in
        told_due IsRequestDue Says ending told well.told_so
        (with_says IsRequestDue Says ending says
        (requested_due out before now found after well.stand well.known may well.writes address requests ending peers.moment peers.link_before peers.link_after
        (sure (the.Request address requests) ending told input out peers before now found after well) linked ended))

-- ---- `serve`

-- done, or out of ids, or out of memory
abbrev IsSo : Ending → Type 0
IsSo ending = ((ending ≡ ends.Done) ⊎ (ending ≡ ends.Spent)) ⊎ (ending ≡ ends.NoMemory)

abbrev failing : Ending → Result Unit Ending
failing ending = Err ending

abbrev full : Result Exchange FrontFault
full = Err (fronts.Source faults.Full)

-- no poll says that its log is full
never_full : (answer : Result Exchange FrontFault) (rows : Option Rows) (end end' : End) (u : List ℕ) (now : ℕ) (before after : ports.Told) → full ≡ unless_gone answer → Forwards rows end end' u now before after answer → ⊥
never_full (Ok exchange) rows end end' u now before after is forwards = cc
never_full (Err fronts.NoMemory) rows end end' u now before after is forwards = cc
never_full (Err fronts.LinkFailed) rows end end' u now before after is forwards = cc
never_full (Err (fronts.Source faults.NoMemory)) rows end end' u now before after is forwards = cc
never_full (Err (fronts.Source faults.Failed)) rows end end' u now before after is forwards = cc
never_full (Err (fronts.Source faults.Full)) rows end end' u now before after is forwards = forwards.0
never_full (Err (fronts.Source faults.TooLong)) rows end end' u now before after is forwards = cc
never_full (Err (fronts.Source faults.NotAsked)) rows end end' u now before after is forwards = cc
never_full (Err (fronts.Source faults.UnknownSubscription)) rows end end' u now before after is forwards = cc
never_full (Err (fronts.Source faults.Expired)) rows end end' u now before after is forwards = cc
never_full (Err (fronts.Source faults.Spent)) rows end end' u now before after is forwards = cc

module _ (out : Told) (ending : Ending) (writes : HasFailed out → ⊥) (sure : ending ≡ ends.StoreFailed → ⊥) (linked : ending ≡ ends.LinkFailed → ⊥) (clock : Option ℕ) where
  source_so : (fault : SourceFault) (u : List ℕ) (before now : Running) → IsSent clock u (Err (fronts.Source fault)) before now → ending ≡ source_ending fault → IsSo ending
  source_so faults.NoMemory u before now sent is = inr is
  source_so faults.Full u before now sent is = absurd (never_full sent.answer now.store.rows before.memory now.memory u sent.moment before.link now.link sent.result_is sent.forwards)
  source_so faults.Spent u before now sent is = inl (inr is)
  source_so faults.Failed u before now sent is = absurd (sure is)
  source_so faults.TooLong u before now sent is = absurd (sure is)
  source_so faults.NotAsked u before now sent is = absurd (sure is)
  source_so faults.UnknownSubscription u before now sent is = absurd (sure is)
  source_so faults.Expired u before now sent is = absurd (sure is)

  at_so : (u text : List ℕ) (before now : Running) → EndsAtBy (IsSent clock) u text ending out before now → IsSo ending
  at_so u text before now (inl (fronts.NoMemory, sent, is, said)) = inr is
  at_so u text before now (inl (fronts.LinkFailed, sent, is, said)) = absurd (linked is)
  at_so u text before now (inl (fronts.Source fault, sent, is, said)) = source_so fault u before now sent is
  at_so u text before now (inr (e, sent, untold)) = inr (untold_so out ending writes ending text _ untold)

  stop_so : (o : Option (List ℕ)) (text : List ℕ) (before now : Running) → DeliveryStopsBy (IsSent clock) o text (Err ending) out before now → IsSo ending
  stop_so None text before now stops = absurd stops
  stop_so (Some u) text before now stops = at_so u text before now stops

  which : (one other : Ending) → failing one ≡ failing other → one ≡ other
  which one other is = cc

  stopped_so : (number : ℕ) (e : ConnectionEnd) (text : List ℕ) (x y : Listening) → RoundStopsBy (IsSent clock) number e text ending out x y → IsSo ending
  stopped_so number e text x y (inl (untold, same)) = inr (untold_so out ending writes ending text (connection_line number e) untold)
  stopped_so number e text x y (inr (tellable, front, inl (is, said, same))) = inr (which ending ends.NoMemory is)
  stopped_so number e text x y (inr (tellable, front, inr each)) = stop_so _ _ each.mid y.source each.stops

  serving_so : (told : List ℕ) (count : ℕ) (x y : Listening) → (Rose x.front.faults y.front.faults → ⊥) → ServesAll clock told count ending out x y → IsSo ending
  serving_so told count x y front all = by all.stops
    where
      refused : ending ≡ ends.ListeningFailed → ⊥
      refused is = front (counted (subst (λ (e : Ending). ServesAll clock told count e out x y) is all))
        where
          counted : ServesAll clock told count ends.ListeningFailed out x y → Rose x.front.faults y.front.faults
          counted failed = rose_by _ x.front.faults y.front.faults (failed_fronts_are_counted clock told count out x y failed)

      by : ServingStopsBy (IsSent clock) clock count all.rounds (told ++ rounds_text 1 all.rounds) ending out all.mid y → IsSo ending
      by (inl (long, is, same, said)) = inl (inl is)
      by (inr (below, inl (is, fails, same, said))) = absurd (refused is)
      by (inr (below, inr (e, mid, served, stops))) = stopped_so _ e _ mid y stops

  listening_so : (address : List ℕ) (count : ℕ) (x y : Listening) → (Rose x.front.faults y.front.faults → ⊥) → ListeningEnds clock address count ending out x y → IsSo ending
  listening_so address count x y front (inl (is, refused, unwritten, same)) = absurd (front refused.1.1)
  listening_so address count x y front (inr (inl (is, failed, part, same))) = absurd (writes failed)
  listening_so address count x y front (inr (inr all)) = serving_so (listening_line address) count (listening_at address x) y front all

module _ (out : Told) (ending : Ending) (writes : HasFailed out → ⊥) (sure : ending ≡ ends.StoreFailed → ⊥) (linked : ending ≡ ends.LinkFailed → ⊥) (before now : Store) (found after : Rows) (stand : Stand before found) (lawful : IsLawful now) (known : now.rows ≡ Some after) where
  abbrev IsServeDue : Type 0
  IsServeDue = ((ending ≡ once_begun found ends.Done) ⊎ (ending ≡ ends.Spent)) ⊎ (ending ≡ ends.NoMemory)

  of_start : (ending ≡ once_begun found ends.Done) ⊎ (ending ≡ ends.NoMemory) → IsServeDue
  of_start (inl due) = inl (inl due)
  of_start (inr wants) = inr wants

  -- the boot number wasn't at its greatest where the source was started
  started_room : (address : List ℕ) (count : ℕ) (clock : Option ℕ) (front front' link link' : ports.Told) (boot : ℕ) (mid : Store) (end : End) → StartsSource (Ok boot) before mid
      → ListeningEnds clock address count ending out (record { front = front; source = record { memory = start_of boot; store = mid; link = link } }) (record { front = front'; source = record { memory = end; store = now; link = link' } })
      → is_boot_full found ≡ false
  started_room address count clock front front' link link' boot mid end start listens =
      let rows = log.started found LOG_CAPACITY in
      let keeps = start_keeps before mid boot found start stand in
      let goes = listening_goes rows clock address count ending out _ _ listens keeps in
      let tells : is_some now.images ≡ true = lawful.both ∙ ap (λ (o : Option Rows). is_some o) known in
      let did = started_did before mid boot found start stand rows (rows_told rows mid keeps (goes.told tells)) in
      start_room found rows did.answer.0

  served_due : (address : List ℕ) (count : ℕ) (clock : Option ℕ) (front front' link link' : ports.Told) → (Rose front.faults front'.faults → ⊥) → ServeEnds address count ending out clock front front' link link' before now → IsServeDue
  served_due address count clock front front' link link' calm (inl ((is, unwritten, same), unlistened, unlinked)) = inr is
  served_due address count clock front front' link link' calm (inr (inl ((fault, start, refuses, is, unwritten, same), unlistened))) =
      of_start (forwarding.unstarted_due out ending writes sure linked before now found after stand lawful known fault start refuses is)
  served_due address count clock front front' link link' calm (inr (inr (boot, mid, start, (end, listens)))) =
      by (started_room address count clock front front' link link' boot mid end start listens) (listening_so out ending writes sure linked clock address count _ _ calm listens)
    where
      by : is_boot_full found ≡ false → IsSo ending → IsServeDue
      by starts (inl (inl done)) = inl (inl (done ∙ begun_due found ends.Done starts))
      by starts (inl (inr spent)) = inl (inr spent)
      by starts (inr wants) = inr wants

pub serves_as_due : ServesAsDue
serves_as_due address s connections ending told input out peers before now found after well front link =
    let ended = well.ends_so.1 in
    let may = may_find now after well.lawful well.known in
    let IsDue : Ending → Type 0 = λ e. (e ≡ once_begun found ends.Done) ⊎ (e ≡ ends.Spent) in
    let Says : Ending → Type 0 = λ e. ServeSays address connections e out peers.moment peers.front_before peers.front_after peers.link_before peers.link_after now found after in
    let linked : ending ≡ ends.LinkFailed → ⊥ = λ is. link (failed_links_are_counted.serve address connections out peers.moment peers.front_before peers.front_after peers.link_before peers.link_after before now
    (subst (λ (e : Ending). ServeEnds address connections e out peers.moment peers.front_before peers.front_after peers.link_before peers.link_after before now) is ended)) in
    let says = serves_by_rows address connections ending out peers.moment peers.front_before peers.front_after peers.link_before peers.link_after before now ended found after well.stand may in
    told_due IsDue Says ending told well.told_so
    (with_says IsDue Says ending says
    (served_due out ending well.writes (sure (the.Serve address s connections) ending told input out peers before now found after well) linked before now found after well.stand well.lawful well.known
    address connections peers.moment peers.front_before peers.front_after peers.link_before peers.link_after front ended))
