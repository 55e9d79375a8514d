-- Where `request` or `serve` says that its link or its front failed, the count of faults rose.
use Rattle.std.proofs.Common.{◌≡◌, inl, inr, ℕ, suc, ◌≤◌, List, [], ◌∷◌, ◌++◌, ap, refl, subst, sym, arith}
use Rattle.std.specs.Prelude.{Option, Some, None, Result, Ok, Err}
use Rattle.wef_base.specs.Counts.{Rose}
use Rattle.wef_building.specs.declared.faults.SourceFault.{SourceFault}
use Rattle.wef_building.specs.declared.faults.SourceFault.TheVariants as source
use Rattle.wef_collector_rows.specs.declared.faults.CollectorFault.{CollectorFault}
use Rattle.wef_collector_rows.specs.declared.faults.CollectorFault.TheVariants as collector
use Rattle.wef_commands.specs.Endings.{Told}
use Rattle.wef_commands.specs.Refusals.{source_ending, store_ending}
use Rattle.wef_commands.specs.declared.ending.Ending.TheVariants as ends
use Rattle.wef_forwarding.specs.declared.exchanges.FrontFault.{FrontFault}
use Rattle.wef_forwarding.specs.declared.exchanges.FrontFault.TheVariants as fronts
use Rattle.wef_forwarding.specs.declared.forwarding.Exchange.{Exchange}
use Rattle.wef_keeper.specs.Keeping.{Store}
use Rattle.wef_ports.specs.Telling as ports
use Rattle.wef_requesting.specs.Requesting.{Asking, RequestsOnce, refused_by}
use Rattle.wef_requesting.specs.declared.requesting.RequestFault.{RequestFault}
use Rattle.wef_requesting.specs.declared.requesting.RequestFault.TheVariants as faults
use Rattle.wef_requesting.specs.declared.requesting.Sent.{Sent}
use Rattle.wef_running.proofs.Collected.{rose_by_last, rose_by_later, rose_by_none, rose_by_one}
use Rattle.wef_running.proofs.LinksCounted.{of_link, of_source, sent_later, sent_rose}
use Rattle.wef_running.specs.Collecting.{RoseBy, failed_among}
use Rattle.wef_running.specs.Forwarding.{EndsAtBy, IsSent, Running, front_ending}
use Rattle.wef_serving.specs.declared.ends.ConnectionEnd.{ConnectionEnd}
use Rattle.wef_serving.specs.declared.ends.ConnectionEnd.TheVariants as over
use Rattle.wef_source.specs.Sessions.{names_of}
use Rattle.wef_subscribing.specs.Counts.{FailedFrontsAreCounted, FailedLinksAreCounted, ends_of}
use Rattle.wef_subscribing.specs.Requesting.{AreRequestedBy, IsRequested, RequestEnds, RequestsAll, StopsBy, request_ending}
use Rattle.wef_subscribing.specs.Serving.{AreDeliveredBy, AreRounds, DeliversAllBy, DeliveryStopsBy, IsRound, IsServed, Listening, Round, RoundFailsBy, RoundStopsBy, ServeEnds, ServingStopsBy, left_by, rounds_text}
use Rattle.wef_subscribing.specs.Serving.{no_round, one_round}

same_faults : (before now : ports.Told) → now ≡ before → before.faults ≤ now.faults
same_faults before now same = let is : before.faults ≡ now.faults = ap (λ (t : ports.Told). t.faults) (sym same) in omega (arith, is)

-- ---- the link of `request`

-- a request that has an outcome lowers no count
request_later : (clock : Option ℕ) (host : List ℕ) (sent : Sent) (before now : Asking) → IsRequested clock host (Ok (Some sent)) before now → before.link.faults ≤ now.link.faults
request_later clock host sent before now requested = requested.requests.outcomes.1.later

requests_later : (clock : Option ℕ) (host : List ℕ) (xs : List Sent) (before now : Asking) → AreRequestedBy (IsRequested clock host) xs before now → before.link.faults ≤ now.link.faults
requests_later clock host [] before now same = same_faults before.link now.link (ap (λ (a : Asking). a.link) same)
requests_later clock host (x ∷ xs) before now (mid, requested, more) =
    let first = request_later clock host x before mid requested in
    let next = requests_later clock host xs mid now more in
    omega (arith, first, next)

abbrev broken : RequestFault
broken = faults.LinkFailed

not_refused : (refusal : CollectorFault) → broken ≡ refused_by refusal → ⊥
not_refused collector.NoMemory is = cc
not_refused collector.Failed is = cc
not_refused collector.NoSubscription is = cc
not_refused collector.Exists is = cc
not_refused collector.Ended is = cc
not_refused collector.NotWellFormed is = cc
not_refused collector.NotAsked is = cc
not_refused collector.TooMany is = cc
not_refused collector.Full is = cc

once_rose : (host : List ℕ) (moment : ℕ) (before now : Asking) → RequestsOnce host moment before now (Err faults.LinkFailed) → Rose before.link.faults now.link.faults
once_rose host moment before now (inl (refusal, given, is)) = absurd (not_refused refusal is)
once_rose host moment before now (inr (r, sends)) = sends.outcomes.0.cause

at_rose : (clock : Option ℕ) (host : List ℕ) (fault : RequestFault) (before now : Asking) → IsRequested clock host (Err fault) before now → ends.LinkFailed ≡ request_ending fault → Rose before.link.faults now.link.faults
at_rose clock host faults.NoMemory before now requested is = cc
at_rose clock host faults.StoreFailed before now requested is = cc
at_rose clock host faults.LinkFailed before now requested is = once_rose host requested.moment before now requested.requests

asks_rose : (clock : Option ℕ) (host : List ℕ) (left : ℕ) (text : List ℕ) (out : Told) (before now : Asking) → StopsBy (IsRequested clock host) left text ends.LinkFailed out before now → Rose before.link.faults now.link.faults
asks_rose clock host left text out before now (inl (why, done)) = absurd done
asks_rose clock host left text out before now (inr (some, inl (fault, requested, is, told))) = at_rose clock host fault before now requested is
asks_rose clock host left text out before now (inr (some, inr (sent, requested, untold))) = absurd untold

requests_rose : (clock : Option ℕ) (host : List ℕ) (count : ℕ) (out : Told) (before now : Asking) → RequestsAll clock host count ends.LinkFailed out before now → Rose before.link.faults now.link.faults
requests_rose clock host count out before now all =
    let first = requests_later clock host all.sent before all.mid all.are_sent in
    let last = asks_rose clock host _ _ out all.mid now all.stops in
    omega (arith, first, last)

not_stored : (fault : CollectorFault) → ends.LinkFailed ≡ store_ending fault → ⊥
not_stored collector.NoMemory is = cc
not_stored collector.Failed is = cc
not_stored collector.NoSubscription is = cc
not_stored collector.Exists is = cc
not_stored collector.Ended is = cc
not_stored collector.NotWellFormed is = cc
not_stored collector.NotAsked is = cc
not_stored collector.TooMany is = cc
not_stored collector.Full is = cc

-- ---- the link of `serve`

module _ (clock : Option ℕ) where
  all_later : (names : List (List ℕ)) (xs : List (List ℕ × Exchange)) (before now : Running) → AreDeliveredBy (IsSent clock) names xs before now → before.link.faults ≤ now.link.faults
  all_later names [] before now same = same_faults before.link now.link (ap (λ (r : Running). r.link) same)
  all_later names (x ∷ xs) before now (is, (mid, sent, more)) =
      let first = sent_later clock x.0 (Ok x.1) before mid sent in
      let next = all_later (left_by x.1 names) xs mid now more in
      omega (arith, first, next)

  sends_rose : (u text : List ℕ) (out : Told) (before now : Running) → EndsAtBy (IsSent clock) u text ends.LinkFailed out before now → Rose before.link.faults now.link.faults
  sends_rose u text out before now (inl (fault, sent, is, told)) = sent_rose clock u before now (subst (λ (f : FrontFault). IsSent clock u (Err f) before now) (of_link fault is) sent)
  sends_rose u text out before now (inr (e, sent, untold)) = absurd untold

  stop_rose : (o : Option (List ℕ)) (text : List ℕ) (out : Told) (before now : Running) → DeliveryStopsBy (IsSent clock) o text (Err ends.LinkFailed) out before now → Rose before.link.faults now.link.faults
  stop_rose None text out before now stops = absurd stops
  stop_rose (Some u) text out before now stops = sends_rose u text out before now stops

  delivers_rose : (text : List ℕ) (out : Told) (before now : Running) → DeliversAllBy (IsSent clock) text (Err ends.LinkFailed) out before now → Rose before.link.faults now.link.faults
  delivers_rose text out before now (inl (is, told, same)) = cc
  delivers_rose text out before now (inr each) =
      let first = all_later (names_of before.memory.sessions) each.sent before each.mid each.are_sent in
      let last = stop_rose _ _ out each.mid now each.stops in
      omega (arith, first, last)

  round_later : (x y : Listening) (r : Round) → IsRound (IsSent clock) clock x r y → x.source.link.faults ≤ y.source.link.faults
  round_later x y r is =
      let first = same_faults x.source.link is.mid.source.link is.served.link in
      let next = all_later _ r.sent is.mid.source y.source is.sent in
      omega (arith, first, next)

  rounds_later : {x y : Listening} {rs : List Round} → AreRounds (IsSent clock) clock x rs y → x.source.link.faults ≤ y.source.link.faults
  rounds_later (no_round x) = omega arith
  rounds_later (one_round x y z r rs is are) =
      let first = round_later x y r is in
      let next = rounds_later are in
      omega (arith, first, next)

  stopped_rose : (number : ℕ) (e : ConnectionEnd) (text : List ℕ) (out : Told) (x y : Listening) → RoundStopsBy (IsSent clock) number e text ends.LinkFailed out x y → Rose x.source.link.faults y.source.link.faults
  stopped_rose number e text out x y (inl (untold, same)) = absurd untold
  stopped_rose number e text out x y (inr (tellable, front, delivers)) = delivers_rose _ out x.source y.source delivers

  fails_rose : (number : ℕ) (text : List ℕ) (out : Told) (x y : Listening) → RoundFailsBy (IsSent clock) clock number text ends.LinkFailed out x y → Rose x.source.link.faults y.source.link.faults
  fails_rose number text out x y (inl (is, refused, same, told)) = cc
  fails_rose number text out x y (inr (e, mid, served, stops)) =
      let first = same_faults x.source.link mid.source.link served.link in
      let last = stopped_rose number e text out mid y stops in
      omega (arith, first, last)

  serving_rose : (count : ℕ) (rounds : List Round) (text : List ℕ) (out : Told) (x y : Listening) → ServingStopsBy (IsSent clock) clock count rounds text ends.LinkFailed out x y → Rose x.source.link.faults y.source.link.faults
  serving_rose count rounds text out x y (inl (all, is, same, told)) = cc
  serving_rose count rounds text out x y (inr (below, fails)) = fails_rose _ text out x y fails

pub failed_links_are_counted : FailedLinksAreCounted
failed_links_are_counted = record { request = request_counted; serve = serve_counted }
  where
    request_counted : (host : List ℕ) (count : ℕ) (out : Told) (clock : Option ℕ) (link link' : ports.Told) (before now : Store) → RequestEnds host count ends.LinkFailed out clock link link' before now → Rose link.faults link'.faults
    request_counted host count out clock link link' before now (inl (fault, start, is, unwritten, same)) = absurd (not_stored fault is)
    request_counted host count out clock link link' before now (inr (mid, memory, memory_now, start, asks)) = requests_rose clock host count out _ _ asks

    serve_counted : (address : List ℕ) (count : ℕ) (out : Told) (clock : Option ℕ) (front front' link link' : ports.Told) (before now : Store) → ServeEnds address count ends.LinkFailed out clock front front' link link' before now
        → Rose link.faults link'.faults
    serve_counted address count out clock front front' link link' before now (inl ((is, unwritten, same), unlistened, unlinked)) = cc
    serve_counted address count out clock front front' link link' before now (inr (inl ((fault, start, refuses, is, unwritten, same), unlistened))) = absurd (of_source fault is)
    serve_counted address count out clock front front' link link' before now (inr (inr (boot, mid, start, (end, inl (is, refused, unwritten, same))))) = cc
    serve_counted address count out clock front front' link link' before now (inr (inr (boot, mid, start, (end, inr (inl (is, failed, part, same)))))) = cc
    serve_counted address count out clock front front' link link' before now (inr (inr (boot, mid, start, (end, inr (inr all))))) =
        let first : link.faults ≤ all.mid.source.link.faults = rounds_later clock all.are_served in
        let last : Rose all.mid.source.link.faults link'.faults = serving_rose clock count all.rounds _ out all.mid _ all.stops in
        omega (arith, first, last)

-- ---- the front of `serve`

-- one connection's end, for the count of those that failed
counted : (clock : Option ℕ) (x y : Listening) (e : ConnectionEnd) (es : List ConnectionEnd) (c : ℕ) → IsServed clock x y e → RoseBy (failed_among es) y.front.faults c → RoseBy (failed_among (e ∷ es)) x.front.faults c
counted clock x y over.End es c is rose = rose_by_later (failed_among es) x.front.faults y.front.faults c is.later rose
counted clock x y over.Closed es c is rose = rose_by_later (failed_among es) x.front.faults y.front.faults c is.later rose
counted clock x y (over.Refused status) es c is rose = rose_by_later (failed_among es) x.front.faults y.front.faults c is.later rose
counted clock x y over.Cut es c is rose = rose_by_later (failed_among es) x.front.faults y.front.faults c is.later rose
counted clock x y over.PortFailed es c is rose = rose_by_one (failed_among es) x.front.faults y.front.faults c (is.fault refl) rose
counted clock x y over.NoMemory es c is rose = rose_by_later (failed_among es) x.front.faults y.front.faults c is.later rose

all_counted : (clock : Option ℕ) {x y : Listening} {rs : List Round} → AreRounds (IsSent clock) clock x rs y → RoseBy (failed_among (ends_of rs)) x.front.faults y.front.faults
all_counted clock (no_round x) = rose_by_none x.front.faults
all_counted clock (one_round x y z r rs is are) =
    counted clock x is.mid r.end (ends_of rs) z.front.faults is.served (subst (λ (f : ports.Told). RoseBy (failed_among (ends_of rs)) f.faults z.front.faults) is.front (all_counted clock are))

not_source : (fault : SourceFault) → ends.ListeningFailed ≡ source_ending fault → ⊥
not_source source.NoMemory is = cc
not_source source.Failed is = cc
not_source source.Full is = cc
not_source source.TooLong is = cc
not_source source.NotAsked is = cc
not_source source.UnknownSubscription is = cc
not_source source.Expired is = cc
not_source source.Spent is = cc

not_front : (fault : FrontFault) → ends.ListeningFailed ≡ front_ending fault → ⊥
not_front fronts.NoMemory is = cc
not_front fronts.LinkFailed is = cc
not_front (fronts.Source fault) is = not_source fault is

stopped_behind : (number : ℕ) (e : ConnectionEnd) (clock : Option ℕ) (text : List ℕ) (out : Told) (x y : Listening) → RoundStopsBy (IsSent clock) number e text ends.ListeningFailed out x y → ⊥
stopped_behind number e clock text out x y (inl (untold, same)) = untold
stopped_behind number e clock text out x y (inr (tellable, front, inl (is, told, same))) = cc
stopped_behind number e clock text out x y (inr (tellable, front, inr each)) = by _ _ each.stops
  where
    by : (o : Option (List ℕ)) (said : List ℕ) → DeliveryStopsBy (IsSent clock) o said (Err ends.ListeningFailed) out each.mid y.source → ⊥
    by None said stops = stops
    by (Some u) said (inl (fault, sent, is, told)) = not_front fault is
    by (Some u) said (inr (e, sent, untold)) = untold

pub failed_fronts_are_counted : FailedFrontsAreCounted
failed_fronts_are_counted clock told count out before now all = by all.stops
  where
    by : ServingStopsBy (IsSent clock) clock count all.rounds (told ++ rounds_text 1 all.rounds) ends.ListeningFailed out all.mid now → RoseBy (suc (failed_among (ends_of all.rounds))) before.front.faults now.front.faults
    by (inl (long, is, same, said)) = cc
    by (inr (below, inl (is, refused, same, said))) = rose_by_last (failed_among (ends_of all.rounds)) before.front.faults all.mid.front.faults now.front.faults (all_counted clock all.are_served) refused.1
    by (inr (below, inr (e, mid, served, stops))) = absurd (stopped_behind _ e clock _ out mid now stops)
