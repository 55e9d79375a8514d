-- Rows of their form stay so over a run, also over one that says that its store failed.
use Rattle.std.proofs.Common.{◌≡◌, ◌∙◌, ℕ, ◌+◌, true, false, List, [], ◌∷◌, ◌++◌, length, refl, ap, sym, subst, inl, inr, true≢false}
use Rattle.std.proofs.lemmas.Option.{none-some, same_Some}
use Rattle.std.specs.List.{AllByRecursion}
use Rattle.std.specs.Prelude.{Option, Some, None, IfSome, Result, Ok, Err, is_some}
use Rattle.wef_base.specs.Counts.{Rose}
use Rattle.wef_collector_rows.specs.Forms.{AreFormed}
use Rattle.wef_collector_rows.specs.declared.faults.CollectorFault.{CollectorFault}
use Rattle.wef_event.specs.Events.{Event}
use Rattle.wef_forwarding.specs.declared.exchanges.FrontFault.{FrontFault}
use Rattle.wef_forwarding.specs.declared.forwarding.Exchange.{Exchange}
use Rattle.wef_keeper.proofs.Going.{one_of}
use Rattle.wef_keeper.proofs.StayFormed.{all_weaker}
use Rattle.wef_keeper.specs.Access.{HasOpened}
use Rattle.wef_keeper.specs.Forms.{StayFormed}
use Rattle.wef_keeper.specs.Keeping.{IsLawful, IsOneOf, Stays, StaysUntold, Store, WhereTold}
use Rattle.wef_keeper.specs.Rows.{Rows}
use Rattle.wef_ports.specs.Telling as ports
use Rattle.wef_source.specs.Machine.{start_of}
use Rattle.wef_source_log.specs.Forms as source
use Rattle.wef_commands.proofs.ByRows.{image_of}
use Rattle.wef_commands.proofs.Leaving.{wrote_opened}
use Rattle.wef_commands.specs.Adding.{Adds, added_text}
use Rattle.wef_commands.specs.Calling.{CallEnds, WroteOut, named_ending}
use Rattle.wef_commands.specs.Endings.{Told}
use Rattle.wef_commands.specs.Laws.{Stand}
use Rattle.wef_commands.specs.Listing.{Lists, WroteList}
use Rattle.wef_commands.specs.Refusals.{store_ending}
use Rattle.wef_commands.specs.Removing.{Ends, ended_text}
use Rattle.wef_commands.specs.Showing.{Reports}
use Rattle.wef_commands.specs.Statuses.{TellsStatuses}
use Rattle.wef_commands.specs.Writing.{EndsBefore, WritesAll, Wrote, written_text}
use Rattle.wef_commands.specs.declared.ending.Ending.{Ending}
use Rattle.wef_commands.specs.declared.ending.Ending.TheVariants as ends
use Rattle.wef_running.specs.Collecting.{CollectEnds}
use Rattle.wef_running.specs.Forwarding.{AreSent, AsksAndSends, ForwardEnds, IsSent, Plan, Running, SendsFrom, behind}
use Rattle.wef_running.specs.Forwarding as forwarding
use Rattle.wef_collector.specs.declared.asking.Request.{Request}
use Rattle.wef_collector.specs.declared.memories.Memory.{Memory}
use Rattle.wef_front_collector.specs.HeardResponses as told
use Rattle.wef_front_collector.specs.HeardResponses.{HearsResponse, IsUntaken, response_told}
use Rattle.wef_front_collector.specs.declared.listening.Hears as heard
use Rattle.wef_requesting.specs.Requesting.{Asking, AsksNext, GivesAndSends, IsUnheard, Outcomes, RequestsOnce, Takes}
use Rattle.wef_requesting.specs.declared.requesting.Outcome.{Outcome}
use Rattle.wef_requesting.specs.declared.requesting.RequestFault.{RequestFault}
use Rattle.wef_requesting.specs.declared.requesting.RequestFault.TheVariants as request_faults
use Rattle.wef_requesting.specs.declared.requesting.Sent.{Sent}
use Rattle.wef_subscribing.specs.Requesting.{AreRequestedBy, IsRequested, RequestsAll, StopsBy}
use Rattle.wef_subscribing.specs.Serving.{AreDeliveredBy, AreRounds, DeliversAllBy, DeliveryStopsBy, IsRound, Listening, Round, RoundFailsBy, ServeEnds, ServesAllBy, ServingStopsBy, left_by, rounds_text}
use Rattle.wef_subscribing.specs.Serving.{no_round, one_round}
use Rattle.wef_cli.proofs.Causes.{not_failed}
use Rattle.wef_cli.proofs.FailuresCaused.{fails_with_cause}
use Rattle.wef_cli.specs.Complete.{AreFormedFor}
use Rattle.wef_cli.specs.Due.{GoesWell}
use Rattle.wef_cli.specs.Runs.{Peers, RunEnds}
use Rattle.wef_command_line.specs.declared.command.Command.{Command}
use Rattle.wef_command_line.specs.declared.command.Command.TheVariants as the

-- ---- a store whose rows are of their form

-- wherever an opening may find them
abbrev AreGood : (Rows → Type 0) → Store → Type 0
AreGood Formed store = IfSome store.images (AllByRecursion Formed)

none_left : (P : List Rows → Type 0) (images : Option (List Rows)) → is_some images ≡ false → IfSome images P
none_left P None is = tt
none_left P (Some all) is = let no : true ≡ false = is in absurd (true≢false no)

module _ (Formed : Rows → Type 0) where
  -- those that stand are, too
  good_rows : (now : Store) (after : Rows) → IsLawful now → now.rows ≡ Some after → AreGood Formed now → Formed after
  good_rows now after lawful told good = by now.images now.rows lawful.both lawful.among good told
    where
      by : (images : Option (List Rows)) (rows : Option Rows) → is_some images ≡ is_some rows → IfSome images (λ left. WhereTold rows (IsOneOf left)) → IfSome images (AllByRecursion Formed) → rows ≡ Some after → Formed after
      by None None both among good told = absurd (none-some after told)
      by None (Some rows) both among good told = let no : false ≡ true = both in absurd (true≢false (sym no))
      by (Some left) None both among good told = absurd among
      by (Some left) (Some rows) both among good told = subst Formed (same_Some rows after told) (one_of Formed left rows among good)

  -- behind the first call
  good_first : (before now : Store) (found : Rows) → Stand before found → Formed found → StayFormed Formed before now → AreGood Formed now
  good_first before now found stand formed stays =
      let over = subst (λ (o : Option (List Rows)). IfSome o (λ old. AllByRecursion Formed old → IfSome now.images (AllByRecursion Formed))) (image_of before found stand) stays in
      over (formed, tt)

  module _ (before now : Store) (opened : before.opened ≡ true) (lawful : IsLawful now) where
    untold_good : StaysUntold before now → is_some before.images ≡ false → AreGood Formed now
    untold_good untold none = none_left (AllByRecursion Formed) now.images (lawful.both ∙ untold opened none)

    -- behind each further one
    good_call : StayFormed Formed before now → StaysUntold before now → AreGood Formed before → AreGood Formed now
    good_call stays untold good = by before.images refl stays good
      where
        by : (images : Option (List Rows)) → before.images ≡ images → IfSome images (λ old. AllByRecursion Formed old → IfSome now.images (AllByRecursion Formed)) → IfSome images (AllByRecursion Formed) → AreGood Formed now
        by None is stays good = untold_good untold (ap (λ (o : Option (List Rows)). is_some o) is)
        by (Some old) is stays good = stays good

    -- behind one that only reads
    good_look : HasOpened before now → AreGood Formed before → AreGood Formed now
    good_look looks good = by before.images refl looks.0 good
      where
        narrowed : (old : List Rows) (left : Option (List Rows)) → IfSome left (AllByRecursion (IsOneOf old)) → AllByRecursion Formed old → IfSome left (AllByRecursion Formed)
        narrowed old None narrows good = tt
        narrowed old (Some all) narrows good = all_weaker (IsOneOf old) Formed (λ image one. one_of Formed old image one good) all narrows

        by : (images : Option (List Rows)) → before.images ≡ images → IfSome images (λ old. IfSome now.images (AllByRecursion (IsOneOf old))) → IfSome images (AllByRecursion Formed) → AreGood Formed now
        by None is narrows good = untold_good looks.7 (ap (λ (o : Option (List Rows)). is_some o) is)
        by (Some old) is narrows good = narrowed old now.images narrows good

  -- behind reads alone
  good_reads : (before now : Store) → Stays before.images now.images → AreGood Formed before → AreGood Formed now
  good_reads before now stays good = by now.images stays
    where
      by : (left : Option (List Rows)) → IfSome left (λ told. before.images ≡ Some told) → IfSome left (AllByRecursion Formed)
      by None stays = tt
      by (Some all) stays = subst (λ (o : Option (List Rows)). IfSome o (AllByRecursion Formed)) stays good

-- ---- a call behind a start

module _ (before now : Store) (found : Rows) (stand : Stand before found) (formed : AreFormed found) where
  call_formed : {T : Type 0} (Call : Result T CollectorFault → Store → Store → Type 0) (refusal : CollectorFault → Ending) (Tells : T → Ending → Told → Type 0) (ending : Ending) (out : Told)
      → ((result : Result T CollectorFault) (mid : Store) → Call result mid now → mid.opened ≡ true → AreGood AreFormed mid → AreGood AreFormed now)
      → CallEnds Call refusal Tells ending out before now → AreGood AreFormed now
  call_formed Call refusal Tells ending out goes (inl (fault, start, is, unwritten)) = good_first AreFormed before now found stand formed start.0.formed
  call_formed Call refusal Tells ending out goes (inr (inl (fault, begun, is, unwritten))) =
      goes (Err fault) begun.mid begun.call begun.start.0.ready.0 (good_first AreFormed before begun.mid found stand formed begun.start.0.formed)
  call_formed Call refusal Tells ending out goes (inr (inr (given, begun, tells))) =
      goes (Ok given) begun.mid begun.call begun.start.0.ready.0 (good_first AreFormed before begun.mid found stand formed begun.start.0.formed)

-- ---- `write`

wrote_formed : (events : List Event) (numbers : List ℕ) (before now : Store) → Wrote events numbers before now → before.opened ≡ true → AreGood source.AreFormed before → AreGood source.AreFormed now
wrote_formed [] [] before now same opened good = subst (AreGood source.AreFormed) (sym same) good
wrote_formed [] (n ∷ numbers) before now wrote opened good = absurd wrote
wrote_formed (event ∷ events) [] before now wrote opened good = absurd wrote
wrote_formed (event ∷ events) (n ∷ numbers) before now (next, write, wrote) opened good =
    wrote_formed events numbers next now wrote (write.0.opened opened) (good_call source.AreFormed before next opened write.2 write.0.formed write.0.untold good)

stops_formed : (k : ℕ) (events : List Event) (text : List ℕ) (ending : Ending) (out : Told) (before now : Store) → EndsBefore k events text ending out before now → before.opened ≡ true → AreGood source.AreFormed before
    → AreGood source.AreFormed now
stops_formed k [] text ending out before now (is, told, same) opened good = subst (AreGood source.AreFormed) (sym same) good
stops_formed k (event ∷ events) text ending out before now (inl (is, told, same)) opened good = subst (AreGood source.AreFormed) (sym same) good
stops_formed k (event ∷ events) text ending out before now (inr (inl (fault, write, is, told))) opened good = good_call source.AreFormed before now opened write.2 write.0.formed write.0.untold good
stops_formed k (event ∷ events) text ending out before now (inr (inr (n, write, untold))) opened good = good_call source.AreFormed before now opened write.2 write.0.formed write.0.untold good

writes_formed : (events : List Event) (ending : Ending) (out : Told) (before now : Store) (found : Rows) → Stand before found → source.AreFormed found → WritesAll events ending out before now → AreGood source.AreFormed now
writes_formed events ending out before now found stand formed (inl (fault, start, is, unwritten)) = good_first source.AreFormed before now found stand formed start.0.formed
writes_formed events ending out before now found stand formed (inr (boot, mid, start, wrote)) =
    let opened = wrote_opened wrote.front wrote.numbers mid wrote.mid wrote.wrote start.0.ready.0 in
    let front = wrote_formed wrote.front wrote.numbers mid wrote.mid wrote.wrote start.0.ready.0 (good_first source.AreFormed before mid found stand formed start.0.formed) in
    stops_formed (length wrote.front + 1) wrote.behind (written_text wrote.front wrote.numbers) ending out wrote.mid now wrote.stops opened front

-- ---- `forward`

module _ (clock : Option ℕ) where
  -- a batch leaves the store opened, and its rows of their form
  sent_formed : (u : List ℕ) (result : Result Exchange FrontFault) (before now : Running) → IsSent clock u result before now → before.store.opened ≡ true → AreGood source.AreFormed before.store
      → (now.store.opened ≡ true) × AreGood source.AreFormed now.store
  sent_formed u result before now sent opened good = (sent.reads.0.5 opened, good_look source.AreFormed before.store now.store opened sent.lawful sent.reads.0 good)

  all_formed : (plan : Plan) (xs : List (List ℕ × Exchange)) (before now : Running) → AreSent clock plan xs before now → before.store.opened ≡ true → AreGood source.AreFormed before.store
      → (now.store.opened ≡ true) × AreGood source.AreFormed now.store
  all_formed plan [] before now same opened good = subst (λ (r : Running). (r.store.opened ≡ true) × AreGood source.AreFormed r.store) (sym same) (opened, good)
  all_formed plan (x ∷ xs) before now (next, (mid, sent, more)) opened good =
      let here = sent_formed x.0 (Ok x.1) before mid sent opened good in
      all_formed (behind x.1 plan) xs mid now more here.0 here.1

  end_formed : (o : Option (List ℕ)) (text : List ℕ) (ending : Ending) (out : Told) (before now : Running) → forwarding.EndsBefore clock o text ending out before now → before.store.opened ≡ true → AreGood source.AreFormed before.store
      → AreGood source.AreFormed now.store
  end_formed None text ending out before now (done, same) opened good = subst (λ (r : Running). AreGood source.AreFormed r.store) (sym same) good
  end_formed (Some u) text ending out before now (inl (fault, sent, is, said)) opened good = (sent_formed u (Err fault) before now sent opened good).1
  end_formed (Some u) text ending out before now (inr (e, sent, unsaid)) opened good = (sent_formed u (Ok e) before now sent opened good).1

  from_formed : (deliveries : ℕ) (ending : Ending) (out : Told) (before now : Running) → SendsFrom clock deliveries ending out before now → before.store.opened ≡ true → AreGood source.AreFormed before.store
      → AreGood source.AreFormed now.store
  from_formed deliveries ending out before now (inl (unsaid, same)) opened good = subst (λ (r : Running). AreGood source.AreFormed r.store) (sym same) good
  from_formed deliveries ending out before now (inr all) opened good =
      let front = all_formed _ all.sent before all.mid all.are_sent opened good in
      end_formed _ _ ending out all.mid now all.stops front.0 front.1

  asks_formed : (address s : List ℕ) (deliveries : ℕ) (ending : Ending) (out : Told) (before now : Running) → AsksAndSends clock address s deliveries ending out before now → before.store.opened ≡ true
      → AreGood source.AreFormed before.store → AreGood source.AreFormed now.store
  asks_formed address s deliveries ending out before now (inl (fault, asked, is, unwritten)) opened good = subst (AreGood source.AreFormed) (sym asked.store) good
  asks_formed address s deliveries ending out before now (inr (count, mid, asked, sends)) opened good =
      let kept = subst (λ (store : Store). (store.opened ≡ true) × AreGood source.AreFormed store) (sym asked.store) (opened, good) in
      from_formed deliveries ending out mid now sends kept.0 kept.1

forwards_formed : (address s : List ℕ) (deliveries : ℕ) (ending : Ending) (out : Told) (clock : Option ℕ) (link link' : ports.Told) (before now : Store) (found : Rows) → Stand before found → source.AreFormed found
    → ForwardEnds address s deliveries ending out clock link link' before now → AreGood source.AreFormed now
forwards_formed address s deliveries ending out clock link link' before now found stand formed (inl (fault, start, refuses, is, unwritten, same)) = good_first source.AreFormed before now found stand formed start.0.formed
forwards_formed address s deliveries ending out clock link link' before now found stand formed (inr (boot, mid, start, (end, asks))) =
    asks_formed clock address s deliveries ending out (record { memory = start_of boot; store = mid; link = link }) (record { memory = end; store = now; link = link' }) asks start.0.ready.0
    (good_first source.AreFormed before mid found stand formed start.0.formed)

-- ---- `request`

abbrev KeepsGood : (Rows → Type 0) → Store → Type 0
KeepsGood Formed store = (store.opened ≡ true) × AreGood Formed store

-- a store that is as it was
same_good : (Formed : Rows → Type 0) (before now : Store) → now ≡ before → KeepsGood Formed before → KeepsGood Formed now
same_good Formed before now same good = subst (KeepsGood Formed) (sym same) good

hears_good : (t : Option told.Told) (h : heard.Hears) (moment : ℕ) (memory memory_now : Memory) (before now : Store) → HearsResponse t h moment memory memory_now before now → IsLawful now → KeepsGood AreFormed before → KeepsGood AreFormed now
hears_good None h moment memory memory_now before now (is, remembered, same) lawful good = same_good AreFormed before now same good
hears_good (Some t) h moment memory memory_now before now (done, responds, known, is) lawful good =
    (responds.call.opened good.0, good_call AreFormed before now good.0 lawful responds.call.formed responds.call.untold good.1)

takes_good : (envelope : Option (List ℕ)) (moment : ℕ) (memory memory_now : Memory) (before now : Store) (made : Option heard.Hears) → Takes envelope moment memory memory_now before now made → IsLawful now → KeepsGood AreFormed before
    → KeepsGood AreFormed now
takes_good None moment memory memory_now before now made (is, remembered, same) lawful good = same_good AreFormed before now same good
takes_good (Some envelope) moment memory memory_now before now made (h, hears, is) lawful good = hears_good (response_told moment envelope) h moment memory memory_now before now hears lawful good

untaken_good : (t : Option told.Told) (moment : ℕ) (memory memory_now : Memory) (before now : Store) → IsUntaken t moment memory memory_now before now → IsLawful now → KeepsGood AreFormed before → KeepsGood AreFormed now
untaken_good None moment memory memory_now before now untaken lawful good = absurd untaken
untaken_good (Some t) moment memory memory_now before now untaken lawful good = (untaken.call.opened good.0, good_call AreFormed before now good.0 lawful untaken.call.formed untaken.call.untold good.1)

unheard_good : (envelope : Option (List ℕ)) (moment : ℕ) (memory memory_now : Memory) (before now : Store) → IsUnheard envelope moment memory memory_now before now → IsLawful now → KeepsGood AreFormed before → KeepsGood AreFormed now
unheard_good None moment memory memory_now before now unheard lawful good = absurd unheard
unheard_good (Some envelope) moment memory memory_now before now (inl (remembered, same)) lawful good = same_good AreFormed before now same good
unheard_good (Some envelope) moment memory memory_now before now (inr untaken) lawful good = untaken_good (response_told moment envelope) moment memory memory_now before now untaken lawful good

outcomes_good : (r : Request) (moment : ℕ) (before now : Asking) (result : Result Outcome RequestFault) → Outcomes r moment before now result → IsLawful now.store → KeepsGood AreFormed before.store → KeepsGood AreFormed now.store
outcomes_good r moment before now (Ok outcome) (envelope, made, (h, takes, is)) lawful good = takes_good envelope moment before.memory now.memory before.store now.store h takes lawful good
outcomes_good r moment before now (Err request_faults.StoreFailed) (envelope, made, (h, takes, is)) lawful good = takes_good envelope moment before.memory now.memory before.store now.store h takes lawful good
outcomes_good r moment before now (Err request_faults.LinkFailed) (broke, remembered, same) lawful good = same_good AreFormed before.store now.store same good
outcomes_good r moment before now (Err request_faults.NoMemory) (inl (broke, remembered, same)) lawful good = same_good AreFormed before.store now.store same good
outcomes_good r moment before now (Err request_faults.NoMemory) (inr (envelope, made, unheard)) lawful good = unheard_good envelope moment before.memory now.memory before.store now.store unheard lawful good

asks_good : (host : List ℕ) (moment : ℕ) (given : Result (Option Request) CollectorFault) (memory memory_now : Memory) (before now : Store) → AsksNext host moment given memory memory_now before now → KeepsGood AreFormed before → KeepsGood AreFormed now
asks_good host moment given memory memory_now before now asks good =
    (asks.call.opened good.0, good_call AreFormed before now good.0 asks.lawful asks.call.formed asks.call.untold good.1)

sends_good : (host : List ℕ) (moment : ℕ) (r : Request) (before now : Asking) (result : Result Outcome RequestFault) → GivesAndSends host moment r before now result → IsLawful now.store → KeepsGood AreFormed before.store
    → KeepsGood AreFormed now.store
sends_good host moment r before now result sends lawful good =
    let between = asks_good host moment (Ok (Some r)) before.memory sends.memory before.store sends.store sends.asks good in
    outcomes_good r moment (record { memory = sends.memory; store = sends.store; link = before.link }) now result sends.outcomes lawful between

once_good : (host : List ℕ) (moment : ℕ) (before now : Asking) (result : Result (Option Sent) RequestFault) → RequestsOnce host moment before now result → IsLawful now.store → KeepsGood AreFormed before.store → KeepsGood AreFormed now.store
once_good host moment before now (Ok None) (asks, link) lawful good = asks_good host moment (Ok None) before.memory now.memory before.store now.store asks good
once_good host moment before now (Ok (Some sent)) sends lawful good = sends_good host moment sent.request before now (Ok sent.outcome) sends lawful good
once_good host moment before now (Err fault) (inl (refusal, (asks, link), is)) lawful good = asks_good host moment (Err refusal) before.memory now.memory before.store now.store asks good
once_good host moment before now (Err fault) (inr (r, sends)) lawful good = sends_good host moment r before now (Err fault) sends lawful good

module _ (clock : Option ℕ) (host : List ℕ) where
  requested_good : (result : Result (Option Sent) RequestFault) (before now : Asking) → IsRequested clock host result before now → KeepsGood AreFormed before.store → KeepsGood AreFormed now.store
  requested_good result before now requested good = once_good host requested.moment before now result requested.requests requested.lawful good

  all_requested_good : (xs : List Sent) (before now : Asking) → AreRequestedBy (IsRequested clock host) xs before now → KeepsGood AreFormed before.store → KeepsGood AreFormed now.store
  all_requested_good [] before now same good = same_good AreFormed before.store now.store (ap (λ (a : Asking). a.store) same) good
  all_requested_good (x ∷ xs) before now (mid, requested, more) good = all_requested_good xs mid now more (requested_good (Ok (Some x)) before mid requested good)

  requests_stop_good : (left : ℕ) (text : List ℕ) (ending : Ending) (out : Told) (before now : Asking) → StopsBy (IsRequested clock host) left text ending out before now → KeepsGood AreFormed before.store → KeepsGood AreFormed now.store
  requests_stop_good left text ending out before now (inl (inl (none, same), done)) good = same_good AreFormed before.store now.store (ap (λ (a : Asking). a.store) same) good
  requests_stop_good left text ending out before now (inl (inr (some, requested), done)) good = requested_good (Ok None) before now requested good
  requests_stop_good left text ending out before now (inr (some, inl (fault, requested, is, said))) good = requested_good (Err fault) before now requested good
  requests_stop_good left text ending out before now (inr (some, inr (sent, requested, unsaid))) good = requested_good (Ok (Some sent)) before now requested good

  requests_formed : (count : ℕ) (ending : Ending) (out : Told) (before now : Asking) → RequestsAll clock host count ending out before now → KeepsGood AreFormed before.store → AreGood AreFormed now.store
  requests_formed count ending out before now all good = (requests_stop_good _ _ ending out all.mid now all.stops (all_requested_good all.sent before all.mid all.are_sent good)).1

-- ---- `serve`

module _ (clock : Option ℕ) where
  delivered_good : (names : List (List ℕ)) (xs : List (List ℕ × Exchange)) (before now : Running) → AreDeliveredBy (IsSent clock) names xs before now → KeepsGood source.AreFormed before.store → KeepsGood source.AreFormed now.store
  delivered_good names [] before now same good = same_good source.AreFormed before.store now.store (ap (λ (r : Running). r.store) same) good
  delivered_good names (x ∷ xs) before now (next, (mid, sent, more)) good = delivered_good (left_by x.1 names) xs mid now more (sent_formed clock x.0 (Ok x.1) before mid sent good.0 good.1)

  delivery_stop_good : (o : Option (List ℕ)) (text : List ℕ) (done : Result Unit Ending) (out : Told) (before now : Running) → DeliveryStopsBy (IsSent clock) o text done out before now → KeepsGood source.AreFormed before.store
      → KeepsGood source.AreFormed now.store
  delivery_stop_good None text (Ok done) out before now (said, same) good = same_good source.AreFormed before.store now.store (ap (λ (r : Running). r.store) same) good
  delivery_stop_good None text (Err ending) out before now stops good = absurd stops
  delivery_stop_good (Some u) text (Ok done) out before now stops good = absurd stops
  delivery_stop_good (Some u) text (Err ending) out before now (inl (fault, sent, is, said)) good = sent_formed clock u (Err fault) before now sent good.0 good.1
  delivery_stop_good (Some u) text (Err ending) out before now (inr (e, sent, unsaid)) good = sent_formed clock u (Ok e) before now sent good.0 good.1

  delivers_good : (text : List ℕ) (done : Result Unit Ending) (out : Told) (before now : Running) → DeliversAllBy (IsSent clock) text done out before now → KeepsGood source.AreFormed before.store → KeepsGood source.AreFormed now.store
  delivers_good text done out before now (inl (is, said, same)) good = same_good source.AreFormed before.store now.store (ap (λ (r : Running). r.store) same) good
  delivers_good text done out before now (inr each) good = delivery_stop_good _ _ done out each.mid now each.stops (delivered_good _ each.sent before each.mid each.are_sent good)

  round_good : (x y : Listening) (r : Round) → IsRound (IsSent clock) clock x r y → KeepsGood source.AreFormed x.source.store → KeepsGood source.AreFormed y.source.store
  round_good x y r is good = delivered_good _ r.sent is.mid.source y.source is.sent (same_good source.AreFormed x.source.store is.mid.source.store is.served.store good)

  rounds_good : {x y : Listening} {rs : List Round} → AreRounds (IsSent clock) clock x rs y → KeepsGood source.AreFormed x.source.store → KeepsGood source.AreFormed y.source.store
  rounds_good (no_round x) good = good
  rounds_good (one_round x y z r rs is are) good = rounds_good are (round_good x y r is good)

  fails_good : (number : ℕ) (text : List ℕ) (ending : Ending) (out : Told) (x y : Listening) → RoundFailsBy (IsSent clock) clock number text ending out x y → KeepsGood source.AreFormed x.source.store → KeepsGood source.AreFormed y.source.store
  fails_good number text ending out x y (inl (is, refused, same, said)) good = same_good source.AreFormed x.source.store y.source.store (ap (λ (r : Running). r.store) same) good
  fails_good number text ending out x y (inr (e, mid, served, inl (unsaid, same))) good =
      same_good source.AreFormed x.source.store y.source.store (ap (λ (l : Listening). l.source.store) same ∙ served.store) good
  fails_good number text ending out x y (inr (e, mid, served, inr (tellable, front, delivers))) good =
      delivers_good _ (Err ending) out mid.source y.source delivers (same_good source.AreFormed x.source.store mid.source.store served.store good)

  serves_formed : (told : List ℕ) (count : ℕ) (ending : Ending) (out : Told) (x y : Listening) → ServesAllBy (IsSent clock) clock told count ending out x y → KeepsGood source.AreFormed x.source.store → AreGood source.AreFormed y.source.store
  serves_formed told count ending out x y all good = (by all.stops (rounds_good all.are_served good)).1
    where
      by : ServingStopsBy (IsSent clock) clock count all.rounds (told ++ rounds_text 1 all.rounds) ending out all.mid y → KeepsGood source.AreFormed all.mid.source.store → KeepsGood source.AreFormed y.source.store
      by (inl (long, is, same, said)) good = same_good source.AreFormed all.mid.source.store y.source.store (ap (λ (l : Listening). l.source.store) same) good
      by (inr (below, fails)) good = fails_good _ _ ending out all.mid y fails good

serve_formed : (address : List ℕ) (count : ℕ) (out : Told) (clock : Option ℕ) (front front' link link' : ports.Told) (before now : Store) (found : Rows) → Stand before found → source.AreFormed found
    → ServeEnds address count ends.StoreFailed out clock front front' link link' before now → AreGood source.AreFormed now
serve_formed address count out clock front front' link link' before now found stand formed (inl ((is, unwritten, same), unlistened, unlinked)) = absurd (not_failed ends.NoMemory refl is)
serve_formed address count out clock front front' link link' before now found stand formed (inr (inl ((fault, start, refuses, is, unwritten, same), unlistened))) = good_first source.AreFormed before now found stand formed start.0.formed
serve_formed address count out clock front front' link link' before now found stand formed (inr (inr (boot, mid, start, (end, inl (is, refused, unwritten, same))))) = absurd (not_failed ends.ListeningFailed refl is)
serve_formed address count out clock front front' link link' before now found stand formed (inr (inr (boot, mid, start, (end, inr (inl (is, failed, part, same)))))) = absurd (not_failed ends.OutputFailed refl is)
serve_formed address count out clock front front' link link' before now found stand formed (inr (inr (boot, mid, start, (end, inr (inr all))))) =
    serves_formed clock _ count ends.StoreFailed out _ _ all (start.0.ready.0, good_first source.AreFormed before mid found stand formed start.0.formed)

-- ---- a run that says that its store failed

collect_formed : (address : List ℕ) (connections : ℕ) (out : Told) (clock : Option ℕ) (f g : ports.Told) (before now : Store) (found : Rows) → Stand before found → AreFormed found
    → CollectEnds address connections ends.StoreFailed out clock f g before now → AreGood AreFormed now
collect_formed address connections out clock f g before now found stand formed (inl ((is, unwritten, same), unasked)) = absurd (not_failed ends.NoMemory refl is)
collect_formed address connections out clock f g before now found stand formed (inr (inl (fault, start, is, unwritten, unasked))) = good_first AreFormed before now found stand formed start.0.formed
collect_formed address connections out clock f g before now found stand formed (inr (inr (mid, memory, memory_now, start, inl (is, refused, unwritten, same)))) = absurd (not_failed ends.ListeningFailed refl is)
collect_formed address connections out clock f g before now found stand formed (inr (inr (mid, memory, memory_now, start, inr (inl (is, failed, part, bound, same))))) = absurd (not_failed ends.OutputFailed refl is)
collect_formed address connections out clock f g before now found stand formed (inr (inr (mid, memory, memory_now, start, inr (inr served)))) = absurd served

module _ (input out : Told) (peers : Peers) (before now : Store) (found : Rows) (stand : Stand before found) (lawful : IsLawful now) where
  run_formed : (command : Command) → AreFormedFor (Some command) found → RunEnds (Some command) ends.StoreFailed input out peers before now → AreGood (AreFormedFor (Some command)) now
  run_formed the.Replay formed ended = absurd ended.0
  run_formed (the.Made seed size) formed (kept, inl wrote, same, unused) = absurd wrote
  run_formed (the.Made seed size) formed (kept, inr (is, unwritten), same, unused) = absurd (not_failed ends.NoMemory refl is)
  run_formed the.Check formed ended = absurd ended.0
  run_formed (the.Collect address connections) formed (kept, ended, link) = collect_formed address connections out peers.moment peers.front_before peers.front_after before now found stand formed ended
  run_formed the.Write formed (inl (judged, unwritten, same), unused) = absurd judged
  run_formed the.Write formed (inr (events, has, ended), unused) = writes_formed events ends.StoreFailed out before now found stand formed ended
  run_formed (the.Forward address s deliveries) formed (kept, inl ((is, unwritten, same), unasked), unused) = absurd (not_failed ends.NoMemory refl is)
  run_formed (the.Forward address s deliveries) formed (kept, inr ended, unused) =
      forwards_formed address s deliveries ends.StoreFailed out peers.moment peers.link_before peers.link_after before now found stand formed ended
  run_formed (the.Request address requests) formed (kept, inl ((is, unwritten, same), unasked), unused) = absurd (not_failed ends.NoMemory refl is)
  run_formed (the.Request address requests) formed (kept, inr (inl (fault, start, is, unwritten, unasked)), unused) = good_first AreFormed before now found stand formed start.0.formed
  run_formed (the.Request address requests) formed (kept, inr (inr (mid, memory, memory_now, start, asks)), unused) =
      requests_formed peers.moment address requests ends.StoreFailed out _ _ asks (start.0.ready.0, good_first AreFormed before mid found stand formed start.0.formed)
  run_formed (the.Serve address s connections) formed (kept, ended) =
      serve_formed address connections out peers.moment peers.front_before peers.front_after peers.link_before peers.link_after before now found stand formed ended
  run_formed the.Show formed (kept, inl (is, unwritten, same), unused) = absurd (not_failed ends.NoMemory refl is)
  run_formed the.Show formed (kept, inr ended, unused) =
      call_formed before now found stand formed Reports store_ending WroteOut ends.StoreFailed out (λ result mid call opened good. good_look AreFormed mid now opened lawful call.0.opened.0 good) ended
  run_formed the.List formed (kept, inl (is, unwritten, same), unused) = absurd (not_failed ends.NoMemory refl is)
  run_formed the.List formed (kept, inr ended, unused) =
      call_formed before now found stand formed Lists store_ending WroteList ends.StoreFailed out (λ result mid call opened good. good_look AreFormed mid now opened lawful call.0.opened.0 good) ended
  run_formed (the.Events u s c) formed (kept, inl (is, unwritten, same), unused) = absurd (not_failed ends.NoMemory refl is)
  run_formed (the.Events u s c) formed (kept, inr (inl (fault, start, is, unwritten)), unused) = good_first AreFormed before now found stand formed start.0.formed
  run_formed (the.Events u s c) formed (kept, inr (inr begun), unused) =
      good_reads AreFormed begun.mid now begun.call.reads.0.2 (good_first AreFormed before begun.mid found stand formed begun.start.0.formed)
  run_formed (the.Status u) formed (kept, inl (is, unwritten, same), unused) = absurd (not_failed ends.NoMemory refl is)
  run_formed (the.Status u) formed (kept, inr (moment, given, ended), unused) =
      call_formed before now found stand formed (TellsStatuses u moment) (named_ending u) WroteOut ends.StoreFailed out
      (λ result mid call opened good. good_look AreFormed mid now opened lawful call.0.opened.0 good) ended
  run_formed the.Add formed (inl (read, unwritten, same), unused) = absurd read
  run_formed the.Add formed (inr (s, has, again, ended), unused) =
      call_formed before now found stand formed (Adds s) (named_ending s.name) (λ _. WroteOut (added_text s.name)) ends.StoreFailed out
      (λ result mid call opened good. good_call AreFormed mid now opened lawful call.0.formed call.0.untold good) ended
  run_formed (the.Remove u) formed (kept, inl (is, unwritten, same), unused) = absurd (not_failed ends.NoMemory refl is)
  run_formed (the.Remove u) formed (kept, inr ended, unused) =
      call_formed before now found stand formed (Ends u) (named_ending u) (λ _. WroteOut (ended_text u)) ends.StoreFailed out
      (λ result mid call opened good. good_call AreFormed mid now opened lawful call.0.formed call.0.untold good) ended

-- a run that goes well doesn't say so
pub never_failed : (command : Command) (told : Ending) (input out : Told) (peers : Peers) (before now : Store) (found after : Rows) → GoesWell command ends.StoreFailed told input out peers before now found after → ⊥
never_failed command told input out peers before now found after well =
    let good = run_formed input out peers before now found well.stand well.lawful command well.formed well.ends_so in
    let formed = good_rows (AreFormedFor (Some command)) now after well.lawful well.known good in
    let cause = fails_with_cause (Some command) input out peers before now well.ends_so refl in
    well.keeps (subst (λ (o : Option Rows). IfSome o (λ rows. AreFormedFor (Some command) rows → Rose before.faults now.faults)) well.known cause formed)
