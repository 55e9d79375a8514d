-- Why a run of `forward` tells the ending that is due, where nothing fails.
use Rattle.std.proofs.Common.{◌≡◌, ◌∙◌, ℕ, ◌+◌, ◌≤◌, ◌==◌, Bool, true, false, cond, nat_le, List, [], ◌∷◌, ◌++◌, length, refl, ap, sym, subst, inl, inr, arith, true≢false}
use Rattle.std.proofs.lemmas.Bool.Decides.{nat_tests}
use Rattle.std.proofs.lemmas.Option.{none-some}
use Rattle.std.specs.List.{flat_map}
use Rattle.std.specs.Prelude.{◌⊎◌, Option, Some, None, Result, Ok, Err, is_some, slice_get, if◌then◌else◌}
use Rattle.wef_forwarding.specs.Asking.{AsksOnce, HearsEnvelope}
use Rattle.wef_forwarding.specs.Forwarding.{Forwards}
use Rattle.wef_forwarding.specs.declared.exchanges.FrontFault.{FrontFault}
use Rattle.wef_forwarding.specs.declared.exchanges.FrontFault.TheVariants as fronts
use Rattle.wef_forwarding.specs.declared.forwarding.Exchange.{Exchange}
use Rattle.wef_forwarding.specs.declared.forwarding.Exchange.TheVariants.{Nothing, Acked, Heard, Refused, Lost}
use Rattle.wef_front_source.specs.HeardReplies as heard
use Rattle.wef_front_source.specs.declared.listening.Hears.{Hears}
use Rattle.wef_front_source.specs.declared.listening.Hears.TheVariants as hears
use Rattle.wef_keeper.specs.Calls.{Did}
use Rattle.wef_keeper.specs.Keeping.{IsLawful, Store}
use Rattle.wef_keeper.specs.Rows.{Rows}
use Rattle.wef_keeper.specs.declared.keys.Change.{Change}
use Rattle.wef_ports.specs.Telling as ports
use Rattle.wef_source.specs.Answers.{AnswersTo, RefusesStart}
use Rattle.wef_source.specs.Calls.{start_effect}
use Rattle.wef_building.specs.Faults.{source_answer, source_store}
use Rattle.wef_source.specs.Machine.{End, is_spent, start_of}
use Rattle.wef_source.specs.Sessions.{names_of}
use Rattle.wef_building.specs.declared.faults.SourceFault.{SourceFault}
use Rattle.wef_building.specs.declared.faults.SourceFault.TheVariants as faults
use Rattle.wef_source.specs.declared.messages.Moved as moved
use Rattle.wef_source.specs.declared.messages.Moved.TheVariants as moves
use Rattle.wef_source.specs.declared.messages.Reply as reply
use Rattle.wef_source.specs.declared.messages.Reply.TheVariants as replies
use Rattle.wef_source_log.specs.Answers.{is_boot_full, next_boot}
use Rattle.wef_source_log.specs.Forms.{AreFormed}
use Rattle.wef_source_log.specs.LogWindow as log
use Rattle.wef_source_log.specs.declared.faults.LogFault.TheVariants as log_faults
use Rattle.wef_commands.proofs.ByRows.{from_one}
use Rattle.wef_commands.specs.Calling.{IsUndone}
use Rattle.wef_commands.specs.Endings.{HasFailed, Told}
use Rattle.wef_commands.specs.Laws.{Stand}
use Rattle.wef_commands.specs.Refusals.{source_ending}
use Rattle.wef_commands.specs.Writing.{IsUntold}
use Rattle.wef_commands.specs.declared.ending.Ending.{Ending}
use Rattle.wef_commands.specs.declared.ending.Ending.TheVariants as ends
use Rattle.wef_commands.specs.declared.writing.TheConstants.{LOG_CAPACITY}
use Rattle.wef_running.proofs.IdsDrawn.{draws, forward_drawn, unlike, which}
use Rattle.wef_running.proofs.LinksCounted.{failed_links_are_counted}
use Rattle.wef_running.proofs.SentByRows.{forwards_by_rows, start_room}
use Rattle.wef_running.specs.ByRows.{ForwardSays}
use Rattle.wef_running.specs.Forwarding.{AreSent, AsksAndSends, EndsBefore, EndsDone, ForwardEnds, IsAsked, IsSent, Plan, Running, SendsFrom, StartsSource, behind, behind_all, front_ending, line_of, next, subscriptions_line, unless_gone}
use Rattle.wef_cli.proofs.CollectingDue.{with_says}
use Rattle.wef_cli.proofs.TellingDue.{begun_due, full_log_due, may_find, sure, told_due}
use Rattle.wef_command_line.specs.Command.{greatest_number}
use Rattle.wef_cli.specs.Due.{ForwardsAsDue, TellsDue, once_begun}
use Rattle.wef_command_line.specs.declared.command.Command.TheVariants as the

-- ---- how many ids are drawn

-- what a reply makes of a source draws none
reply_drawn : (id : Option ℕ) (answer : reply.Reply) (which : moved.Moved) (end end' : End) → AnswersTo end end' id answer which → end'.drawn ≡ end.drawn
reply_drawn None answer which end end' h = absurd h
reply_drawn (Some id) replies.Ack which end end' h = ap (λ (e : End). e.drawn) h.1
reply_drawn (Some id) (replies.Fault name) which end end' h = ap (λ (e : End). e.drawn) h.1

-- nor do offers
hears_drawn : (t : Option heard.Told) (o : Option heard.Offered) (h : Hears) (now : ℕ) (end end' : End) → heard.HearsTold t o h now end end' → end'.drawn ≡ end.drawn
hears_drawn (Some t) o hears.Moved now end end' is = reply_drawn t.0.value t.1 moves.Moved end end' is.1
hears_drawn (Some t) o hears.Refused now end end' is = reply_drawn t.0.value t.1 moves.Refused end end' is.1
hears_drawn (Some t) o hears.NotAsked now end end' is = ap (λ (e : End). e.drawn) is.1
hears_drawn (Some t) o (hears.Adopted count) now end end' is = absurd is
hears_drawn (Some t) o hears.Unreadable now end end' is = absurd is
hears_drawn None (Some o) (hears.Adopted count) now end end' is = ap (λ (e : End). e.drawn) is.1
hears_drawn None (Some o) hears.NotAsked now end end' is = ap (λ (e : End). e.drawn) is.1
hears_drawn None (Some o) hears.Moved now end end' is = absurd is
hears_drawn None (Some o) hears.Refused now end end' is = absurd is
hears_drawn None (Some o) hears.Unreadable now end end' is = absurd is
hears_drawn None None h now end end' is = ap (λ (e : End). e.drawn) is.1

envelope_drawn : (envelope : Option (List ℕ)) (now : ℕ) (end end' : End) (count : Option ℕ) → HearsEnvelope envelope now end end' count → end'.drawn ≡ end.drawn
envelope_drawn None now end end' count is = ap (λ (e : End). e.drawn) is.1
envelope_drawn (Some envelope) now end end' count (h, told, same) = hears_drawn (heard.told envelope) (heard.offers_told now envelope) h now end end' told

-- an ask draws one
ask_drawn : (host s : List ℕ) (end end' : End) (now : ℕ) (before after : ports.Told) (count : Option ℕ) → AsksOnce host s end end' now before after (Ok count) → end'.drawn ≡ end.drawn + 1
ask_drawn host s end end' now before after count once = envelope_drawn once.ends.0 now once.asking end' count once.ends.2 ∙ ap (λ (e : End). e.drawn) once.asks.2

-- a session is next only where a message is left
next_left : (plan : Plan) (u : List ℕ) → next plan ≡ Some u → 1 ≤ plan.left
next_left plan u is = by (plan.left == 0) refl is
  where
    by : (none : Bool) → (plan.left == 0) ≡ none → cond none None (slice_get plan.names 0) ≡ Some u → 1 ≤ plan.left
    by true e h = absurd (none-some u h)
    by false e h = grind (arith, nat_tests, e)

behind_left : (exchange : Exchange) (plan : Plan) → 1 ≤ plan.left → (behind exchange plan).left + draws exchange ≤ plan.left
behind_left Nothing plan some = omega arith
behind_left (Acked count) plan some = omega (arith, some)
behind_left Heard plan some = omega (arith, some)
behind_left Refused plan some = omega (arith, some)
behind_left Lost plan some = omega (arith, some)

module _ (clock : Option ℕ) where
  all_drawn : (plan : Plan) (xs : List (List ℕ × Exchange)) (before now : Running) → AreSent clock plan xs before now → now.memory.drawn + (behind_all xs plan).left ≤ before.memory.drawn + plan.left
  all_drawn plan [] before now same = let drawn : now.memory.drawn ≡ before.memory.drawn = ap (λ (r : Running). r.memory.drawn) same in omega (arith, drawn)
  all_drawn plan (x ∷ xs) before now (is, (mid, sent, more)) =
      let here = forward_drawn mid.store.rows before.memory mid.memory x.0 sent.moment before.link mid.link sent.answer x.1 sent.result_is sent.forwards in
      let left = behind_left x.1 plan (next_left plan x.0 is) in
      let there = all_drawn (behind x.1 plan) xs mid now more in
      omega (arith, here, left, there)

within : (drawn left before deliveries : ℕ) → drawn + left ≤ before + deliveries → 1 ≤ left → deliveries ≤ 1000000 → before ≡ 1 → drawn ≤ 1000000
within drawn left before deliveries so_far some few one = omega (arith, so_far, some, few, one)

too_few : (drawn : ℕ) → drawn ≤ 1000000 → nat_le 18446744073709551615 drawn ≡ true → ⊥
too_few drawn below spent = grind (arith, nat_tests, spent)

unspent_below : (end : End) → end.drawn ≤ 1000000 → is_spent end ≡ true → ⊥
unspent_below end below spent = too_few end.drawn below spent

-- ---- how it ends

module _ (out : Told) (ending : Ending) (writes : HasFailed out → ⊥) (sure : ending ≡ ends.StoreFailed → ⊥) (linked : ending ≡ ends.LinkFailed → ⊥) where
  abbrev IsSo : Type 0
  IsSo = (ending ≡ ends.Done) ⊎ (ending ≡ ends.NoMemory)

  -- a text that isn't told
  untold_so : (e : Ending) (text line : List ℕ) → IsUntold e out text line → e ≡ ends.NoMemory
  untold_so ends.OutputFailed text line untold = absurd (writes untold.0)
  untold_so ends.NoMemory text line untold = refl
  untold_so _ text line untold = absurd untold

  done_so : (e : Ending) (text : List ℕ) → EndsDone text e out → (e ≡ ends.Done) ⊎ (e ≡ ends.NoMemory)
  done_so ends.Done text done = inl refl
  done_so ends.OutputFailed text done = absurd (writes done.0)
  done_so ends.NoMemory text done = inr refl
  done_so _ text done = absurd done

  batch_so : (answer : Result Exchange FrontFault) (fault : FrontFault) (rows : Option Rows) (end end' : End) (u : List ℕ) (now : ℕ) (before after : ports.Told) → (is_spent end ≡ true → ⊥)
      → Err fault ≡ unless_gone answer → ending ≡ front_ending fault → Forwards rows end end' u now before after answer → ending ≡ ends.NoMemory
  batch_so (Ok exchange) fault rows end end' u now before after left same is forwards = absurd (unlike exchange fault same)
  batch_so (Err fronts.NoMemory) fault rows end end' u now before after left same is forwards = is ∙ ap front_ending (which fault fronts.NoMemory same)
  batch_so (Err fronts.LinkFailed) fault rows end end' u now before after left same is forwards = absurd (linked (is ∙ ap front_ending (which fault fronts.LinkFailed same)))
  batch_so (Err (fronts.Source faults.NoMemory)) fault rows end end' u now before after left same is forwards = absurd forwards
  batch_so (Err (fronts.Source faults.Failed)) fault rows end end' u now before after left same is forwards = absurd (sure (is ∙ ap front_ending (which fault (fronts.Source faults.Failed) same)))
  batch_so (Err (fronts.Source faults.Full)) fault rows end end' u now before after left same is forwards = absurd forwards.0
  batch_so (Err (fronts.Source faults.TooLong)) fault rows end end' u now before after left same is forwards = absurd forwards.0
  batch_so (Err (fronts.Source faults.NotAsked)) fault rows end end' u now before after left same is forwards = absurd forwards.0
  batch_so (Err (fronts.Source faults.UnknownSubscription)) fault rows end end' u now before after left same is forwards = absurd (unlike Nothing fault same)
  batch_so (Err (fronts.Source faults.Expired)) fault rows end end' u now before after left same is forwards = absurd (unlike Nothing fault same)
  batch_so (Err (fronts.Source faults.Spent)) fault rows end end' u now before after left same is forwards = absurd (left forwards.0.1)

  stops_so : (clock : Option ℕ) (o : Option (List ℕ)) (text : List ℕ) (before now : Running) → ((u : List ℕ) → o ≡ Some u → is_spent before.memory ≡ true → ⊥) → EndsBefore clock o text ending out before now → IsSo
  stops_so clock None text before now left (done, same) = done_so ending text done
  stops_so clock (Some u) text before now left (inl (fault, sent, is, said)) =
      inr (batch_so sent.answer fault now.store.rows before.memory now.memory u sent.moment before.link now.link (left u refl) sent.result_is is sent.forwards)
  stops_so clock (Some u) text before now left (inr (exchange, sent, untold)) = inr (untold_so ending text (line_of (u, exchange)) untold)

  from_so : (clock : Option ℕ) (deliveries : ℕ) (before now : Running) → deliveries ≤ greatest_number → before.memory.drawn ≡ 1 → SendsFrom clock deliveries ending out before now → IsSo
  from_so clock deliveries before now few drawn (inl (untold, same)) = inr (untold_so ending [] (subscriptions_line (length (names_of before.memory.sessions))) untold)
  from_so clock deliveries before now few drawn (inr all) =
      let plan : Plan = record { names = names_of before.memory.sessions; left = deliveries } in
      stops_so clock (next (behind_all all.sent plan)) (subscriptions_line (length (names_of before.memory.sessions)) ++ flat_map line_of all.sent) all.mid now
      (λ u is spent.
      let so_far = all_drawn clock plan all.sent before all.mid all.are_sent in
      let left = next_left (behind_all all.sent plan) u is in
      unspent_below all.mid.memory (within all.mid.memory.drawn (behind_all all.sent plan).left before.memory.drawn deliveries so_far left few drawn) spent) all.stops

  asked_so : (clock : Option ℕ) (address s : List ℕ) (fault : FrontFault) (before now : Running) → (is_spent before.memory ≡ true → ⊥) → IsAsked clock address s (Err fault) before now → ending ≡ front_ending fault → ending ≡ ends.NoMemory
  asked_so clock address s fronts.NoMemory before now left asked is = is
  asked_so clock address s fronts.LinkFailed before now left asked is = absurd (linked is)
  asked_so clock address s (fronts.Source faults.NoMemory) before now left asked is = absurd asked.asked
  asked_so clock address s (fronts.Source faults.Failed) before now left asked is = absurd asked.asked.0
  asked_so clock address s (fronts.Source faults.Full) before now left asked is = absurd asked.asked.0
  asked_so clock address s (fronts.Source faults.TooLong) before now left asked is = absurd asked.asked.0
  asked_so clock address s (fronts.Source faults.NotAsked) before now left asked is = absurd asked.asked.0
  asked_so clock address s (fronts.Source faults.UnknownSubscription) before now left asked is = absurd asked.asked.0
  asked_so clock address s (fronts.Source faults.Expired) before now left asked is = absurd asked.asked.0
  asked_so clock address s (fronts.Source faults.Spent) before now left asked is = absurd (left asked.asked.0)

  asks_so : (clock : Option ℕ) (address s : List ℕ) (deliveries : ℕ) (before now : Running) → deliveries ≤ greatest_number → before.memory.drawn ≡ 0 → AsksAndSends clock address s deliveries ending out before now → IsSo
  asks_so clock address s deliveries before now few none (inl (fault, asked, is, unwritten)) = inr (asked_so clock address s fault before now (unspent_below before.memory (omega (arith, none))) asked is)
  asks_so clock address s deliveries before now few none (inr (count, mid, asked, sends)) =
      let one = ask_drawn address s before.memory mid.memory asked.moment before.link mid.link count asked.asked in
      from_so clock deliveries mid now few (omega (arith, one, none)) sends

-- ---- the store tells all along

abbrev IsSilent : Store → Type 0
IsSilent store = (store.opened ≡ true) × (is_some store.images ≡ false)

module _ (clock : Option ℕ) where
  sent_silent : (u : List ℕ) (result : Result Exchange FrontFault) (before now : Running) → IsSent clock u result before now → IsSilent before.store → IsSilent now.store
  sent_silent u result before now sent silent = (sent.reads.0.5 silent.0, sent.lawful.both ∙ sent.reads.0.7 silent.0 silent.1)

  all_silent : (plan : Plan) (xs : List (List ℕ × Exchange)) (before now : Running) → AreSent clock plan xs before now → IsSilent before.store → IsSilent now.store
  all_silent plan [] before now same silent = subst (λ (r : Running). IsSilent r.store) (sym same) silent
  all_silent plan (x ∷ xs) before now (is, (mid, sent, more)) silent = all_silent (behind x.1 plan) xs mid now more (sent_silent x.0 (Ok x.1) before mid sent silent)

  end_silent : (o : Option (List ℕ)) (text : List ℕ) (ending : Ending) (out : Told) (before now : Running) → EndsBefore clock o text ending out before now → IsSilent before.store → IsSilent now.store
  end_silent None text ending out before now (done, same) silent = subst (λ (r : Running). IsSilent r.store) (sym same) silent
  end_silent (Some u) text ending out before now (inl (fault, sent, is, said)) silent = sent_silent u (Err fault) before now sent silent
  end_silent (Some u) text ending out before now (inr (e, sent, unsaid)) silent = sent_silent u (Ok e) before now sent silent

  from_silent : (deliveries : ℕ) (ending : Ending) (out : Told) (before now : Running) → SendsFrom clock deliveries ending out before now → IsSilent before.store → IsSilent now.store
  from_silent deliveries ending out before now (inl (unsaid, same)) silent = subst (λ (r : Running). IsSilent r.store) (sym same) silent
  from_silent deliveries ending out before now (inr all) silent = end_silent _ _ ending out all.mid now all.stops (all_silent _ all.sent before all.mid all.are_sent silent)

  asks_silent : (address s : List ℕ) (deliveries : ℕ) (ending : Ending) (out : Told) (before now : Running) → AsksAndSends clock address s deliveries ending out before now → IsSilent before.store → IsSilent now.store
  asks_silent address s deliveries ending out before now (inl (fault, asked, is, unwritten)) silent = subst IsSilent (sym asked.store) silent
  asks_silent address s deliveries ending out before now (inr (count, mid, asked, sends)) silent = from_silent deliveries ending out mid now sends (subst IsSilent (sym asked.store) silent)

-- so the rows of its start are known
start_told : (mid now : Store) (after : Rows) → IsLawful mid → mid.opened ≡ true → (IsSilent mid → is_some now.rows ≡ false) → now.rows ≡ Some after → (rows : Rows) × (mid.rows ≡ Some rows)
start_told mid now after lawful opened silent told = by mid.rows refl
  where
    by : (o : Option Rows) → mid.rows ≡ o → (rows : Rows) × (mid.rows ≡ Some rows)
    by (Some rows) is = (rows, is)
    by None is =
        let rowless : is_some now.rows ≡ false = silent (opened, lawful.both ∙ ap (λ (o : Option Rows). is_some o) is) in
        let no : true ≡ false = sym (ap (λ (o : Option Rows). is_some o) told) ∙ rowless in absurd (true≢false no)

-- ---- the run

source_full : (found : Rows) → start_effect found LOG_CAPACITY ≡ Err faults.Full → is_boot_full found ≡ true
source_full found is = by (is_boot_full found) is
  where
    by : (full : Bool) → source_answer {T = List Change} (if full then Err log_faults.Full else Ok (log.start_changes found LOG_CAPACITY)) ≡ Err faults.Full → full ≡ true
    by true e = refl
    by false e = cc

module _ (out : Told) (ending : Ending) (writes : HasFailed out → ⊥) (sure : ending ≡ ends.StoreFailed → ⊥) (linked : ending ≡ ends.LinkFailed → ⊥) (before now : Store) (found after : Rows) (stand : Stand before found) (lawful : IsLawful now) (known : now.rows ≡ Some after) where
  abbrev IsDue : Type 0
  IsDue = (ending ≡ once_begun found ends.Done) ⊎ (ending ≡ ends.NoMemory)

  pub unstarted_due : (fault : SourceFault) → StartsSource (Err fault) before now → RefusesStart fault → ending ≡ source_ending fault → IsDue
  unstarted_due faults.NoMemory start refuses is = inr is
  unstarted_due faults.Failed start refuses is = absurd (sure is)
  unstarted_due faults.Full start refuses is =
      let did = from_one before now found after (Did source_store AreFormed (λ found. start_effect found LOG_CAPACITY) next_boot (Err faults.Full) before now) stand known start.0.did in
      inl (is ∙ full_log_due found ends.Done (source_full found did.answer.0))
  unstarted_due _ start refuses is = absurd refuses

  started_due : (boot : ℕ) (mid : Store) (end : End) (clock : Option ℕ) (link link' : ports.Told) (address s : List ℕ) (deliveries : ℕ) → deliveries ≤ greatest_number → StartsSource (Ok boot) before mid
      → AsksAndSends clock address s deliveries ending out (record { memory = start_of boot; store = mid; link = link }) (record { memory = end; store = now; link = link' }) → IsDue
  started_due boot mid end clock link link' address s deliveries few start asks =
      let first : Running = record { memory = start_of boot; store = mid; link = link } in
      let last : Running = record { memory = end; store = now; link = link' } in
      let told = start_told mid now after start.1 start.0.ready.0 (λ silent. sym lawful.both ∙ (asks_silent clock address s deliveries ending out first last asks silent).1) known in
      let did = from_one before mid found told.0 (Did source_store AreFormed (λ found. start_effect found LOG_CAPACITY) next_boot (Ok boot) before mid) stand told.1 start.0.did in
      by (start_room found told.0 did.answer.0) (asks_so out ending writes sure linked clock address s deliveries first last few refl asks)
    where
      by : is_boot_full found ≡ false → (ending ≡ ends.Done) ⊎ (ending ≡ ends.NoMemory) → IsDue
      by starts (inl done) = inl (done ∙ begun_due found ends.Done starts)
      by starts (inr wants) = inr wants

  forwarded_due : (address s : List ℕ) (deliveries : ℕ) (clock : Option ℕ) (link link' : ports.Told) → deliveries ≤ greatest_number → ForwardEnds address s deliveries ending out clock link link' before now → IsDue
  forwarded_due address s deliveries clock link link' few (inl (fault, start, refuses, is, unwritten, same)) = unstarted_due fault start refuses is
  forwarded_due address s deliveries clock link link' few (inr (boot, mid, start, (end, asks))) = started_due boot mid end clock link link' address s deliveries few start asks

pub forwards_as_due : ForwardsAsDue
forwards_as_due address s deliveries few ending told input out peers before now found after well link = by well.ends_so.1
  where
    IsForwardingDue : Ending → Type 0
    IsForwardingDue e = e ≡ once_begun found ends.Done

    Says : Ending → Type 0
    Says e = ForwardSays address s deliveries e out peers.moment peers.link_before peers.link_after now found after

    by : (IsUndone ending out before now × (peers.link_after ≡ peers.link_before)) ⊎ ForwardEnds address s deliveries ending out peers.moment peers.link_before peers.link_after before now → TellsDue IsForwardingDue Says told
    by (inl ((is, unwritten, same), unasked)) = told_due IsForwardingDue Says ending told well.told_so (inr is)
    by (inr ended) =
        let linked : ending ≡ ends.LinkFailed → ⊥ = λ is. link (failed_links_are_counted address s deliveries out peers.moment peers.link_before peers.link_after before now
        (subst (λ (e : Ending). ForwardEnds address s deliveries e out peers.moment peers.link_before peers.link_after before now) is ended)) in
        let says = forwards_by_rows address s deliveries ending out peers.moment peers.link_before peers.link_after before now ended found after well.stand (may_find now after well.lawful well.known) in
        told_due IsForwardingDue Says ending told well.told_so
        (with_says IsForwardingDue Says ending says
        (forwarded_due out ending well.writes (sure (the.Forward address s deliveries) ending told input out peers before now found after well) linked before now found after well.stand well.lawful well.known
        address s deliveries peers.moment peers.link_before peers.link_after few ended))
