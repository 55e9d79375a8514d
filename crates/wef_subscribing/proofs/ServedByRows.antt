-- `serve` over rows: its source changes them once, as it starts, and each message is the one that they give then.
use Rattle.std.proofs.Common.{◌≡◌, inl, inr, ℕ, suc, true, List, [], ◌∷◌, ◌++◌, length, refl, ap, sym, subst}
use Rattle.std.specs.List.{flat_map}
use Rattle.std.specs.Prelude.{Option, Some, None, Result, Ok, Err, slice_get}
use Rattle.wef_commands.specs.Endings.{Told}
use Rattle.wef_commands.specs.Laws.{Stand}
use Rattle.wef_commands.specs.declared.ending.Ending.{Ending}
use Rattle.wef_commands.specs.declared.writing.TheConstants.{LOG_CAPACITY}
use Rattle.wef_forwarding.specs.declared.exchanges.FrontFault.{FrontFault}
use Rattle.wef_forwarding.specs.declared.forwarding.Exchange.{Exchange}
use Rattle.wef_keeper.specs.Keeping.{MayFind, Store}
use Rattle.wef_keeper.specs.Rows.{Rows}
use Rattle.wef_ports.specs.Telling as ports
use Rattle.wef_running.proofs.ByRows.{only_found, still_found}
use Rattle.wef_running.proofs.SentByRows.{Keeps, last_is, rows_told, sent_keeps, sent_over, sent_told, start_keeps, start_room, started_did, tells, tells_found, was_not_begun}
use Rattle.wef_running.specs.ByRows.{IsSentOver}
use Rattle.wef_running.specs.Collecting.{connection_line, listening_line}
use Rattle.wef_running.specs.Forwarding.{EndsAtBy, IsSent, Running, StartsSource, line_of}
use Rattle.wef_serving.specs.declared.ends.ConnectionEnd.{ConnectionEnd}
use Rattle.wef_source.specs.Machine.{End, start_of}
use Rattle.wef_source.specs.Sessions.{names_of}
use Rattle.wef_source_log.specs.Answers.{next_boot}
use Rattle.wef_source_log.specs.LogWindow as log
use Rattle.wef_subscribing.specs.ByRows.{IsServing, ServesByRows}
use Rattle.wef_subscribing.specs.Serving.{AreDeliveredBy, AreRounds, DeliversAllBy, DeliveryStopsBy, IsRound, IsServed, Listening, ListeningEnds, ListeningEndsBy, Round, RoundFailsBy, RoundStopsBy, ServingStopsBy, TellingEndsBy, left_behind, left_by, listening_at, rounds_text}
use Rattle.wef_subscribing.specs.Serving.{no_round, one_round}

module _ (rows : Rows) (clock : Option ℕ) where
  -- a state behind another: it keeps the rows, and if it tells, that told
  pub record Goes (before now : Store) : Type 0 where
    pub keeps : Keeps rows now
    pub told : tells now ≡ true → tells before ≡ true

  -- a store that is as it was
  stays : (before now : Store) → now ≡ before → Keeps rows before → Goes before now
  stays before now same keeps = record { keeps = subst (Keeps rows) (sym same) keeps; told = λ told. subst (λ (s : Store). tells s ≡ true) same told }

  then_goes : {a b c : Store} → Goes a b → Goes b c → Goes a c
  then_goes first next = record { keeps = next.keeps; told = λ told. first.told (next.told told) }

  sent_goes : (u : List ℕ) {result : Result Exchange FrontFault} (before now : Running) → IsSent clock u result before now → Keeps rows before.store → Goes before.store now.store
  sent_goes u {result} before now sent keeps = record { keeps = sent_keeps rows clock u result before now sent keeps; told = λ told. sent_told rows clock u result before now sent keeps told }

  -- ---- messages

  all_go : (names : List (List ℕ)) (xs : List (List ℕ × Exchange)) (before now : Running) → AreDeliveredBy (IsSent clock) names xs before now → Keeps rows before.store → Goes before.store now.store
  all_go names [] before now same keeps = stays before.store now.store (ap (λ (r : Running). r.store) same) keeps
  all_go names (x ∷ xs) before now (is, (mid, sent, more)) keeps =
      let here = sent_goes x.0 before mid sent keeps in then_goes here (all_go (left_by x.1 names) xs mid now more here.keeps)

  all_over : (names : List (List ℕ)) (xs : List (List ℕ × Exchange)) (before now : Running) → AreDeliveredBy (IsSent clock) names xs before now → Keeps rows before.store → tells now.store ≡ true
      → AreDeliveredBy (IsSentOver rows clock) names xs before now
  all_over names [] before now same keeps told = same
  all_over names (x ∷ xs) before now (is, (mid, sent, more)) keeps told =
      let here = sent_goes x.0 before mid sent keeps in
      let there = all_go (left_by x.1 names) xs mid now more here.keeps in
      (is, (mid, sent_over rows clock x.0 (Ok x.1) before mid sent keeps (there.told told), all_over (left_by x.1 names) xs mid now more here.keeps told))

  at_goes : (u text : List ℕ) (ending : Ending) (out : Told) (before now : Running) → EndsAtBy (IsSent clock) u text ending out before now → Keeps rows before.store → Goes before.store now.store
  at_goes u text ending out before now (inl (fault, sent, is, said)) keeps = sent_goes u before now sent keeps
  at_goes u text ending out before now (inr (e, sent, unsaid)) keeps = sent_goes u before now sent keeps

  at_over : (u text : List ℕ) (ending : Ending) (out : Told) (before now : Running) → EndsAtBy (IsSent clock) u text ending out before now → Keeps rows before.store → tells now.store ≡ true
      → EndsAtBy (IsSentOver rows clock) u text ending out before now
  at_over u text ending out before now (inl (fault, sent, is, said)) keeps told = inl (fault, sent_over rows clock u (Err fault) before now sent keeps told, is, said)
  at_over u text ending out before now (inr (e, sent, unsaid)) keeps told = inr (e, sent_over rows clock u (Ok e) before now sent keeps told, unsaid)

  stop_goes : (o : Option (List ℕ)) (text : List ℕ) (done : Result Unit Ending) (out : Told) (before now : Running) → DeliveryStopsBy (IsSent clock) o text done out before now → Keeps rows before.store → Goes before.store now.store
  stop_goes None text (Ok done) out before now (said, same) keeps = stays before.store now.store (ap (λ (r : Running). r.store) same) keeps
  stop_goes None text (Err ending) out before now stops keeps = absurd stops
  stop_goes (Some u) text (Ok done) out before now stops keeps = absurd stops
  stop_goes (Some u) text (Err ending) out before now stops keeps = at_goes u text ending out before now stops keeps

  stop_over : (o : Option (List ℕ)) (text : List ℕ) (done : Result Unit Ending) (out : Told) (before now : Running) → DeliveryStopsBy (IsSent clock) o text done out before now → Keeps rows before.store → tells now.store ≡ true
      → DeliveryStopsBy (IsSentOver rows clock) o text done out before now
  stop_over None text (Ok done) out before now stops keeps told = stops
  stop_over None text (Err ending) out before now stops keeps told = stops
  stop_over (Some u) text (Ok done) out before now stops keeps told = stops
  stop_over (Some u) text (Err ending) out before now stops keeps told = at_over u text ending out before now stops keeps told

  delivers_go : (text : List ℕ) (done : Result Unit Ending) (out : Told) (before now : Running) → DeliversAllBy (IsSent clock) text done out before now → Keeps rows before.store → Goes before.store now.store
  delivers_go text done out before now (inl (is, said, same)) keeps = stays before.store now.store (ap (λ (r : Running). r.store) same) keeps
  delivers_go text done out before now (inr each) keeps =
      let front = all_go (names_of before.memory.sessions) each.sent before each.mid each.are_sent keeps in
      then_goes front (stop_goes _ _ done out each.mid now each.stops front.keeps)

  delivers_over : (text : List ℕ) (done : Result Unit Ending) (out : Told) (before now : Running) → DeliversAllBy (IsSent clock) text done out before now → Keeps rows before.store → tells now.store ≡ true
      → DeliversAllBy (IsSentOver rows clock) text done out before now
  delivers_over text done out before now (inl nothing) keeps told = inl nothing
  delivers_over text done out before now (inr each) keeps told =
      let names = names_of before.memory.sessions in
      let front = all_go names each.sent before each.mid each.are_sent keeps in
      let o = slice_get (left_behind each.sent names) 0 in
      let said = text ++ flat_map line_of each.sent in
      let behind = stop_goes o said done out each.mid now each.stops front.keeps in
      inr (record {
        sent = each.sent;
        mid = each.mid;
        are_sent = all_over names each.sent before each.mid each.are_sent keeps (behind.told told);
        stops = stop_over o said done out each.mid now each.stops front.keeps told;
      })

  -- ---- connections

  served_goes : (before now : Listening) (e : ConnectionEnd) → IsServed clock before now e → Keeps rows before.source.store → Goes before.source.store now.source.store
  served_goes before now e served keeps = stays before.source.store now.source.store served.store keeps

  round_goes : (x y : Listening) (r : Round) → IsRound (IsSent clock) clock x r y → Keeps rows x.source.store → Goes x.source.store y.source.store
  round_goes x y r is keeps =
      let front = served_goes x is.mid r.end is.served keeps in then_goes front (all_go _ r.sent is.mid.source y.source is.sent front.keeps)

  round_over : (x y : Listening) (r : Round) → IsRound (IsSent clock) clock x r y → Keeps rows x.source.store → tells y.source.store ≡ true → IsRound (IsSentOver rows clock) clock x r y
  round_over x y r is keeps told =
      let front = served_goes x is.mid r.end is.served keeps in
      record {
        mid = is.mid;
        served = is.served;
        tellable = is.tellable;
        sent = all_over _ r.sent is.mid.source y.source is.sent front.keeps told;
        all = is.all;
        front = is.front;
      }

  rounds_go : {x y : Listening} {rs : List Round} → AreRounds (IsSent clock) clock x rs y → Keeps rows x.source.store → Goes x.source.store y.source.store
  rounds_go (no_round x) keeps = stays x.source.store x.source.store refl keeps
  rounds_go (one_round x y z r rs is are) keeps = let here = round_goes x y r is keeps in then_goes here (rounds_go are here.keeps)

  rounds_over : {x y : Listening} {rs : List Round} → AreRounds (IsSent clock) clock x rs y → Keeps rows x.source.store → tells y.source.store ≡ true → AreRounds (IsSentOver rows clock) clock x rs y
  rounds_over (no_round x) keeps told = no_round x
  rounds_over (one_round x y z r rs is are) keeps told =
      let here = round_goes x y r is keeps in
      let there = rounds_go are here.keeps in
      one_round x y z r rs (round_over x y r is keeps (there.told told)) (rounds_over are here.keeps told)

  stopped_goes : (number : ℕ) (e : ConnectionEnd) (text : List ℕ) (ending : Ending) (out : Told) (x y : Listening) → RoundStopsBy (IsSent clock) number e text ending out x y → Keeps rows x.source.store → Goes x.source.store y.source.store
  stopped_goes number e text ending out x y (inl (unsaid, same)) keeps = stays x.source.store y.source.store (ap (λ (l : Listening). l.source.store) same) keeps
  stopped_goes number e text ending out x y (inr (tellable, front, delivers)) keeps = delivers_go _ (Err ending) out x.source y.source delivers keeps

  stopped_over : (number : ℕ) (e : ConnectionEnd) (text : List ℕ) (ending : Ending) (out : Told) (x y : Listening) → RoundStopsBy (IsSent clock) number e text ending out x y → Keeps rows x.source.store → tells y.source.store ≡ true
      → RoundStopsBy (IsSentOver rows clock) number e text ending out x y
  stopped_over number e text ending out x y (inl (unsaid, same)) keeps told = inl (unsaid, same)
  stopped_over number e text ending out x y (inr (tellable, front, delivers)) keeps told =
      inr (tellable, front, delivers_over (text ++ connection_line number e) (Err ending) out x.source y.source delivers keeps told)

  fails_go : (number : ℕ) (text : List ℕ) (ending : Ending) (out : Told) (x y : Listening) → RoundFailsBy (IsSent clock) clock number text ending out x y → Keeps rows x.source.store → Goes x.source.store y.source.store
  fails_go number text ending out x y (inl (is, refused, same, said)) keeps = stays x.source.store y.source.store (ap (λ (r : Running). r.store) same) keeps
  fails_go number text ending out x y (inr (e, mid, served, stops)) keeps =
      let front = served_goes x mid e served keeps in then_goes front (stopped_goes number e text ending out mid y stops front.keeps)

  fails_over : (number : ℕ) (text : List ℕ) (ending : Ending) (out : Told) (x y : Listening) → RoundFailsBy (IsSent clock) clock number text ending out x y → Keeps rows x.source.store → tells y.source.store ≡ true
      → RoundFailsBy (IsSentOver rows clock) clock number text ending out x y
  fails_over number text ending out x y (inl refused) keeps told = inl refused
  fails_over number text ending out x y (inr (e, mid, served, stops)) keeps told =
      let front = served_goes x mid e served keeps in inr (e, mid, served, stopped_over number e text ending out mid y stops front.keeps told)

  serving_goes : (count : ℕ) (rounds : List Round) (text : List ℕ) (ending : Ending) (out : Told) (x y : Listening) → ServingStopsBy (IsSent clock) clock count rounds text ending out x y → Keeps rows x.source.store → Goes x.source.store y.source.store
  serving_goes count rounds text ending out x y (inl (all, is, same, said)) keeps = stays x.source.store y.source.store (ap (λ (l : Listening). l.source.store) same) keeps
  serving_goes count rounds text ending out x y (inr (below, fails)) keeps = fails_go (suc (length rounds)) text ending out x y fails keeps

  serving_over : (count : ℕ) (rounds : List Round) (text : List ℕ) (ending : Ending) (out : Told) (x y : Listening) → ServingStopsBy (IsSent clock) clock count rounds text ending out x y → Keeps rows x.source.store → tells y.source.store ≡ true
      → ServingStopsBy (IsSentOver rows clock) clock count rounds text ending out x y
  serving_over count rounds text ending out x y (inl done) keeps told = inl done
  serving_over count rounds text ending out x y (inr (below, fails)) keeps told = inr (below, fails_over (suc (length rounds)) text ending out x y fails keeps told)

  -- ---- how it ends

  telling_goes : (told : List ℕ) (count : ℕ) (ending : Ending) (out : Told) (x y : Listening) → TellingEndsBy (IsSent clock) clock told count ending out x y → Keeps rows x.source.store → Goes x.source.store y.source.store
  telling_goes told count ending out x y (inl (is, failed, part, same)) keeps = stays x.source.store y.source.store (ap (λ (l : Listening). l.source.store) same) keeps
  telling_goes told count ending out x y (inr all) keeps =
      let front = rounds_go all.are_served keeps in then_goes front (serving_goes count all.rounds (told ++ rounds_text 1 all.rounds) ending out all.mid y all.stops front.keeps)

  telling_over : (told : List ℕ) (count : ℕ) (ending : Ending) (out : Told) (x y : Listening) → TellingEndsBy (IsSent clock) clock told count ending out x y → Keeps rows x.source.store → tells y.source.store ≡ true
      → TellingEndsBy (IsSentOver rows clock) clock told count ending out x y
  telling_over told count ending out x y (inl untold) keeps tells_now = inl untold
  telling_over told count ending out x y (inr all) keeps tells_now =
      let text = told ++ rounds_text 1 all.rounds in
      let front = rounds_go all.are_served keeps in
      let behind = serving_goes count all.rounds text ending out all.mid y all.stops front.keeps in
      inr (record {
        rounds = all.rounds;
        mid = all.mid;
        are_served = rounds_over all.are_served keeps (behind.told tells_now);
        stops = serving_over count all.rounds text ending out all.mid y all.stops front.keeps tells_now;
      })

  pub listening_goes : (address : List ℕ) (count : ℕ) (ending : Ending) (out : Told) (x y : Listening) → ListeningEnds clock address count ending out x y → Keeps rows x.source.store → Goes x.source.store y.source.store
  listening_goes address count ending out x y (inl (is, refused, unwritten, same)) keeps = stays x.source.store y.source.store (ap (λ (r : Running). r.store) same) keeps
  listening_goes address count ending out x y (inr telling) keeps = telling_goes (listening_line address) count ending out (listening_at address x) y telling keeps

  pub listening_over : (address : List ℕ) (count : ℕ) (ending : Ending) (out : Told) (x y : Listening) → ListeningEnds clock address count ending out x y → Keeps rows x.source.store → tells y.source.store ≡ true
      → ListeningEndsBy (IsSentOver rows clock) clock address count ending out x y
  listening_over address count ending out x y (inl refused) keeps told = inl refused
  listening_over address count ending out x y (inr telling) keeps told = inr (telling_over (listening_line address) count ending out (listening_at address x) y telling keeps told)

-- ---- the run

was_serving : (address : List ℕ) (count : ℕ) (ending : Ending) (out : Told) (clock : Option ℕ) (front front' link link' : ports.Told) (before mid now : Store) (boot : ℕ) (end : End) → StartsSource (Ok boot) before mid
    → ListeningEnds clock address count ending out (record { front = front; source = record { memory = start_of boot; store = mid; link = link } }) (record { front = front'; source = record { memory = end; store = now; link = link' } })
    → (found last : Rows) → Stand before found → MayFind now last → IsServing address count ending out clock front front' link link' now found last
was_serving address count ending out clock front front' link link' before mid now boot end start ends found last stand may =
    let rows = log.started found LOG_CAPACITY in
    let first : Listening = record { front = front; source = record { memory = start_of boot; store = mid; link = link } } in
    let ended : Listening = record { front = front'; source = record { memory = end; store = now; link = link' } } in
    let keeps = start_keeps before mid boot found start stand in
    let goes = listening_goes rows clock address count ending out first ended ends keeps in
    let told = tells_found now.images last may in
    let is : last ≡ rows = last_is rows last now.images may goes.keeps.only in
    let did = started_did before mid boot found start stand rows (rows_told rows mid keeps (goes.told told)) in
    record {
      starts = start_room found rows did.answer.0;
      rows = is;
      started = mid;
      end = end;
      serves = subst (λ (r : Rows). ListeningEndsBy (IsSentOver r clock) clock address count ending out (record { front = front; source = record { memory = start_of (next_boot found); store = mid; link = link } }) ended) (sym is)
          (subst (λ (n : ℕ). ListeningEndsBy (IsSentOver rows clock) clock address count ending out (record { front = front; source = record { memory = start_of n; store = mid; link = link } }) ended) did.answer.1
          (listening_over rows clock address count ending out first ended ends keeps told));
    }

pub serves_by_rows : ServesByRows
serves_by_rows address count ending out clock front front' link link' before now (inl ((is, unwritten, same), unlistened, unlinked)) = λ found last stand may.
    inl (is, unwritten, unlistened, unlinked, only_found before found last stand (still_found before now last same may))
serves_by_rows address count ending out clock front front' link link' before now (inr (inl ((fault, start, refuses, is, unwritten, same), unlistened))) = λ found last stand may.
    inr (inl (was_not_begun ending out link link' before now fault start refuses is unwritten same found last stand may, unlistened))
serves_by_rows address count ending out clock front front' link link' before now (inr (inr (boot, mid, start, (end, ends)))) = λ found last stand may.
    inr (inr (was_serving address count ending out clock front front' link link' before mid now boot end start ends found last stand may))
