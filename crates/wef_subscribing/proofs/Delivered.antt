-- Messages that sessions send one after the other, each until nothing is left of it.
use Rattle.std.proofs.Common.{◌≡◌, ◌⊎◌, inl, inr, ℕ, ◌+◌, ◌-◌, ◌<◌, ◌≤◌, false, List, [], ◌∷◌, ◌++◌, length, nat_le, refl, ap, sym, subst, ◌∙◌, append_assoc, append-nil, arith, drop}
use Rattle.std.proofs.lemmas.Bool.Decides.{nat_tests}
use Rattle.std.specs.Io.KnownBytes.{Appends}
use Rattle.std.specs.List.{flat_map}
use Rattle.std.specs.Prelude.{Option, Some, None, Result, Ok, Err, slice_get}
use Rattle.wef_building.specs.declared.faults.SourceFault.TheVariants as faults
use Rattle.wef_building.specs.declared.sessions.Session.{Session}
use Rattle.wef_commands.proofs.Written.{both, nothing}
use Rattle.wef_commands.specs.Endings.{Told}
use Rattle.wef_commands.specs.declared.ending.Ending.{Ending}
use Rattle.wef_forwarding.specs.Forwarding.{Forwards}
use Rattle.wef_forwarding.specs.declared.exchanges.FrontFault.{FrontFault}
use Rattle.wef_forwarding.specs.declared.exchanges.FrontFault.TheVariants as fronts
use Rattle.wef_forwarding.specs.declared.forwarding.Exchange.{Exchange}
use Rattle.wef_forwarding.specs.declared.forwarding.Exchange.TheVariants.{Nothing, Acked, Heard, Refused, Lost}
use Rattle.wef_keeper.specs.Rows.{Rows}
use Rattle.wef_ports.specs.Telling as ports
use Rattle.wef_running.proofs.IdsDrawn.{forward_drawn}
use Rattle.wef_running.specs.Forwarding.{IsSent, Running, Sending, line_of, unless_gone}
use Rattle.wef_source.specs.Answers.{SendsFrom, WhereThere}
use Rattle.wef_source.specs.Machine.{End, ids_left, is_spent}
use Rattle.wef_source.specs.Sessions.{session_of}
use Rattle.wef_source.specs.declared.messages.Delivery.{Delivery}
use Rattle.wef_source.specs.declared.messages.Poll.TheVariants as polls
use Rattle.wef_subscribing.proofs.Behind.{delivery_from}
use Rattle.wef_subscribing.specs.Serving.{AreDeliveredBy, DeliversEachBy, DeliveryStopsBy, left_behind, left_by}

-- ---- what was sent so far

module _ (Sent : Sending) where
  -- Some messages were sent and told, and these sessions are left.
  pub record IsDeliveredTo (names left : List (List ℕ)) (taken taken' : Option (List ℕ)) (before now : Running) : Type 0 where
    pub sent : List (List ℕ × Exchange)
    pub are_sent : AreDeliveredBy Sent names sent before now
    pub behind_them : left_behind sent names ≡ left
    pub told : Appends taken taken' (flat_map line_of sent)

  pub none_sent : (names : List (List ℕ)) (taken : Option (List ℕ)) (before : Running) → IsDeliveredTo names names taken taken before before
  none_sent names taken before = record { sent = []; are_sent = refl; behind_them = refl; told = nothing taken }

  sent_more : (names : List (List ℕ)) (xs : List (List ℕ × Exchange)) (u : List ℕ) (e : Exchange) (before mid now : Running)
      → AreDeliveredBy Sent names xs before mid → slice_get (left_behind xs names) 0 ≡ Some u → Sent u (Ok e) mid now → AreDeliveredBy Sent names (xs ++ (u, e) ∷ []) before now
  sent_more names [] u e before mid now same is sends = (is, (now, subst (λ (s : Running). Sent u (Ok e) s now) same sends, refl))
  sent_more names (x ∷ xs) u e before mid now all is sends = (all.0, (all.1.0, all.1.1, sent_more (left_by x.1 names) xs u e all.1.0 mid now all.1.2 is sends))

  behind_more : (names : List (List ℕ)) (xs : List (List ℕ × Exchange)) (x : List ℕ × Exchange) → left_behind (xs ++ x ∷ []) names ≡ left_by x.1 (left_behind xs names)
  behind_more names [] x = refl
  behind_more names (y ∷ ys) x = behind_more (left_by y.1 names) ys x

  text_more : (xs : List (List ℕ × Exchange)) (x : List ℕ × Exchange) → flat_map line_of (xs ++ x ∷ []) ≡ flat_map line_of xs ++ line_of x
  text_more [] x = append-nil (line_of x)
  text_more (y ∷ ys) x = ap (λ (text : List ℕ). line_of y ++ text) (text_more ys x) ∙ sym (append_assoc (line_of y) (flat_map line_of ys) (line_of x))

  -- one message more
  pub one_sent : (names left : List (List ℕ)) (u : List ℕ) (e : Exchange) (a b c : Option (List ℕ)) (before mid now : Running)
      → IsDeliveredTo names left a b before mid → slice_get left 0 ≡ Some u → Sent u (Ok e) mid now → Appends b c (line_of (u, e)) → IsDeliveredTo names (left_by e left) a c before now
  one_sent names left u e a b c before mid now so_far is sends tells = record {
    sent = so_far.sent ++ (u, e) ∷ [];
    are_sent = sent_more names so_far.sent u e before mid now so_far.are_sent (ap (λ (ns : List (List ℕ)). slice_get ns 0) so_far.behind_them ∙ is) sends;
    behind_them = behind_more names so_far.sent (u, e) ∙ ap (left_by e) so_far.behind_them;
    told = subst (Appends a c) (sym (text_more so_far.sent (u, e))) (both a b c (flat_map line_of so_far.sent) (line_of (u, e)) so_far.told tells);
  }

  -- it stops behind what was sent
  pub stopped : (names left : List (List ℕ)) (o : Option (List ℕ)) (done : Result Unit Ending) (a b c : Option (List ℕ)) (f g h : ℕ) (before mid now : Running)
      → IsDeliveredTo names left a b before mid → f ≤ g → slice_get left 0 ≡ o
      → DeliveryStopsBy Sent o [] done (record { before = b; after = c; faults_before = g; faults_after = h }) mid now
      → DeliversEachBy Sent names [] done (record { before = a; after = c; faults_before = f; faults_after = h }) before now
  stopped names left o done a b c f g h before mid now so_far below is stops =
      let out : Told = record { before = a; after = c; faults_before = f; faults_after = h } in
      let text = flat_map line_of so_far.sent in
      record {
        sent = so_far.sent;
        mid = mid;
        are_sent = so_far.are_sent;
        stops =
            subst (λ (u : Option (List ℕ)). DeliveryStopsBy Sent u text done out mid now) (sym (ap (λ (ns : List (List ℕ)). slice_get ns 0) so_far.behind_them ∙ is))
            (subst (λ (t : List ℕ). DeliveryStopsBy Sent o t done out mid now) (append-nil text) (delivery_from a b c f g h text below so_far.told Sent o [] done mid now stops));
      }

-- ---- it ends

-- a batch is sent only where an id is left
sends_unspent : (end mid : End) (o : Option Session) (u : List ℕ) (now : ℕ) (d : Delivery) → WhereThere o (λ session. SendsFrom end mid session u now (polls.Send d)) → is_spent end ≡ false
sends_unspent end mid None u now d is = absurd is
sends_unspent end mid (Some session) u now d is = is.1

abbrev acked : ℕ → Result Exchange FrontFault
acked count = Ok (Acked count)

-- what is acknowledged was a batch
unspent_before : (rows : Option Rows) (end end' : End) (u : List ℕ) (now : ℕ) (before after : ports.Told) (count : ℕ) (answer : Result Exchange FrontFault)
    → acked count ≡ unless_gone answer → Forwards rows end end' u now before after answer → is_spent end ≡ false
unspent_before rows end end' u now before after count (Ok (Acked n)) is forwards = sends_unspent end forwards.sent (session_of end.sessions u) u now forwards.delivery forwards.polled.sends
unspent_before rows end end' u now before after count (Ok Nothing) is forwards = cc
unspent_before rows end end' u now before after count (Ok Heard) is forwards = cc
unspent_before rows end end' u now before after count (Ok Refused) is forwards = cc
unspent_before rows end end' u now before after count (Ok Lost) is forwards = cc
unspent_before rows end end' u now before after count (Err fronts.NoMemory) is forwards = cc
unspent_before rows end end' u now before after count (Err fronts.LinkFailed) is forwards = cc
unspent_before rows end end' u now before after count (Err (fronts.Source faults.UnknownSubscription)) is forwards = cc
unspent_before rows end end' u now before after count (Err (fronts.Source faults.Expired)) is forwards = cc
unspent_before rows end end' u now before after count (Err (fronts.Source faults.NoMemory)) is forwards = absurd forwards
unspent_before rows end end' u now before after count (Err (fronts.Source faults.Failed)) is forwards = cc
unspent_before rows end end' u now before after count (Err (fronts.Source faults.Full)) is forwards = absurd forwards.0
unspent_before rows end end' u now before after count (Err (fronts.Source faults.TooLong)) is forwards = absurd forwards.0
unspent_before rows end end' u now before after count (Err (fronts.Source faults.NotAsked)) is forwards = absurd forwards.0
unspent_before rows end end' u now before after count (Err (fronts.Source faults.Spent)) is forwards = cc

below_most : (drawn : ℕ) → nat_le 18446744073709551615 drawn ≡ false → drawn < 18446744073709551615
below_most drawn is = grind (arith, nat_tests, is)

fewer : (before now : ℕ) → before < 18446744073709551615 → now ≡ before + 1 → 18446744073709551615 - now < 18446744073709551615 - before
fewer before now below one = omega (arith, below, one)

no_more : (before now some : ℕ) → now ≡ before + some → 18446744073709551615 - now ≤ 18446744073709551615 - before
no_more before now some is = omega (arith, is)

module _ (clock : Option ℕ) (u : List ℕ) (before now : Running) where
  acked_fewer : (count : ℕ) → IsSent clock u (Ok (Acked count)) before now → ids_left now.memory < ids_left before.memory
  acked_fewer count sent =
      fewer before.memory.drawn now.memory.drawn
      (below_most before.memory.drawn (unspent_before now.store.rows before.memory now.memory u sent.moment before.link now.link count sent.answer sent.result_is sent.forwards))
      (forward_drawn now.store.rows before.memory now.memory u sent.moment before.link now.link sent.answer (Acked count) sent.result_is sent.forwards)

  other_no_more : (e : Exchange) → IsSent clock u (Ok e) before now → ids_left now.memory ≤ ids_left before.memory
  other_no_more e sent = no_more before.memory.drawn now.memory.drawn _ (forward_drawn now.store.rows before.memory now.memory u sent.moment before.link now.link sent.answer e sent.result_is sent.forwards)

  shorter : (names : List (List ℕ)) (m k : ℕ) → slice_get names 0 ≡ Some u → m ≤ k → length (drop 1 names) + m < length names + k
  shorter [] m k is below = cc
  shorter (n ∷ ns) m k is below = omega (arith, below)

  -- what is left to do gets less
  pub gets_less : (e : Exchange) (names : List (List ℕ)) → slice_get names 0 ≡ Some u → IsSent clock u (Ok e) before now
      → length (left_by e names) + ids_left now.memory < length names + ids_left before.memory
  gets_less (Acked count) names is sent = let less = acked_fewer count sent in omega (arith, less)
  gets_less Nothing names is sent = shorter names _ _ is (other_no_more Nothing sent)
  gets_less Heard names is sent = shorter names _ _ is (other_no_more Heard sent)
  gets_less Refused names is sent = shorter names _ _ is (other_no_more Refused sent)
  gets_less Lost names is sent = shorter names _ _ is (other_no_more Lost sent)
