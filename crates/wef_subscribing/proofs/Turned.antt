-- One connection, and what is sent behind it.
use Rattle.std.proofs.Common.{◌≡◌, ◌⊎◌, inl, inr, ℕ, List, [], ◌++◌, refl, subst, ap, sym}
use Rattle.std.specs.List.{flat_map}
use Rattle.std.specs.Prelude.{Option, Some, None, Result, Ok, Err, slice_get}
use Rattle.wef_commands.specs.Endings.{Told}
use Rattle.wef_commands.specs.declared.ending.Ending.{Ending}
use Rattle.wef_commands.specs.Writing.{IsUntold}
use Rattle.wef_ports.specs.Telling as ports
use Rattle.wef_running.specs.Collecting.{IsTellable, connection_line}
use Rattle.wef_running.specs.Forwarding.{IsSent, Running, line_of}
use Rattle.wef_serving.specs.declared.ends.ConnectionEnd.{ConnectionEnd}
use Rattle.wef_source.specs.Sessions.{names_of}
use Rattle.wef_subscribing.specs.Serving.{AreDeliveredBy, DeliversEachBy, DeliveryStopsBy, IsServed, Listening, RoundEnds, TellsAndDelivers, left_behind}

abbrev ended : Ending → Result Unit Ending
ended ending = Err ending

which : (one other : Ending) → ended one ≡ ended other → one ≡ other
which one other is = cc

module _ (clock : Option ℕ) (number : ℕ) (out : Told) (x : Listening) (g : ports.Told) (before now : Running) (e : ConnectionEnd) where
  abbrev mid : Listening
  mid = record { front = g; source = before }

  abbrev last : Listening
  last = record { front = g; source = now }

  -- all that the sessions had was sent
  delivered : (done : Unit {0}) → IsServed clock x mid e → IsTellable e → (o : Option (List ℕ)) (each : DeliversEachBy (IsSent clock) (names_of before.memory.sessions) (connection_line number e) (Ok done) out before now)
      → slice_get (left_behind each.sent (names_of before.memory.sessions)) 0 ≡ o → DeliveryStopsBy (IsSent clock) o (connection_line number e ++ flat_map line_of each.sent) (Ok done) out each.mid now
      → RoundEnds clock number (Ok done) out x last
  delivered done served tellable None each none stops = (
    record { end = e; sent = each.sent },
    record {
      mid = mid;
      served = served;
      tellable = tellable;
      sent = subst (λ (r : Running). AreDeliveredBy (IsSent clock) (names_of before.memory.sessions) each.sent before r) (sym stops.1) each.are_sent;
      all = none;
      front = refl;
    },
    stops.0,
  )
  delivered done served tellable (Some u) each some stops = absurd stops

  -- a connection that was served, and what came behind it
  pub turned : (done : Result Unit Ending) → IsServed clock x mid e → TellsAndDelivers clock number e done out before now → RoundEnds clock number done out x last
  turned (Ok done) served (inl (ending, is, untold, same)) = cc
  turned (Ok done) served (inr (tellable, inl (is, told, same))) = cc
  turned (Ok done) served (inr (tellable, inr each)) = delivered done served tellable _ each refl each.stops
  turned (Err ending) served (inl (other, is, untold, same)) =
      inr (e, mid, served, inl (subst (λ (x : Ending). IsUntold x out [] (connection_line number e)) (sym (which ending other is)) untold, ap (λ (r : Running). record { front = g; source = r }) same))
  turned (Err ending) served (inr (tellable, delivers)) = inr (e, mid, served, inr (tellable, refl, delivers))
