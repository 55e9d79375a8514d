-- Why a run of `serve` says that its store failed.
use Rattle.std.proofs.Common.{◌≡◌, inl, inr, ℕ, ◌≤◌, true, List, [], ◌∷◌, refl, ap, sym, arith}
use Rattle.std.specs.Prelude.{Option, Some, None, Result, Ok, Err}
use Rattle.wef_commands.specs.Endings.{Told}
use Rattle.wef_commands.specs.declared.ending.Ending.TheVariants as ends
use Rattle.wef_forwarding.specs.declared.forwarding.Exchange.{Exchange}
use Rattle.wef_keeper.specs.Access.{HasCause}
use Rattle.wef_keeper.specs.Keeping.{Store}
use Rattle.wef_ports.specs.Telling as ports
use Rattle.wef_running.specs.Forwarding.{EndsAtBy, IsSent, Running}
use Rattle.wef_serving.specs.declared.ends.ConnectionEnd.{ConnectionEnd}
use Rattle.wef_source_log.specs.Forms.{AreFormed}
use Rattle.wef_subscribing.specs.Serving.{AreDeliveredBy, AreRounds, DeliversAllBy, DeliveryStopsBy, IsRound, Listening, ListeningEnds, Round, RoundFailsBy, RoundStopsBy, ServeEnds, ServingStopsBy, left_by}
use Rattle.wef_subscribing.specs.Serving.{no_round, one_round}
use Rattle.wef_cli.proofs.Causes.{later_caused, not_failed}
use Rattle.wef_cli.proofs.ForwardsCaused.{batch_caused, start_caused}

abbrev Caused : Store → Store → Type 0
Caused before now = HasCause AreFormed true before now

same_faults : (before now : Store) → now ≡ before → before.faults ≤ now.faults
same_faults before now same = let is : before.faults ≡ now.faults = ap (λ (s : Store). s.faults) (sym same) in omega (arith, is)

module _ (clock : Option ℕ) where
  -- ---- neither messages nor connections lower the count of faults

  sent_later : (names : List (List ℕ)) (xs : List (List ℕ × Exchange)) (before now : Running) → AreDeliveredBy (IsSent clock) names xs before now → before.store.faults ≤ now.store.faults
  sent_later names [] before now same = same_faults before.store now.store (ap (λ (r : Running). r.store) same)
  sent_later names (x ∷ xs) before now (is, (mid, sent, more)) =
      let first : before.store.faults ≤ mid.store.faults = sent.reads.0.3 in
      let next = sent_later (left_by x.1 names) xs mid now more in
      omega (arith, first, next)

  round_later : (x y : Listening) (r : Round) → IsRound (IsSent clock) clock x r y → x.source.store.faults ≤ y.source.store.faults
  round_later x y r is =
      let first = same_faults x.source.store is.mid.source.store is.served.store in
      let next = sent_later _ r.sent is.mid.source y.source is.sent in
      omega (arith, first, next)

  rounds_later : {x y : Listening} {rs : List Round} → AreRounds (IsSent clock) clock x rs y → x.source.store.faults ≤ y.source.store.faults
  rounds_later (no_round x) = omega arith
  rounds_later (one_round x y z r rs is are) =
      let first = round_later x y r is in
      let next = rounds_later are in
      omega (arith, first, next)

  -- ---- how it ends

  at_caused : (u text : List ℕ) (out : Told) (before now : Running) → EndsAtBy (IsSent clock) u text ends.StoreFailed out before now → Caused before.store now.store
  at_caused u text out before now (inl (fault, sent, is, told)) = batch_caused clock u fault before now sent is
  at_caused u text out before now (inr (e, sent, untold)) = absurd untold

  stop_caused : (o : Option (List ℕ)) (text : List ℕ) (out : Told) (before now : Running) → DeliveryStopsBy (IsSent clock) o text (Err ends.StoreFailed) out before now → Caused before.store now.store
  stop_caused None text out before now stops = absurd stops
  stop_caused (Some u) text out before now stops = at_caused u text out before now stops

  delivers_caused : (text : List ℕ) (out : Told) (before now : Running) → DeliversAllBy (IsSent clock) text (Err ends.StoreFailed) out before now → Caused before.store now.store
  delivers_caused text out before now (inl (is, told, same)) = cc
  delivers_caused text out before now (inr each) =
      later_caused AreFormed before.store each.mid.store now.store (sent_later _ each.sent before each.mid each.are_sent) (stop_caused _ _ out each.mid now each.stops)

  stopped_caused : (number : ℕ) (e : ConnectionEnd) (text : List ℕ) (out : Told) (x y : Listening) → RoundStopsBy (IsSent clock) number e text ends.StoreFailed out x y → Caused x.source.store y.source.store
  stopped_caused number e text out x y (inl (untold, same)) = absurd untold
  stopped_caused number e text out x y (inr (tellable, front, delivers)) = delivers_caused _ out x.source y.source delivers

  fails_caused : (number : ℕ) (text : List ℕ) (out : Told) (x y : Listening) → RoundFailsBy (IsSent clock) clock number text ends.StoreFailed out x y → Caused x.source.store y.source.store
  fails_caused number text out x y (inl (is, refused, same, told)) = absurd (not_failed ends.ListeningFailed refl is)
  fails_caused number text out x y (inr (e, mid, served, stops)) =
      later_caused AreFormed x.source.store mid.source.store y.source.store (same_faults x.source.store mid.source.store served.store) (stopped_caused number e text out mid y stops)

  serving_caused : (count : ℕ) (rounds : List Round) (text : List ℕ) (out : Told) (x y : Listening) → ServingStopsBy (IsSent clock) clock count rounds text ends.StoreFailed out x y → Caused x.source.store y.source.store
  serving_caused count rounds text out x y (inl (all, is, same, told)) = absurd (not_failed ends.Done refl is)
  serving_caused count rounds text out x y (inr (below, fails)) = fails_caused _ text out x y fails

  listening_caused : (address : List ℕ) (count : ℕ) (out : Told) (x y : Listening) → ListeningEnds clock address count ends.StoreFailed out x y → Caused x.source.store y.source.store
  listening_caused address count out x y (inl (is, refused, unwritten, same)) = absurd (not_failed ends.ListeningFailed refl is)
  listening_caused address count out x y (inr (inl (is, failed, part, same))) = absurd (not_failed ends.OutputFailed refl is)
  listening_caused address count out x y (inr (inr all)) =
      later_caused AreFormed x.source.store all.mid.source.store y.source.store (rounds_later all.are_served) (serving_caused count all.rounds _ out all.mid y all.stops)

pub serving_run_caused : (address : List ℕ) (count : ℕ) (out : Told) (clock : Option ℕ) (front front' link link' : ports.Told) (before now : Store)
    → ServeEnds address count ends.StoreFailed out clock front front' link link' before now → Caused before now
serving_run_caused address count out clock front front' link link' before now (inl ((is, unwritten, same), unlistened, unlinked)) = absurd (not_failed ends.NoMemory refl is)
serving_run_caused address count out clock front front' link link' before now (inr (inl ((fault, start, refuses, is, unwritten, same), unlistened))) = start_caused before now fault start refuses is
serving_run_caused address count out clock front front' link link' before now (inr (inr (boot, mid, start, (end, listens)))) =
    later_caused AreFormed before mid now start.0.faults (listening_caused clock address count out _ _ listens)
