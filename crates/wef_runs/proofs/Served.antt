-- The acts of a source that serves connections, by the account of its run, and that what it sends fits.
use Rattle.std.proofs.Common.{inl, inr, ℕ, ◌+◌, List, [], ◌∷◌, ap, sym, refl, subst, arith}
use Rattle.std.specs.List.{AllByRecursion}
use Rattle.std.specs.Prelude.{Option, Some, None, Ok, Err}
use Rattle.wef_building.specs.Faults.{source_store}
use Rattle.wef_cli.specs.Runs.{Peers}
use Rattle.wef_commands.specs.Endings.{Told}
use Rattle.wef_commands.specs.declared.ending.Ending.{Ending}
use Rattle.wef_commands.specs.declared.writing.TheConstants.{LOG_CAPACITY}
use Rattle.wef_forwarding.specs.declared.forwarding.Exchange.{Exchange}
use Rattle.wef_front_source.specs.Replies as front
use Rattle.wef_keeper.proofs.Going.{may_leave}
use Rattle.wef_keeper.specs.Keeping.{Store}
use Rattle.wef_keeper.specs.Rows.{Rows}
use Rattle.wef_running.specs.ByRows.{IsSentOver}
use Rattle.wef_running.specs.Collecting.{listening_line}
use Rattle.wef_running.specs.Forwarding.{Running}
use Rattle.wef_serving.specs.Serving.{AnswersAt, LeavesAt, Responds, RespondsInTurn}
use Rattle.wef_serving.specs.Serving.{to_none, to_one_more}
use Rattle.wef_serving.specs.declared.ends.ConnectionEnd.{ConnectionEnd}
use Rattle.wef_source.specs.Calls.{start_effect}
use Rattle.wef_source.specs.Machine.{start_of}
use Rattle.wef_source.specs.Sessions.{names_of}
use Rattle.wef_source_log.proofs.Cells.{starts_keep}
use Rattle.wef_source_log.specs.Answers.{next_boot}
use Rattle.wef_source_log.specs.Histories.{Histories}
use Rattle.wef_source_log.specs.LogWindow.{IsWindow}
use Rattle.wef_source_serving.specs.Answers.{Answers, KnownSource}
use Rattle.wef_source_serving.specs.Answers as serving
use Rattle.wef_subscribing.specs.ByRows.{IsServing, ServeSays}
use Rattle.wef_subscribing.specs.Serving.{AreDeliveredBy, AreRounds, DeliversAllBy, DeliveryStopsBy, IsRound, IsServed, Listening, ListeningEndsBy, Round, RoundFailsBy, ServesAllBy, ServingStopsBy, TellingEndsBy, left_by, listening_at}
use Rattle.wef_subscribing.specs.Serving.{no_round, one_round}
use Rattle.wef_runs.proofs.Acted.{end_acted, joined, one_acted}
use Rattle.wef_runs.proofs.Fitting.{all_fit, all_rise}
use Rattle.wef_runs.proofs.Forwarded.{nothing_forwarded, start_window}
use Rattle.wef_runs.specs.Acts.{AreActed, BeginWithin}
use Rattle.wef_runs.specs.Forwarded.{HasForwarded, acts_of_one}
use Rattle.wef_runs.specs.Served.{ServesFit, acts_at_end, acts_at_stop, acts_delivered, acts_delivering, acts_in_turn, acts_listening, acts_of_all, acts_of_request, acts_of_round, acts_of_rounds, acts_served_by, acts_stopping, acts_telling}

module _ (rows : Rows) (clock : Option ℕ) where
  -- ---- what collectors ask

  request_acted : (k l : KnownSource) (responds : Responds (AnswersAt clock Answers) (LeavesAt clock serving.Leaves) k l) → AreActed rows (acts_of_request clock responds) k.memory l.memory
  request_acted k l (request, inl (moment, told, (inl same, stored))) = same
  request_acted k l (request, inl (moment, told, (inr (heard, hears, may), stored))) = (l.memory, may, refl)
  request_acted k l (request, inr (answer, (moment, told, ((heard, hears, is), stored)))) = (l.memory, ap (λ (r : front.Reply). r.end) is, refl)

  turns_acted : {k l : KnownSource} (turns : RespondsInTurn (AnswersAt clock Answers) (LeavesAt clock serving.Leaves) k l) → AreActed rows (acts_in_turn clock turns) k.memory l.memory
  turns_acted (to_none k) = refl
  turns_acted (to_one_more k l m before last) = joined rows (acts_in_turn clock before) (acts_of_request clock last) k.memory l.memory m.memory (turns_acted before) (request_acted l m last)

  served_acted : (before now : Listening) (e : ConnectionEnd) (served : IsServed clock before now e) → AreActed rows (acts_in_turn clock served.answered) before.source.memory now.source.memory
  served_acted before now e served = turns_acted served.answered

  -- ---- what is sent behind a connection

  delivered_acted : (names : List (List ℕ)) (xs : List (List ℕ × Exchange)) (before now : Running) (are : AreDeliveredBy (IsSentOver rows clock) names xs before now)
      → AreActed rows (acts_delivered rows clock names xs before now are) before.memory now.memory
  delivered_acted names [] before now same = ap (λ (r : Running). r.memory) same
  delivered_acted names (x ∷ xs) before now (first, (mid, sent, more)) =
      joined rows (acts_of_one rows clock x.0 (Ok x.1) before mid sent) (acts_delivered rows clock (left_by x.1 names) xs mid now more) before.memory mid.memory now.memory
      (one_acted rows clock x.0 (Ok x.1) before mid sent) (delivered_acted (left_by x.1 names) xs mid now more)

  stop_acted : (o : Option (List ℕ)) (text : List ℕ) (ending : Ending) (out : Told) (before now : Running) (stops : DeliveryStopsBy (IsSentOver rows clock) o text (Err ending) out before now)
      → AreActed rows (acts_at_stop rows clock o text ending out before now stops) before.memory now.memory
  stop_acted None text ending out before now none = absurd none
  stop_acted (Some u) text ending out before now ends = end_acted rows clock (Some u) text ending out before now ends

  delivering_acted : (text : List ℕ) (ending : Ending) (out : Told) (before now : Running) (delivers : DeliversAllBy (IsSentOver rows clock) text (Err ending) out before now)
      → AreActed rows (acts_delivering rows clock text ending out before now delivers) before.memory now.memory
  delivering_acted text ending out before now (inl (is, told, same)) = ap (λ (r : Running). r.memory) same
  delivering_acted text ending out before now (inr is) =
      joined rows _ _ before.memory is.mid.memory now.memory (delivered_acted (names_of before.memory.sessions) is.sent before is.mid is.are_sent) (stop_acted _ _ ending out is.mid now is.stops)

  -- ---- connections

  round_acted : (before : Listening) (r : Round) (now : Listening) (is : IsRound (IsSentOver rows clock) clock before r now)
      → AreActed rows (acts_of_round rows clock before r now is) before.source.memory now.source.memory
  round_acted before r now is =
      joined rows (acts_in_turn clock is.served.answered) _ before.source.memory is.mid.source.memory now.source.memory (served_acted before is.mid r.end is.served)
      (delivered_acted (names_of is.mid.source.memory.sessions) r.sent is.mid.source now.source is.sent)

  rounds_acted : {before now : Listening} {rs : List Round} (are : AreRounds (IsSentOver rows clock) clock before rs now)
      → AreActed rows (acts_of_rounds rows clock are) before.source.memory now.source.memory
  rounds_acted (no_round x) = refl
  rounds_acted (one_round x y z r rs is more) =
      joined rows (acts_of_round rows clock x r y is) (acts_of_rounds rows clock more) x.source.memory y.source.memory z.source.memory (round_acted x r y is) (rounds_acted more)

  end_of_all : (number : ℕ) (text : List ℕ) (ending : Ending) (out : Told) (before now : Listening) (fails : RoundFailsBy (IsSentOver rows clock) clock number text ending out before now)
      → AreActed rows (acts_at_end rows clock number text ending out before now fails) before.source.memory now.source.memory
  end_of_all number text ending out before now (inl (is, refuses, same, told)) = ap (λ (r : Running). r.memory) same
  end_of_all number text ending out before now (inr (e, mid, served, inl (untold, same))) =
      subst (λ (x : Listening). AreActed rows (acts_in_turn clock served.answered) before.source.memory x.source.memory) (sym same) (served_acted before mid e served)
  end_of_all number text ending out before now (inr (e, mid, served, inr (tellable, front_same, delivers))) =
      joined rows (acts_in_turn clock served.answered) _ before.source.memory mid.source.memory now.source.memory (served_acted before mid e served)
      (delivering_acted _ ending out mid.source now.source delivers)

  stopping_acted : (count : ℕ) (rounds : List Round) (text : List ℕ) (ending : Ending) (out : Told) (before now : Listening) (stops : ServingStopsBy (IsSentOver rows clock) clock count rounds text ending out before now)
      → AreActed rows (acts_stopping rows clock count rounds text ending out before now stops) before.source.memory now.source.memory
  stopping_acted count rounds text ending out before now (inl (all, done, same, told)) = ap (λ (x : Listening). x.source.memory) same
  stopping_acted count rounds text ending out before now (inr (few, fails)) = end_of_all _ text ending out before now fails

  all_acted : (told : List ℕ) (count : ℕ) (ending : Ending) (out : Told) (before now : Listening) (is : ServesAllBy (IsSentOver rows clock) clock told count ending out before now)
      → AreActed rows (acts_of_all rows clock told count ending out before now is) before.source.memory now.source.memory
  all_acted told count ending out before now is =
      joined rows (acts_of_rounds rows clock is.are_served) _ before.source.memory is.mid.source.memory now.source.memory (rounds_acted is.are_served) (stopping_acted count is.rounds _ ending out is.mid now is.stops)

  telling_acted : (told : List ℕ) (count : ℕ) (ending : Ending) (out : Told) (before now : Listening) (tells : TellingEndsBy (IsSentOver rows clock) clock told count ending out before now)
      → AreActed rows (acts_telling rows clock told count ending out before now tells) before.source.memory now.source.memory
  telling_acted told count ending out before now (inl (is, failed, part, same)) = ap (λ (x : Listening). x.source.memory) same
  telling_acted told count ending out before now (inr is) = all_acted told count ending out before now is

  pub listening_acted : (address : List ℕ) (count : ℕ) (ending : Ending) (out : Told) (before now : Listening) (listens : ListeningEndsBy (IsSentOver rows clock) clock address count ending out before now)
      → AreActed rows (acts_listening rows clock address count ending out before now listens) before.source.memory now.source.memory
  listening_acted address count ending out before now (inl (is, refuses, unwritten, same)) = ap (λ (r : Running). r.memory) same
  listening_acted address count ending out before now (inr tells) = telling_acted (listening_line address) count ending out (listening_at address before) now tells

-- ---- a run

module _ (ending : Ending) (out : Told) (peers : Peers) (now : Store) (found last : Rows) (address : List ℕ) (count : ℕ) where
  -- a source that was started over rows, and serves
  pub begun_acted : (is : IsServing address count ending out peers.moment peers.front_before peers.front_after peers.link_before peers.link_after now found last)
      → AreActed last (acts_served_by ending out peers now found last address count (inr (inr is))) (start_of (next_boot found)) is.end
  begun_acted is =
      listening_acted last peers.moment address count ending out
      (record { front = peers.front_before; source = record { memory = start_of (next_boot found); store = is.started; link = peers.link_before } })
      (record { front = peers.front_after; source = record { memory = is.end; store = now; link = peers.link_after } }) is.serves

  module _ (all : Histories) (boot : ℕ) (window : IsWindow found all LOG_CAPACITY boot) where
    says_fits : (says : ServeSays address count ending out peers.moment peers.front_before peers.front_after peers.link_before peers.link_after now found last)
        → AllByRecursion (BeginWithin all) (acts_served_by ending out peers now found last address count says) → HasForwarded all boot found last (acts_served_by ending out peers now found last address count says)
    says_fits (inl (is, unwritten, front_same, link_same, same)) within =
        nothing_forwarded all boot found last (inl (subst (λ (rows : Rows). IsWindow rows all LOG_CAPACITY boot) (sym same) window))
    says_fits (inr (inl ((fault, refuses, is, unwritten, same, goes), front_same))) within =
        nothing_forwarded all boot found last (start_window found last all boot window (may_leave source_store (λ rows. start_effect rows LOG_CAPACITY) next_boot (Err fault) found last goes))
    says_fits (inr (inr is)) within =
        let then_window : IsWindow last all LOG_CAPACITY (boot + 1) = subst (λ (rows : Rows). IsWindow rows all LOG_CAPACITY (boot + 1)) (sym is.rows) (starts_keep found all LOG_CAPACITY boot window) in
        let acts = acts_served_by ending out peers now found last address count (inr (inr is)) in
        let acted = begun_acted is in
        record {
          window = inr then_window;
          end = is.end;
          acted = acted;
          fit = all_fit last all LOG_CAPACITY (boot + 1) (omega arith) (omega arith) then_window acts (start_of (next_boot found)) is.end acted within tt;
          rise = all_rise last acts (start_of (next_boot found)) is.end acted;
        }

pub serves_fit : ServesFit
serves_fit address s count found last account all boot window within = says_fits account.ending account.out account.peers account.now found last address count all boot window account.says within
