-- Connections over rows: from any of those that an opening may find behind them, back to those that stood before.
use Rattle.std.proofs.Common.{◌≡◌, ◌⊎◌, inl, inr, ℕ, zero, ◌+◌, ◌<◌, ◌≤◌, max, Bool, true, false, cond, List, [], ◌∷◌, ◌++◌, ap, sym, refl, subst, ◌∙◌, arith}
use Rattle.std.specs.FinMap as finite
use Rattle.std.specs.List.{AllByRecursion}
use Rattle.std.specs.Option.{option_map}
use Rattle.std.specs.Prelude.{Option, Some, None, IfSome, IfErr, Result, Ok, Err, is_some, unwrap_or}
use Rattle.wef_base.specs.Counts.{Rose}
use Rattle.wef_base.specs.Names as names
use Rattle.wef_batch.specs.WellFormed.{is_well_formed}
use Rattle.wef_batch.specs.declared.items.Batch.{Batch}
use Rattle.wef_collector.proofs.Batches.{bookmark_moves, bookmark_never_falls}
use Rattle.wef_collector.proofs.Hearing.{bookmark_by_hearing}
use Rattle.wef_collector.proofs.Hits.{found_if_other, hits}
use Rattle.wef_collector.specs.Calls.{Effect, hear_by, no_effect, take_by, take_effect, unread_by}
use Rattle.wef_collector.specs.Laws.{BookmarksRise, IsReached, moved}
use Rattle.wef_collector.specs.Offers.{offers}
use Rattle.wef_collector.specs.Taken.{batch_changes, heard_changes, taken}
use Rattle.wef_collector_rows.specs.Answers.{channels_read, is_known}
use Rattle.wef_collector_rows.specs.Bookmarks.{bookmark_at}
use Rattle.wef_collector_leases.specs.Changes.{delete_lease, delete_named, end_lease}
use Rattle.wef_collector_leases.specs.Leases.{lease_at}
use Rattle.wef_collector_leases.specs.declared.leases.Lease.{Lease}
use Rattle.wef_collector_rows.specs.Faults.{collector_store}
use Rattle.wef_collector_rows.specs.Keys.{bookmark_key, lease_key}
use Rattle.wef_collector_rows.specs.Forms.{AreFormed}
use Rattle.wef_collector_rows.specs.declared.faults.CollectorFault.{CollectorFault}
use Rattle.wef_collector_rows.specs.declared.faults.CollectorFault.TheVariants.{NoMemory, NoSubscription, Exists, Ended, NotWellFormed, NotAsked, TooMany, Failed, Full}
use Rattle.wef_collector_rows.specs.Standing.{standing}
use Rattle.wef_collector_rows.specs.declared.standings.Standing.{Standing}
use Rattle.wef_collector_rows.specs.declared.standings.Standing.TheVariants as stands
use Rattle.wef_eventing.specs.declared.subscriptions.Subscription.{Subscription}
use Rattle.wef_front.proofs.Causes.{internal_errors_have_a_cause}
use Rattle.wef_front_collector.specs.Replies.{rows_by}
use Rattle.wef_front_collector.specs.Steps.{HasStepped, IsAnswered, IsFailure, Steps, batch_said, effect_in, fault_for, said_where, said_with}
use Rattle.wef_front_collector.specs.declared.hearing.Asked.{Asked}
use Rattle.wef_front_collector.specs.declared.hearing.Asked.TheVariants as asks
use Rattle.wef_front_collector.specs.declared.hearing.Asked.TheVariants.{Refused, Enumerate, Unread, Take, Heartbeat, UnreadEnd}
use Rattle.wef_front_collector.specs.declared.saying.Said.{Said}
use Rattle.wef_front_collector.specs.declared.saying.Said.TheVariants.{Ack, Quiet, Offers, Fault}
use Rattle.wef_http.specs.Messages.{IsRequest}
use Rattle.wef_http.specs.declared.messages.HttpRequest.{HttpRequest}
use Rattle.wef_http_heads.specs.declared.answers.Answer.{Answer}
use Rattle.wef_http_heads.specs.declared.targets.Side.{Side}
use Rattle.wef_ids.specs.declared.FaultName.{FaultName}
use Rattle.wef_ids.specs.declared.FaultName.TheVariants as the
use Rattle.wef_keeper.proofs.Going.{goes_over, may_leave, one_of, told_before, which_found}
use Rattle.wef_keeper.specs.Calls.{GoesOver, IsCall, Makes, MayLeave}
use Rattle.wef_keeper.specs.Forms.{StayFormed}
use Rattle.wef_keeper.specs.Keeping.{IsLawful, IsOneOf, MayFind, Store, WhereTold}
use Rattle.wef_keeper.specs.Laws.{get-applied}
use Rattle.wef_keeper.specs.Rows.{Rows, applied, found_after}
use Rattle.wef_keeper.specs.declared.keys.Cell.{Cell}
use Rattle.wef_keeper.specs.declared.keys.Key.{Key}
use Rattle.wef_serving.specs.Serving.{AnswersAt, LeavesAt, RespondsInTurn, Serves, response_to}
use Rattle.wef_serving.specs.Serving.{finishes, cuts, refuses, closes, goes_on, breaks, refuses_part, answers_part, leaves, to_none, to_one_more}
use Rattle.wef_serving.specs.declared.ends.ConnectionEnd.{ConnectionEnd}
use Rattle.wef_serving.specs.declared.ends.ConnectionEnd.TheVariants as over
use Rattle.wef_collector_serving.proofs.Counted.{answer_counts, faults_never_fall, leaving_counts}
use Rattle.wef_collector_serving.specs.Answers.{Answers, KnownCollector, Leaves}
use Rattle.wef_collector_serving.specs.ByRows.{AnswersBy, AreGood, Goes, Kept, LeavesBy, LiesWithin, TakenWithin, error_of, is_error, is_error_name, kept_of}
use Rattle.wef_collector_serving.specs.Laws.{AreAnsweredOver, AreCounted, ConnectionsGoByRows, IsServedOver, RequestsGoByRows, ServesBy}

-- ---- one call of the collector

made : {T : Type 0} (tell : T → Said) (given answer : T) (e : Effect) (found left : Rows) → Makes e found left → answer ≡ given → (tell answer ≡ said_where tell given e) × (left ≡ rows_by e found)
made tell given answer (Ok changes) found left makes is = (ap tell is, makes)
made tell given answer (Err fault) found left makes is = absurd makes

refused : {T : Type 0} (tell : T → Said) (given : T) (e : Effect) (fault : CollectorFault) (found left : Rows) → e ≡ Err fault → left ≡ found → (Fault (fault_for fault) ≡ said_where tell given e) × (left ≡ rows_by e found)
refused tell given e fault found left is same =
    subst (λ (e : Effect). (Fault (fault_for fault) ≡ said_where tell given e) × (left ≡ rows_by e found)) (sym is) (refl, same)

-- what is said of a call, and the rows then, as the rows give them; or the store failed
abbrev GoesSo : {T : Type 0} → (T → Said) → (Rows → T) → (Rows → Effect) → Said → Rows → Rows → Type 0
GoesSo tell gives effect said found left =
    ((said ≡ said_where tell (gives found) (effect found)) × (left ≡ rows_by (effect found) found)) ⊎ ((said ≡ Fault the.InternalError) × MayLeave effect left found)

module _ {T : Type 0} (tell : T → Said) (gives : Rows → T) (effect : Rows → Effect) (said : Said) (found left : Rows) where
  own_goes : (fault : CollectorFault) → said ≡ Fault (fault_for fault) → (effect found ≡ Err fault) × (left ≡ found) → GoesSo tell gives effect said found left
  own_goes fault is goes = let as_refused = refused tell (gives found) (effect found) fault found left goes.0 goes.1 in inl (is ∙ as_refused.0, as_refused.1)

  call_goes : (done : Result T CollectorFault) → IfErr done IsAnswered → said ≡ said_with tell done → GoesOver collector_store effect gives done found left → GoesSo tell gives effect said found left
  call_goes (Ok given) answered is goes = let as_made = made tell (gives found) given (effect found) found left goes.0 goes.1 in inl (is ∙ as_made.0, as_made.1)
  call_goes (Err NoSubscription) answered is goes = own_goes NoSubscription is goes
  call_goes (Err Ended) answered is goes = own_goes Ended is goes
  call_goes (Err NotWellFormed) answered is goes = own_goes NotWellFormed is goes
  call_goes (Err Failed) answered is goes = inr (is, goes)
  call_goes (Err NoMemory) answered is goes = absurd answered
  call_goes (Err Exists) answered is goes = absurd answered
  call_goes (Err TooMany) answered is goes = absurd answered
  call_goes (Err NotAsked) answered is goes = absurd answered
  call_goes (Err Full) answered is goes = absurd answered

module _ {T : Type 0} (tell : T → Said) (gives : Rows → T) (effect : Rows → Effect) (done : Result T CollectorFault) (s t : Store) (last : Rows)
    (call : IsCall collector_store AreFormed effect gives done s t) (lawful : IsLawful t) (opened : s.opened ≡ true) (found : MayFind t last) where
  abbrev before : (rows : Rows) × IfSome s.images (λ old. IsOneOf old rows) × GoesOver collector_store effect gives done rows last
  before = which_found (λ rows. GoesOver collector_store effect gives done rows last) s.images (goes_over collector_store AreFormed effect gives s t last done call lawful found)

  call_back : (said : Said) → IfErr done IsAnswered → said ≡ said_with tell done → (first : Rows) × MayFind s first × GoesSo tell gives effect said first last
  call_back said answered is = (before.0, told_before s t before.0 last lawful opened call.untold found before.1, call_goes tell gives effect said before.0 last done answered is before.2)

  leave_back : (first : Rows) × MayFind s first × MayLeave effect last first
  leave_back = (before.0, told_before s t before.0 last lawful opened call.untold found before.1, may_leave collector_store effect gives done before.0 last before.2)

-- a failure of the store is answered
failures_answered : {T : Type 0} (done : Result T CollectorFault) → IfErr done IsFailure → IfErr done IsAnswered
failures_answered (Ok given) failure = tt
failures_answered (Err Failed) failure = tt
failures_answered (Err NoMemory) failure = absurd failure
failures_answered (Err NoSubscription) failure = absurd failure
failures_answered (Err Exists) failure = absurd failure
failures_answered (Err Ended) failure = absurd failure
failures_answered (Err NotWellFormed) failure = absurd failure
failures_answered (Err TooMany) failure = absurd failure
failures_answered (Err NotAsked) failure = absurd failure
failures_answered (Err Full) failure = absurd failure

-- ---- what was heard

module _ (host : List ℕ) (moment : ℕ) where
  steps_back : (asked : Asked) (said : Said) (s t : Store) (last : Rows) → Steps host asked moment said s t → IsLawful t → s.opened ≡ true → MayFind t last
      → (first : Rows) × MayFind s first × Goes host asked moment said first last
  steps_back (Refused name) said s t last stepped lawful opened found = (last, subst (λ (x : Store). MayFind x last) stepped.1 found, inl (stepped.0, refl))
  steps_back (Enumerate name) said s t last (done, call, answered, is) lawful opened found =
      call_back Offers (λ rows. offers rows name host) no_effect done s t last call lawful opened found said (failures_answered done answered) is
  steps_back (Unread u) said s t last ((done, call, answered, is), fault) lawful opened found =
      call_back (batch_said false) (λ _. tt) (effect_in (Unread u) moment) done s t last call lawful opened found said answered is
  steps_back (Take u name batch) said s t last (done, call, answered, is) lawful opened found =
      call_back (batch_said batch.ack_wanted) (λ _. tt) (effect_in (Take u name batch) moment) done s t last call lawful opened found said answered is
  steps_back (Heartbeat u name ack) said s t last (done, call, answered, is) lawful opened found =
      call_back (batch_said ack) (λ _. tt) (effect_in (Heartbeat u name ack) moment) done s t last call lawful opened found said answered is
  steps_back (UnreadEnd u) said s t last ((done, call, answered, is), fault) lawful opened found =
      call_back (batch_said false) (λ _. tt) (effect_in (UnreadEnd u) moment) done s t last call lawful opened found said answered is
  steps_back (asks.Ended u name identifier) said s t last (done, call, answered, is) lawful opened found =
      call_back (batch_said false) (λ _. tt) (effect_in (asks.Ended u name identifier) moment) done s t last call lawful opened found said answered is

  stepped_back : (asked : Asked) (s t : Store) (last : Rows) → HasStepped host asked moment s t → IsLawful t → s.opened ≡ true → MayFind t last
      → (first : Rows) × MayFind s first × MayLeave (effect_in asked moment) last first
  stepped_back (Refused name) s t last same lawful opened found = (last, subst (λ (x : Store). MayFind x last) same found, inl refl)
  stepped_back (Enumerate name) s t last (done, call, refusal) lawful opened found = leave_back Offers (λ rows. offers rows name host) no_effect done s t last call lawful opened found
  stepped_back (Unread u) s t last (done, call) lawful opened found = leave_back (batch_said false) (λ _. tt) (effect_in (Unread u) moment) done s t last call lawful opened found
  stepped_back (Take u name batch) s t last (done, call) lawful opened found = leave_back (batch_said batch.ack_wanted) (λ _. tt) (effect_in (Take u name batch) moment) done s t last call lawful opened found
  stepped_back (Heartbeat u name ack) s t last (done, call) lawful opened found = leave_back (batch_said ack) (λ _. tt) (effect_in (Heartbeat u name ack) moment) done s t last call lawful opened found
  stepped_back (UnreadEnd u) s t last (done, call) lawful opened found = leave_back (batch_said false) (λ _. tt) (effect_in (UnreadEnd u) moment) done s t last call lawful opened found
  stepped_back (asks.Ended u name identifier) s t last (done, call) lawful opened found =
      leave_back (batch_said false) (λ _. tt) (effect_in (asks.Ended u name identifier) moment) done s t last call lawful opened found

  -- what goes by rows leaves them as they were or with what it changes
  goes_leave : (asked : Asked) (said : Said) (found left : Rows) → Goes host asked moment said found left → MayLeave (effect_in asked moment) left found
  goes_leave asked said found left (inl (is, same)) = by (effect_in asked moment found) same
    where
      by : (e : Effect) → left ≡ rows_by e found → (left ≡ found) ⊎ Makes e found left
      by (Ok changes) same = inr same
      by (Err fault) same = inl same
  goes_leave asked said found left (inr (is, may)) = may

  -- ---- a store that was opened stays so, and rows of their form stay so

  steps_open : (asked : Asked) (said : Said) (s t : Store) → Steps host asked moment said s t → s.opened ≡ true → t.opened ≡ true
  steps_open (Refused name) said s t stepped opened = ap (λ (x : Store). x.opened) stepped.1 ∙ opened
  steps_open (Enumerate name) said s t stepped opened = stepped.1.opened opened
  steps_open (Unread u) said s t stepped opened = stepped.0.1.opened opened
  steps_open (Take u name batch) said s t stepped opened = stepped.1.opened opened
  steps_open (Heartbeat u name ack) said s t stepped opened = stepped.1.opened opened
  steps_open (UnreadEnd u) said s t stepped opened = stepped.0.1.opened opened
  steps_open (asks.Ended u name identifier) said s t stepped opened = stepped.1.opened opened

  stepped_open : (asked : Asked) (s t : Store) → HasStepped host asked moment s t → s.opened ≡ true → t.opened ≡ true
  stepped_open (Refused name) s t same opened = ap (λ (x : Store). x.opened) same ∙ opened
  stepped_open (Enumerate name) s t stepped opened = stepped.1.opened opened
  stepped_open (Unread u) s t stepped opened = stepped.1.opened opened
  stepped_open (Take u name batch) s t stepped opened = stepped.1.opened opened
  stepped_open (Heartbeat u name ack) s t stepped opened = stepped.1.opened opened
  stepped_open (UnreadEnd u) s t stepped opened = stepped.1.opened opened
  stepped_open (asks.Ended u name identifier) s t stepped opened = stepped.1.opened opened

  good_then : (s t : Store) (first : Rows) → MayFind s first → StayFormed AreFormed s t → AreGood s → AreGood t
  good_then s t first found formed good = by s.images found formed good
    where
      by : (o : Option (List Rows)) → WhereTold o (λ old. IsOneOf old first) → IfSome o (λ old. AllByRecursion AreFormed old → IfSome t.images (AllByRecursion AreFormed)) → IfSome o (AllByRecursion AreFormed)
          → IfSome t.images (AllByRecursion AreFormed)
      by None found formed good = absurd found
      by (Some old) found formed good = formed good

  steps_good : (asked : Asked) (said : Said) (s t : Store) (first : Rows) → Steps host asked moment said s t → MayFind s first → AreGood s → AreGood t
  steps_good (Refused name) said s t first stepped found good = subst AreGood (sym stepped.1) good
  steps_good (Enumerate name) said s t first stepped found good = good_then s t first found stepped.1.formed good
  steps_good (Unread u) said s t first stepped found good = good_then s t first found stepped.0.1.formed good
  steps_good (Take u name batch) said s t first stepped found good = good_then s t first found stepped.1.formed good
  steps_good (Heartbeat u name ack) said s t first stepped found good = good_then s t first found stepped.1.formed good
  steps_good (UnreadEnd u) said s t first stepped found good = good_then s t first found stepped.0.1.formed good
  steps_good (asks.Ended u name identifier) said s t first stepped found good = good_then s t first found stepped.1.formed good

  stepped_good : (asked : Asked) (s t : Store) (first : Rows) → HasStepped host asked moment s t → MayFind s first → AreGood s → AreGood t
  stepped_good (Refused name) s t first same found good = subst AreGood (sym same) good
  stepped_good (Enumerate name) s t first stepped found good = good_then s t first found stepped.1.formed good
  stepped_good (Unread u) s t first stepped found good = good_then s t first found stepped.1.formed good
  stepped_good (Take u name batch) s t first stepped found good = good_then s t first found stepped.1.formed good
  stepped_good (Heartbeat u name ack) s t first stepped found good = good_then s t first found stepped.1.formed good
  stepped_good (UnreadEnd u) s t first stepped found good = good_then s t first found stepped.1.formed good
  stepped_good (asks.Ended u name identifier) s t first stepped found good = good_then s t first found stepped.1.formed good

-- ---- bookmarks

-- rows that an effect makes are those with a batch, or as they were
abbrev RisesBy : Rows → Rows → Effect → Type 0
RisesBy found left e = Makes e found left → BookmarksRise found left

nothing_rises : (found left : Rows) → left ≡ found → BookmarksRise found left
nothing_rises found left same = λ u s c. let is : bookmark_at left u s c ≡ bookmark_at found u s c = ap (λ (rows : Rows). bookmark_at rows u s c) same in omega arith

-- what taking a batch makes
taking_rises : (found left : Rows) (u s : List ℕ) (channels : List (List ℕ)) (batch : Batch) (moment : ℕ) → left ≡ applied (batch_changes found u s channels batch moment) found → BookmarksRise found left
unfolding taken
taking_rises found left u s channels batch moment is =
    subst (λ (rows : Rows). BookmarksRise found rows) (sym is) (λ v r c. bookmark_never_falls found u s channels ((batch, moment) ∷ []) v r c)

taking_reaches : (found left : Rows) (u s : List ℕ) (about : Subscription) (batch : Batch) (moment : ℕ) → left ≡ applied (batch_changes found u s (channels_read about) batch moment) found → IsReached left u s about batch
unfolding taken
taking_reaches found left u s about batch moment is =
    subst (λ (rows : Rows). IsReached rows u s about batch) (sym is)
    (λ c t listed reached.
    let moves : bookmark_at (taken found u s (channels_read about) batch moment) u s c ≡ max (bookmark_at found u s c) t =
    bookmark_moves found u s (channels_read about) ((batch, moment) ∷ []) c listed ∙ ap (moved (bookmark_at found u s c)) reached in
    omega arith)

-- a source that is heard moves no bookmark
hearing_rises : (found left : Rows) (u s : List ℕ) (moment : ℕ) → left ≡ applied (heard_changes found u s moment) found → BookmarksRise found left
hearing_rises found left u s moment is = λ v r c.
    let same : bookmark_at left v r c ≡ bookmark_at found v r c = ap (λ (rows : Rows). bookmark_at rows v r c) is ∙ bookmark_by_hearing found u s moment v r c in
    omega arith

-- the end of a lease changes no row of another key
others_stay : (q : Key) (u s identifier : List ℕ) (kept : Option Lease) (cell : Option Cell) → hits (lease_key u s) q ≡ false → found_after (delete_named u s identifier kept) q cell ≡ cell
others_stay q u s identifier None cell other = refl
others_stay q u s identifier (Some kept) cell other = found_if_other (names.same kept.identifier identifier) (delete_lease u s) q cell other

-- so it moves none
ending_rises : (found left : Rows) (u s identifier : List ℕ) → left ≡ applied (end_lease found u s identifier) found → BookmarksRise found left
ending_rises found left u s identifier is = λ v r c.
    let q = bookmark_key v r c in
    let stays = get-applied (end_lease found u s identifier) found q ∙ others_stay q u s identifier (lease_at found u s) (finite.get found q) refl in
    let same : bookmark_at left v r c ≡ bookmark_at found v r c =
    ap (λ (rows : Rows). bookmark_at rows v r c) is ∙ ap (λ (cell : Option Cell). unwrap_or (option_map (λ (x : Cell). x.value) cell) 0) stays in
    omega arith

effect_rises : (asked : Asked) (moment : ℕ) (found left : Rows) → RisesBy found left (effect_in asked moment found)
effect_rises (Refused name) moment found left = λ made. nothing_rises found left made
effect_rises (Enumerate name) moment found left = λ made. nothing_rises found left made
effect_rises (Unread u) moment found left = by (standing found u)
  where
    by : (o : Standing) → RisesBy found left (unread_by o)
    by stands.Unknown = λ made. absurd made
    by (stands.Ended about) = λ made. absurd made
    by (stands.Live about) = λ made. absurd made
effect_rises (Take u s batch) moment found left = by (standing found u)
  where
    by_form : (about : Subscription) (t : Bool) → RisesBy found left (cond t (Ok (batch_changes found u s (channels_read about) batch moment)) (Err NotWellFormed))
    by_form about true = λ made. taking_rises found left u s (channels_read about) batch moment made
    by_form about false = λ made. absurd made

    by : (o : Standing) → RisesBy found left (take_by o found u s batch moment)
    by stands.Unknown = λ made. absurd made
    by (stands.Ended about) = λ made. absurd made
    by (stands.Live about) = by_form about (is_well_formed (channels_read about) batch)
effect_rises (Heartbeat u s ack) moment found left = by (standing found u)
  where
    by : (o : Standing) → RisesBy found left (hear_by o found u s moment)
    by stands.Unknown = λ made. absurd made
    by (stands.Ended about) = λ made. absurd made
    by (stands.Live about) = λ made. hearing_rises found left u s moment made
effect_rises (UnreadEnd u) moment found left = by (is_known (standing found u))
  where
    by : (known : Bool) → RisesBy found left (cond known (Err NotWellFormed) (Err NoSubscription))
    by true = λ made. absurd made
    by false = λ made. absurd made
effect_rises (asks.Ended u s identifier) moment found left = by (is_known (standing found u))
  where
    by : (known : Bool) → RisesBy found left (cond known (Ok (end_lease found u s identifier)) (Err NoSubscription))
    by true = λ made. ending_rises found left u s identifier made
    by false = λ made. absurd made

leaving_rises : (asked : Asked) (moment : ℕ) (found left : Rows) → MayLeave (effect_in asked moment) left found → BookmarksRise found left
leaving_rises asked moment found left (inl same) = nothing_rises found left same
leaving_rises asked moment found left (inr made) = effect_rises asked moment found left made

pub both_rise : (a b c : Rows) → BookmarksRise a b → BookmarksRise b c → BookmarksRise a c
both_rise a b c first next = λ u s v. let here = first u s v in let there = next u s v in omega (arith, here, there)

-- ---- batches that were taken

-- it isn't said that one was taken
abbrev IsFaulty : Said → Type 0
IsFaulty Ack = ⊥
IsFaulty Quiet = ⊥
IsFaulty (Offers list) = Unit {0}
IsFaulty (Fault name) = Unit {0}

untaken : (final rows : Rows) (asked : Asked) (said : Said) → IsFaulty said → TakenWithin final asked said rows
untaken final rows (Refused name) said faulty = tt
untaken final rows (Enumerate name) said faulty = tt
untaken final rows (Unread u) said faulty = tt
untaken final rows (Take u s batch) Ack faulty = absurd faulty
untaken final rows (Take u s batch) Quiet faulty = absurd faulty
untaken final rows (Take u s batch) (Offers list) faulty = tt
untaken final rows (Take u s batch) (Fault name) faulty = tt
untaken final rows (Heartbeat u s ack) said faulty = tt
untaken final rows (UnreadEnd u) said faulty = tt
untaken final rows (asks.Ended u s identifier) said faulty = tt

within_so : (final rows : Rows) (u s : List ℕ) (batch : Batch) (said : Said) → LiesWithin final rows u s batch → TakenWithin final (Take u s batch) said rows
within_so final rows u s batch Ack lies = lies
within_so final rows u s batch Quiet lies = lies
within_so final rows u s batch (Offers list) lies = tt
within_so final rows u s batch (Fault name) lies = tt

module _ (final found left : Rows) (rises : BookmarksRise left final) where
  reaches_final : (u s : List ℕ) (about : Subscription) (batch : Batch) → IsReached left u s about batch → IsReached final u s about batch
  reaches_final u s about batch reached = λ c t listed is. let here = reached c t listed is in let later = rises u s c in omega (arith, here, later)

  batch_within : (u s : List ℕ) (batch : Batch) (moment : ℕ) (said : Said) → said ≡ said_where (batch_said batch.ack_wanted) tt (take_effect found u s batch moment)
      → left ≡ rows_by (take_effect found u s batch moment) found → TakenWithin final (Take u s batch) said found
  batch_within u s batch moment said is same = by (standing found u) refl is same
    where
      refused_so : (fault : CollectorFault) → said ≡ Fault (fault_for fault) → TakenWithin final (Take u s batch) said found
      refused_so fault is = subst (λ (x : Said). TakenWithin final (Take u s batch) x found) (sym is) tt

      by_form : (about : Subscription) → standing found u ≡ stands.Live about → (t : Bool)
          → said ≡ said_where (batch_said batch.ack_wanted) tt (cond t (Ok (batch_changes found u s (channels_read about) batch moment)) (Err NotWellFormed))
          → left ≡ rows_by (cond t (Ok (batch_changes found u s (channels_read about) batch moment)) (Err NotWellFormed)) found → TakenWithin final (Take u s batch) said found
      by_form about live true is made = within_so final found u s batch said (about, live, reaches_final u s about batch (taking_reaches found left u s about batch moment made))
      by_form about live false is made = refused_so NotWellFormed is

      by : (o : Standing) → standing found u ≡ o → said ≡ said_where (batch_said batch.ack_wanted) tt (take_by o found u s batch moment) → left ≡ rows_by (take_by o found u s batch moment) found
          → TakenWithin final (Take u s batch) said found
      by stands.Unknown stood is made = refused_so NoSubscription is
      by (stands.Ended about) stood is made = refused_so Ended is
      by (stands.Live about) stood is made = by_form about stood (is_well_formed (channels_read about) batch) is made

  goes_within : (host : List ℕ) (asked : Asked) (moment : ℕ) (said : Said) → Goes host asked moment said found left → TakenWithin final asked said found
  goes_within host asked moment said (inr (is, may)) = untaken final found asked said (subst IsFaulty (sym is) tt)
  goes_within host (Refused name) moment said (inl (is, same)) = tt
  goes_within host (Enumerate name) moment said (inl (is, same)) = tt
  goes_within host (Unread u) moment said (inl (is, same)) = tt
  goes_within host (Take u s batch) moment said (inl (is, same)) = batch_within u s batch moment said is same
  goes_within host (Heartbeat u s ack) moment said (inl (is, same)) = tt
  goes_within host (UnreadEnd u) moment said (inl (is, same)) = tt
  goes_within host (asks.Ended u s identifier) moment said (inl (is, same)) = tt

-- ---- how often the store failed

name_is : (name : FaultName) → is_error_name name ≡ true → name ≡ the.InternalError
name_is the.InternalError is = refl
name_is the.DeliveryModeRequestedUnavailable is = cc
name_is the.FilteringRequestedUnavailable is = cc
name_is the.InvalidExpirationTime is = cc
name_is the.InvalidMessage is = cc
name_is the.UnableToRenew is = cc
name_is the.ActionNotSupported is = cc
name_is the.DestinationUnreachable is = cc
name_is the.MessageInformationHeaderRequired is = cc
name_is the.InvalidBookmark is = cc
name_is the.EncodingLimit is = cc
name_is the.InvalidEnumerationContext is = cc
name_is the.MustUnderstand is = cc
name_is (the.Other text) is = cc

error_is : (said : Said) → is_error said ≡ true → said ≡ Fault the.InternalError
error_is (Fault name) is = ap Fault (name_is name is)
error_is Ack is = cc
error_is Quiet is = cc
error_is (Offers list) is = cc

count_up : (said : Said) (a b : ℕ) → (said ≡ Fault the.InternalError → Rose a b) → a ≤ b → b < 18446744073709551615 → a + error_of said ≤ b
count_up said a b rose later below = by (is_error said) refl
  where
    by : (t : Bool) → is_error said ≡ t → a + cond t 1 0 ≤ b
    by true is = let up : Rose a b = rose (error_is said is) in omega arith
    by false is = omega arith

-- of a store whose rows are of their form a cause is a fault that was counted
surely : (Counted : Type 0) (rows : Option Rows) (images : Option (List Rows)) (last : Rows) → is_some images ≡ is_some rows → IfSome images (λ left. WhereTold rows (IsOneOf left))
    → WhereTold images (λ left. IsOneOf left last) → IfSome images (AllByRecursion AreFormed) → IfSome rows (λ rows. AreFormed rows → Counted) → Counted
surely Counted rows None last both among found good cause = absurd found
surely Counted None (Some images) last both among found good cause = let no : true ≡ false = both in cc
surely Counted (Some rows) (Some images) last both among found good cause = cause (one_of AreFormed images rows among good)

-- no more answers say so
pub from_none : (n : ℕ) → n ≡ 0 + n
from_none n = omega arith

-- ---- an answer

-- An answer over rows, back from those that are found behind it.
record IsAnsweredOver (clock : Option ℕ) (s : KnownCollector) (request : HttpRequest) (answer : Answer) (t : KnownCollector) (final last : Rows) : Type 0 where
  first : Rows
  found : MayFind s.store first
  errors : ℕ
  answers : (before : ℕ) → AnswersAt clock (AnswersBy final) (kept_of first s before) request answer (kept_of last t (errors + before))
  counts : AreCounted s t errors
  rises : BookmarksRise first last

-- the same without an answer
record IsLeftOver (clock : Option ℕ) (s : KnownCollector) (request : HttpRequest) (t : KnownCollector) (last : Rows) : Type 0 where
  first : Rows
  found : MayFind s.store first
  leaves : (before : ℕ) → LeavesAt clock LeavesBy (kept_of first s before) request (kept_of last t before)
  counts : AreCounted s t 0
  rises : BookmarksRise first last

module _ (clock : Option ℕ) where
  answer_back : (s : KnownCollector) (request : HttpRequest) (answer : Answer) (t : KnownCollector) (final last : Rows) → AnswersAt clock Answers s request answer t → s.store.opened ≡ true → MayFind t.store last → BookmarksRise last final
      → IsAnsweredOver clock s request answer t final last
  answer_back s request answer t final last (moment, told, ((heard, hears, is), lawful)) opened found rises =
      let back = steps_back request.host moment heard.asked is.said s.store t.store last is.stepped lawful opened found in
      let good = steps_good request.host moment heard.asked is.said s.store t.store back.0 is.stepped back.1 in
      record {
        first = back.0;
        found = back.1;
        errors = error_of is.said;
        answers = λ before. (moment, told, (heard, hears, record { said = is.said; goes = back.2; written = is.written; drawn = is.drawn; counted = refl; within = goes_within final back.0 last rises request.host heard.asked moment is.said back.2 }));
        counts = record {
          opened = steps_open request.host moment heard.asked is.said s.store t.store is.stepped opened;
          good = good;
          counted = λ formed below. count_up is.said s.store.faults t.store.faults
              (λ internal. surely (Rose s.store.faults t.store.faults) t.store.rows t.store.images last lawful.both lawful.among found (good formed)
              (internal_errors_have_a_cause request.host request.target request.charset request.charset request.body heard moment answer s.memory t.memory s.store t.store hears.0 is internal refl))
              (answer_counts moment s request answer t ((heard, hears, is), lawful)) below;
        };
        rises = leaving_rises heard.asked moment back.0 last (goes_leave request.host moment heard.asked is.said back.0 last back.2);
      }

  uncounted : (s t : KnownCollector) → t.store.opened ≡ true → (AreGood s.store → AreGood t.store) → s.store.faults ≤ t.store.faults → AreCounted s t 0
  uncounted s t opened good later = record { opened = opened; good = good; counted = λ formed below. omega arith }

  left_back : (s : KnownCollector) (request : HttpRequest) (t : KnownCollector) (last : Rows) → LeavesAt clock Leaves s request t → s.store.opened ≡ true → MayFind t.store last → IsLeftOver clock s request t last
  left_back s request t last (moment, told, (inl same, lawful)) opened found = record {
    first = last;
    found = subst (λ (c : KnownCollector). MayFind c.store last) same found;
    leaves = λ before. (moment, told, inl (ap (λ (c : KnownCollector). kept_of last c before) same));
    counts = uncounted s t (ap (λ (c : KnownCollector). c.store.opened) same ∙ opened) (λ good. subst (λ (c : KnownCollector). AreGood c.store) (sym same) good) (leaving_counts moment s request t (inl same, lawful));
    rises = nothing_rises last last refl;
  }
  left_back s request t last (moment, told, (inr (heard, hears, inl (stepped, same)), lawful)) opened found =
      let back = stepped_back request.host moment heard.asked s.store t.store last stepped lawful opened found in
      record {
        first = back.0;
        found = back.1;
        leaves = λ before. (moment, told, inr (heard, hears, record { rows = back.2; memory = (zero, same); errors = refl }));
        counts = uncounted s t (stepped_open request.host moment heard.asked s.store t.store stepped opened) (stepped_good request.host moment heard.asked s.store t.store back.0 stepped back.1)
            (leaving_counts moment s request t (inr (heard, hears, inl (stepped, same)), lawful));
        rises = leaving_rises heard.asked moment back.0 last back.2;
      }
  left_back s request t last (moment, told, (inr (heard, hears, inr (said, stepped, (draws, few, drawn))), lawful)) opened found =
      let back = steps_back request.host moment heard.asked said s.store t.store last stepped lawful opened found in
      record {
        first = back.0;
        found = back.1;
        leaves = λ before. (moment, told, inr (heard, hears, record { rows = goes_leave request.host moment heard.asked said back.0 last back.2; memory = (draws, drawn); errors = refl }));
        counts = uncounted s t (steps_open request.host moment heard.asked said s.store t.store stepped opened) (steps_good request.host moment heard.asked said s.store t.store back.0 stepped back.1)
            (leaving_counts moment s request t (inr (heard, hears, inr (said, stepped, (draws, few, drawn))), lawful));
        rises = leaving_rises heard.asked moment back.0 last (goes_leave request.host moment heard.asked said back.0 last back.2);
      }

  pub nothing_counted : (s : KnownCollector) → s.store.opened ≡ true → AreCounted s s 0
  nothing_counted s opened = uncounted s s opened (λ good. good) (omega arith)

  -- counts over two spans, one after the other
  pub both_counted : (s t u : KnownCollector) (m n : ℕ) → t.store.faults ≤ u.store.faults → AreCounted s t m → AreCounted t u n → AreCounted s u (n + m)
  both_counted s t u m n later first next = record {
    opened = next.opened;
    good = λ good. next.good (first.good good);
    counted = λ good below.
        let here : s.store.faults + m ≤ t.store.faults = first.counted good (omega (arith, later, below)) in
        let there : t.store.faults + n ≤ u.store.faults = next.counted (first.good good) below in
        omega (arith, here, there);
  }

  -- ---- connections

  answered_later : (s : KnownCollector) (request : HttpRequest) (answer : Answer) (t : KnownCollector) → AnswersAt clock Answers s request answer t → s.store.faults ≤ t.store.faults
  answered_later s request answer t (moment, told, answers) = answer_counts moment s request answer t answers

  answered_open : (s : KnownCollector) (request : HttpRequest) (answer : Answer) (t : KnownCollector) → AnswersAt clock Answers s request answer t → s.store.opened ≡ true → t.store.opened ≡ true
  answered_open s request answer t (moment, told, ((heard, hears, is), lawful)) opened = steps_open request.host moment heard.asked is.said s.store t.store is.stepped opened

  module _ (side : Side) where
    -- what was served behind an answer, with that answer in front of it
    behind : (bytes rest more : List ℕ) (s t u : KnownCollector) (request : HttpRequest) (answer : Answer) (e : ConnectionEnd) (final last : Rows) → IsRequest side bytes request rest → request.keep ≡ true
        → t.store.faults ≤ u.store.faults → (then_on : IsServedOver side clock rest t more u e final last) → IsAnsweredOver clock s request answer t final then_on.first
        → IsServedOver side clock bytes s (response_to request answer ++ more) u e final last
    behind bytes rest more s t u request answer e final last is keep later then_on here = record {
      first = here.first;
      found = here.found;
      errors = then_on.errors + here.errors;
      serves = λ before.
          let same : then_on.errors + (here.errors + before) ≡ (then_on.errors + here.errors) + before = omega arith in
          subst (λ (n : ℕ). Serves side (AnswersAt clock (AnswersBy final)) (LeavesAt clock LeavesBy) bytes (kept_of here.first s before) (response_to request answer ++ more) (kept_of last u n) e) same
          (goes_on bytes rest more (kept_of here.first s before) (kept_of then_on.first t (here.errors + before)) (kept_of last u (then_on.errors + (here.errors + before))) request answer e is (here.answers before) keep
          (then_on.serves (here.errors + before)));
      counts = both_counted s t u here.errors then_on.errors later here.counts then_on.counts;
      rises = both_rise here.first then_on.first last here.rises then_on.rises;
    }

    -- nothing was answered
    unchanged : (bytes sent : List ℕ) (s : KnownCollector) (over : ConnectionEnd) (final last : Rows) → s.store.opened ≡ true → MayFind s.store last
        → ((k : Kept) → Serves side (AnswersAt clock (AnswersBy final)) (LeavesAt clock LeavesBy) bytes k sent k over) → IsServedOver side clock bytes s sent s over final last
    unchanged bytes sent s over final last opened found serves = record {
      first = last;
      found = found;
      errors = 0;
      serves = λ before.
          subst (λ (n : ℕ). Serves side (AnswersAt clock (AnswersBy final)) (LeavesAt clock LeavesBy) bytes (kept_of last s before) sent (kept_of last s n) over) (from_none before) (serves (kept_of last s before));
      counts = nothing_counted s opened;
      rises = nothing_rises last last refl;
    }

    served : {bytes : List ℕ} {s : KnownCollector} {sent : List ℕ} {t : KnownCollector} {over : ConnectionEnd}
        → ServesBy Answers side clock bytes s sent t over → s.store.opened ≡ true → (final last : Rows) → MayFind t.store last → BookmarksRise last final → IsServedOver side clock bytes s sent t over final last
    served (finishes bytes s is) opened final last found rises = unchanged bytes _ s _ final last opened found (λ k. finishes bytes k is)
    served (cuts bytes s is) opened final last found rises = unchanged bytes _ s _ final last opened found (λ k. cuts bytes k is)
    served (refuses bytes s e status is told) opened final last found rises = unchanged bytes _ s _ final last opened found (λ k. refuses bytes k e status is told)
    served (breaks bytes s e is) opened final last found rises = unchanged bytes _ s _ final last opened found (λ k. breaks bytes k e is)
    served (refuses_part bytes s e status n is told) opened final last found rises = unchanged bytes _ s _ final last opened found (λ k. refuses_part bytes k e status n is told)
    served (closes bytes rest s t request answer is answers keep) opened final last found rises =
        let back = answer_back s request answer t final last answers opened found rises in
        record {
          first = back.first;
          found = back.found;
          errors = back.errors;
          serves = λ before. closes bytes rest (kept_of back.first s before) (kept_of last t (back.errors + before)) request answer is (back.answers before) keep;
          counts = back.counts;
          rises = back.rises;
        }
    served (goes_on bytes rest more s t u request answer e is answers keep more_served) opened final last found rises =
        let then_on = served more_served (answered_open s request answer t answers opened) final last found rises in
        behind bytes rest more s t u request answer e final last is keep (faults_never_fall side clock rest t more u e more_served) then_on (answer_back s request answer t final then_on.first answers opened then_on.found (both_rise then_on.first last final then_on.rises rises))
    served (answers_part bytes rest s t request answer n is answers) opened final last found rises =
        let back = answer_back s request answer t final last answers opened found rises in
        record {
          first = back.first;
          found = back.found;
          errors = back.errors;
          serves = λ before. answers_part bytes rest (kept_of back.first s before) (kept_of last t (back.errors + before)) request answer n is (back.answers before);
          counts = back.counts;
          rises = back.rises;
        }
    served (leaves bytes rest s t request is (inl left)) opened final last found rises =
        let back = left_back s request t last left opened found in
        record {
          first = back.first;
          found = back.found;
          errors = 0;
          serves = λ before.
              subst (λ (n : ℕ). Serves side (AnswersAt clock (AnswersBy final)) (LeavesAt clock LeavesBy) bytes (kept_of back.first s before) [] (kept_of last t n) over.NoMemory) (from_none before)
              (leaves bytes rest (kept_of back.first s before) (kept_of last t before) request is (inl (back.leaves before)));
          counts = back.counts;
          rises = back.rises;
        }
    served (leaves bytes rest s t request is (inr (answer, answers))) opened final last found rises =
        let back = answer_back s request answer t final last answers opened found rises in
        record {
          first = back.first;
          found = back.found;
          errors = back.errors;
          serves = λ before. leaves bytes rest (kept_of back.first s before) (kept_of last t (back.errors + before)) request is (inr (answer, back.answers before));
          counts = back.counts;
          rises = back.rises;
        }

  -- ---- requests, whatever they came in

  abbrev InTurn : KnownCollector → KnownCollector → Type 0
  InTurn s t = RespondsInTurn (AnswersAt clock Answers) (LeavesAt clock Leaves) s t

  left_open : (s : KnownCollector) (request : HttpRequest) (t : KnownCollector) → LeavesAt clock Leaves s request t → s.store.opened ≡ true → t.store.opened ≡ true
  left_open s request t (moment, told, (inl same, lawful)) opened = ap (λ (c : KnownCollector). c.store.opened) same ∙ opened
  left_open s request t (moment, told, (inr (heard, hears, inl (stepped, same)), lawful)) opened = stepped_open request.host moment heard.asked s.store t.store stepped opened
  left_open s request t (moment, told, (inr (heard, hears, inr (said, stepped, drawn)), lawful)) opened = steps_open request.host moment heard.asked said s.store t.store stepped opened

  pub turns_open : {s t : KnownCollector} → InTurn s t → s.store.opened ≡ true → t.store.opened ≡ true
  turns_open (to_none s) opened = opened
  turns_open (to_one_more s t u before (request, inl left)) opened = left_open t request u left (turns_open before opened)
  turns_open (to_one_more s t u before (request, inr (answer, answers))) opened = answered_open t request answer u answers (turns_open before opened)

  pub turns_later : {s t : KnownCollector} → InTurn s t → s.store.faults ≤ t.store.faults
  turns_later (to_none s) = omega arith
  turns_later (to_one_more s t u before (request, inl (moment, told, left))) =
      let here = turns_later before in let there = leaving_counts moment t request u left in omega (arith, here, there)
  turns_later (to_one_more s t u before (request, inr (answer, answers))) =
      let here = turns_later before in let there = answered_later t request answer u answers in omega (arith, here, there)

  answered_over : {s t : KnownCollector} → InTurn s t → s.store.opened ≡ true → (final last : Rows) → MayFind t.store last → BookmarksRise last final → AreAnsweredOver clock s t final last
  answered_over (to_none s) opened final last found rises = record {
    first = last;
    found = found;
    errors = 0;
    answers = λ before.
        subst (λ (n : ℕ). RespondsInTurn (AnswersAt clock (AnswersBy final)) (LeavesAt clock LeavesBy) (kept_of last s before) (kept_of last s n)) (from_none before) (to_none (kept_of last s before));
    counts = nothing_counted s opened;
    rises = nothing_rises last last refl;
  }
  answered_over (to_one_more s t u before_it (request, inl (moment, told, left))) opened final last found rises =
      let back = left_back t request u last (moment, told, left) (turns_open before_it opened) found in
      let front = answered_over before_it opened final back.first back.found (both_rise back.first last final back.rises rises) in
      record {
        first = front.first;
        found = front.found;
        errors = front.errors;
        answers = λ before.
            to_one_more (kept_of front.first s before) (kept_of back.first t (front.errors + before)) (kept_of last u (front.errors + before)) (front.answers before) (request, inl (back.leaves (front.errors + before)));
        counts = subst (AreCounted s u) (sym (from_none front.errors)) (both_counted s t u front.errors 0 (leaving_counts moment t request u left) front.counts back.counts);
        rises = both_rise front.first back.first last front.rises back.rises;
      }
  answered_over (to_one_more s t u before_it (request, inr (answer, answers))) opened final last found rises =
      let back = answer_back t request answer u final last answers (turns_open before_it opened) found rises in
      let front = answered_over before_it opened final back.first back.found (both_rise back.first last final back.rises rises) in
      record {
        first = front.first;
        found = front.found;
        errors = back.errors + front.errors;
        answers = λ before.
            let same : back.errors + (front.errors + before) ≡ (back.errors + front.errors) + before = omega arith in
            subst (λ (n : ℕ). RespondsInTurn (AnswersAt clock (AnswersBy final)) (LeavesAt clock LeavesBy) (kept_of front.first s before) (kept_of last u n)) same
            (to_one_more (kept_of front.first s before) (kept_of back.first t (front.errors + before)) (kept_of last u (back.errors + (front.errors + before))) (front.answers before)
            (request, inr (answer, back.answers (front.errors + before))));
        counts = both_counted s t u front.errors back.errors (answered_later t request answer u answers) front.counts back.counts;
        rises = both_rise front.first back.first last front.rises back.rises;
      }

pub connections_go_by_rows : ConnectionsGoByRows
connections_go_by_rows side clock bytes s sent t over final last served_so opened found rises = served clock side served_so opened final last found rises

pub requests_go_by_rows : RequestsGoByRows
requests_go_by_rows clock s t final last answered opened found rises = answered_over clock answered opened final last found rises
