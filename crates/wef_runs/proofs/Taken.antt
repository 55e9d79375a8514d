-- What a collector took is kept, deed by deed.
use Rattle.std.proofs.Common.{◌≡◌, ◌⊎◌, inl, inr, ℕ, ◌+◌, Bool, true, false, cond, List, [], ◌∷◌, ◌++◌, ap, sym, refl, subst, ◌∙◌, arith}
use Rattle.std.specs.List.{AllByRecursion}
use Rattle.std.specs.Prelude.{Option, Some, None, Ok, Err}
use Rattle.wef_batch.specs.WellFormed.{is_well_formed}
use Rattle.wef_batch.specs.declared.items.Batch.{Batch}
use Rattle.wef_collector.specs.Boots.{boot_of}
use Rattle.wef_collector.specs.Calls.{Effect, add_effect, end_by, end_effect, hear_by, take_by, take_effect, unread_by}
use Rattle.wef_collector.specs.Responses.{lease_changes, leasing_effect, leasing_of, waiting_effect}
use Rattle.wef_collector.specs.Taken.{batch_changes, heard_changes, put, taken}
use Rattle.wef_collector.specs.declared.responses.Leasing.{Leasing}
use Rattle.wef_collector.specs.declared.responses.Response.{Response}
use Rattle.wef_collector_leases.specs.Changes.{end_lease}
use Rattle.wef_collector_leases.specs.declared.waiting.Waiting.{Waiting}
use Rattle.wef_collector_rows.specs.Answers.{added_rows, channels_read, is_known, is_there}
use Rattle.wef_collector_rows.specs.Keys.{subscription_key}
use Rattle.wef_collector_rows.specs.Standing.{is_full, standing}
use Rattle.wef_collector_rows.specs.declared.faults.CollectorFault.{CollectorFault}
use Rattle.wef_collector_rows.specs.declared.faults.CollectorFault.TheVariants.{NoSubscription, Exists, Ended, NotWellFormed, TooMany}
use Rattle.wef_collector_rows.specs.declared.standings.Standing.{Standing}
use Rattle.wef_collector_rows.specs.declared.standings.Standing.TheVariants as stands
use Rattle.wef_collector_serving.specs.ByRows.{Goes}
use Rattle.wef_commands.specs.Laws.{StartsAtMost, started}
use Rattle.wef_documents.specs.Written.{document_text}
use Rattle.wef_eventing.specs.declared.subscriptions.Subscription.{Subscription}
use Rattle.wef_front_collector.specs.Replies.{rows_by}
use Rattle.wef_front_collector.specs.Steps.{batch_said, effect_in, fault_for, said_where}
use Rattle.wef_front_collector.specs.declared.hearing.Asked.{Asked}
use Rattle.wef_front_collector.specs.declared.hearing.Asked.TheVariants as asks
use Rattle.wef_front_collector.specs.declared.hearing.Asked.TheVariants.{Refused, Enumerate, Unread, Take, Heartbeat, UnreadEnd}
use Rattle.wef_front_collector.specs.declared.saying.Said.{Said}
use Rattle.wef_front_collector.specs.declared.saying.Said.TheVariants.{Ack, Quiet, Offers, Fault}
use Rattle.wef_keeper.specs.Calls.{Makes, MayLeave}
use Rattle.wef_keeper.specs.Rows.{Rows, applied}
use Rattle.wef_pairs.specs.Pairs.{about_of}
use Rattle.wef_promises.proofs.OtherRows.{hearing_aside, leasing_aside, noting_aside}
use Rattle.wef_safety.proofs.Aside.{booted_aside, grows_aside}
use Rattle.wef_safety.proofs.Growing.{RowsGrow}
use Rattle.wef_safety.proofs.RowMoves.{adding_grows, ending_grows, subscription_by_taking, taking_grows, taking_reaches}
use Rattle.wef_runs.specs.Deeds.{AreDone, Deed, Does, IsCut, IsWithin, Keeps, Stay, TakenIsWithin}
use Rattle.wef_runs.specs.Deeds.{Starts, Adds, Ends, Answers, Leaves, Requests, Takes}

-- ---- what stays behind a commit

same_stay : (found last : Rows) → last ≡ found → Stay found last
same_stay found last same = subst (λ (rows : Rows). Stay found rows) (sym same) (record { known = λ u about e. e; rises = λ u s c. omega arith })

-- rows that grew have kept all
grown : (found grew last : Rows) → last ≡ grew → RowsGrow found grew → Stay found last
grown found grew last is grows = subst (λ (rows : Rows). Stay found rows) (sym is) (record { known = grows.known; rises = grows.bookmarks })

pub both_stay : (a b c : Rows) → Stay a b → Stay b c → Stay a c
both_stay a b c first next = record {
  known = λ u about e. next.known u about (first.known u about e);
  rises = λ u s d. let here = first.rises u s d in let there = next.rises u s d in omega (arith, here, there);
}

-- rows that an effect makes have kept all of those before it
abbrev StaysBy : Rows → Rows → Effect → Type 0
StaysBy found last e = Makes e found last → Stay found last

start_stays : (found last : Rows) → StartsAtMost found last → Stay found last
start_stays found last (inl same) = same_stay found last same
start_stays found last (inr (starts, is)) = grown found (started found) last is (grows_aside (started found) found (booted_aside found (boot_of found + 1)))

module _ (found last : Rows) where
  add_stays : (s : Subscription) → StaysBy found last (add_effect found s)
  add_stays s = by (is_there found s.name) refl
    where
      changes : Effect
      changes = Ok (put (subscription_key s.name) 0 (document_text s) ∷ [])

      by_room : is_there found s.name ≡ false → (t : Bool) → StaysBy found last (cond t (Err TooMany) changes)
      by_room none true = λ made. absurd made
      by_room none false = λ made. grown found (added_rows found s) last made (adding_grows found s none)

      by : (t : Bool) → is_there found s.name ≡ t → StaysBy found last (cond t (Err Exists) (cond (is_full found) (Err TooMany) changes))
      by true there = λ made. absurd made
      by false none = by_room none (is_full found)

  end_stays : (u : List ℕ) → StaysBy found last (end_effect found u)
  end_stays u = by (standing found u) refl
    where
      by : (o : Standing) → standing found u ≡ o → StaysBy found last (end_by o found u)
      by stands.Unknown stood = λ made. absurd made
      by (stands.Ended about) stood = λ made. absurd made
      by (stands.Live about) stood = λ made. grown found _ last made (ending_grows found u about stood)

  batch_stays : (u s : List ℕ) (about : Subscription) (batch : Batch) (moment : ℕ) → StaysBy found last (Ok (batch_changes found u s (channels_read about) batch moment))
  unfolding taken
  batch_stays u s about batch moment = λ made. grown found (taken found u s (channels_read about) batch moment) last made (taking_grows found u s (channels_read about) batch moment)

  asked_stays : (asked : Asked) (moment : ℕ) → StaysBy found last (effect_in asked moment found)
  asked_stays (Refused name) moment = λ made. same_stay found last made
  asked_stays (Enumerate name) moment = λ made. same_stay found last made
  asked_stays (Unread u) moment = by (standing found u)
    where
      by : (o : Standing) → StaysBy found last (unread_by o)
      by stands.Unknown = λ made. absurd made
      by (stands.Ended about) = λ made. absurd made
      by (stands.Live about) = λ made. absurd made
  asked_stays (Take u s batch) moment = by (standing found u)
    where
      by_form : (about : Subscription) (t : Bool) → StaysBy found last (cond t (Ok (batch_changes found u s (channels_read about) batch moment)) (Err NotWellFormed))
      by_form about true = batch_stays u s about batch moment
      by_form about false = λ made. absurd made

      by : (o : Standing) → StaysBy found last (take_by o found u s batch moment)
      by stands.Unknown = λ made. absurd made
      by (stands.Ended about) = λ made. absurd made
      by (stands.Live about) = by_form about (is_well_formed (channels_read about) batch)
  asked_stays (Heartbeat u s ack) moment = by (standing found u)
    where
      by : (o : Standing) → StaysBy found last (hear_by o found u s moment)
      by stands.Unknown = λ made. absurd made
      by (stands.Ended about) = λ made. absurd made
      by (stands.Live about) = λ made. grown found (applied (heard_changes found u s moment) found) last made (grows_aside _ found (hearing_aside found u s moment))
  asked_stays (UnreadEnd u) moment = by (is_known (standing found u))
    where
      by : (known : Bool) → StaysBy found last (cond known (Err NotWellFormed) (Err NoSubscription))
      by true = λ made. absurd made
      by false = λ made. absurd made
  asked_stays (asks.Ended u s identifier) moment = by (is_known (standing found u))
    where
      by : (known : Bool) → StaysBy found last (cond known (Ok (end_lease found u s identifier)) (Err NoSubscription))
      by true = λ made. grown found (applied (end_lease found u s identifier) found) last made (grows_aside _ found (noting_aside found u s identifier))
      by false = λ made. absurd made

  -- so they have by what an answer does, whichever request waits for it
  answer_stays : (waits : Option Waiting) (answer : Response) (moment : ℕ) → StaysBy found last (waiting_effect waits answer moment found)
  answer_stays None answer moment = λ made. absurd made
  answer_stays (Some w) answer moment = by (leasing_of answer w.wants moment)
    where
      by : (o : Option Leasing) → StaysBy found last (leasing_effect found w o)
      by None = λ made. absurd made
      by (Some leasing) = λ made. grown found (applied (lease_changes found w.sub w.source leasing) found) last made (grows_aside _ found (leasing_aside found w.sub w.source leasing))

  -- what may be left of a call has kept all
  left_stays : (effect : Rows → Effect) → StaysBy found last (effect found) → MayLeave effect last found → Stay found last
  left_stays effect stays (inl same) = same_stay found last same
  left_stays effect stays (inr made) = stays made

  pub cut_stays : (deed : Deed) → IsCut deed found last → Stay found last
  cut_stays Starts left = start_stays found last left
  cut_stays (Adds s) left = left_stays (λ rows. add_effect rows s) (add_stays s) left
  cut_stays (Ends u) left = left_stays (λ rows. end_effect rows u) (end_stays u) left
  cut_stays (Answers host heard moment id said) left = left_stays (effect_in heard.asked moment) (asked_stays heard.asked moment) left
  cut_stays (Leaves heard moment) left = left_stays (effect_in heard.asked moment) (asked_stays heard.asked moment) left
  cut_stays (Requests host r moment) left = same_stay found last left.0
  cut_stays (Takes waits answer moment) left = left_stays (waiting_effect waits answer moment) (answer_stays waits answer moment) left

-- ---- deeds that are done

-- a deed that is done leaves what one that is cut off may leave
pub done_as_cut : (deed : Deed) (found last : Rows) → Does deed found last → IsCut deed found last
done_as_cut Starts found last does = does
done_as_cut (Adds s) found last does = does
done_as_cut (Ends u) found last does = does
done_as_cut (Leaves heard moment) found last does = does
done_as_cut (Requests host r moment) found last does = does
done_as_cut (Takes waits answer moment) found last does = does
done_as_cut (Answers host heard moment id said) found last (inr (is, may)) = may
done_as_cut (Answers host heard moment id said) found last (inl (is, same)) = by (effect_in heard.asked moment found) same
  where
    by : (e : Effect) → last ≡ rows_by e found → (last ≡ found) ⊎ Makes e found last
    by (Ok changes) same = inr same
    by (Err fault) same = inl same

does_stay : (deed : Deed) (found last : Rows) → Does deed found last → Stay found last
does_stay deed found last does = cut_stays found last deed (done_as_cut deed found last does)

-- ---- batches that were taken

-- it isn't said that a batch was taken
abbrev IsFaulty : Said → Type 0
IsFaulty Ack = ⊥
IsFaulty Quiet = ⊥
IsFaulty (Offers list) = Unit {0}
IsFaulty (Fault name) = Unit {0}

untaken : (last : Rows) (asked : Asked) (said : Said) → IsFaulty said → TakenIsWithin last asked said
untaken last (Refused name) said faulty = tt
untaken last (Enumerate name) said faulty = tt
untaken last (Unread u) said faulty = tt
untaken last (Take u s batch) Ack faulty = absurd faulty
untaken last (Take u s batch) Quiet faulty = absurd faulty
untaken last (Take u s batch) (Offers list) faulty = tt
untaken last (Take u s batch) (Fault name) faulty = tt
untaken last (Heartbeat u s ack) said faulty = tt
untaken last (UnreadEnd u) said faulty = tt
untaken last (asks.Ended u s identifier) said faulty = tt

said_within : (last : Rows) (u s : List ℕ) (batch : Batch) (said : Said) → IsWithin last u s batch → TakenIsWithin last (Take u s batch) said
said_within last u s batch Ack within = within
said_within last u s batch Quiet within = within
said_within last u s batch (Offers list) within = tt
said_within last u s batch (Fault name) within = tt

-- a batch that is taken for a subscription that stands live lies within the rows then
batch_within : (found last : Rows) (u s : List ℕ) (about : Subscription) (batch : Batch) (moment : ℕ) → standing found u ≡ stands.Live about
    → last ≡ applied (batch_changes found u s (channels_read about) batch moment) found → IsWithin last u s batch
unfolding taken
batch_within found last u s about batch moment live made = subst (λ (rows : Rows). IsWithin rows u s batch) (sym made) (record {
  about = about;
  known = subscription_by_taking found u s (channels_read about) batch moment u ∙ ap about_of live;
  reached = λ c t listed reached. taking_reaches found u s (channels_read about) batch moment c t listed reached;
})

module _ (found last : Rows) where
  take_within : (u s : List ℕ) (batch : Batch) (moment : ℕ) (said : Said) → said ≡ said_where (batch_said batch.ack_wanted) tt (take_effect found u s batch moment)
      → last ≡ rows_by (take_effect found u s batch moment) found → TakenIsWithin last (Take u s batch) said
  take_within u s batch moment said is same = by (standing found u) refl is same
    where
      refused : (fault : CollectorFault) → said ≡ Fault (fault_for fault) → TakenIsWithin last (Take u s batch) said
      refused fault is = untaken last (Take u s batch) said (subst IsFaulty (sym is) tt)

      by_form : (about : Subscription) → standing found u ≡ stands.Live about → (t : Bool)
          → said ≡ said_where (batch_said batch.ack_wanted) tt (cond t (Ok (batch_changes found u s (channels_read about) batch moment)) (Err NotWellFormed))
          → last ≡ rows_by (cond t (Ok (batch_changes found u s (channels_read about) batch moment)) (Err NotWellFormed)) found → TakenIsWithin last (Take u s batch) said
      by_form about live true is made = said_within last u s batch said (batch_within found last u s about batch moment live made)
      by_form about live false is made = refused NotWellFormed is

      by : (o : Standing) → standing found u ≡ o → said ≡ said_where (batch_said batch.ack_wanted) tt (take_by o found u s batch moment) → last ≡ rows_by (take_by o found u s batch moment) found
          → TakenIsWithin last (Take u s batch) said
      by stands.Unknown stood is made = refused NoSubscription is
      by (stands.Ended about) stood is made = refused Ended is
      by (stands.Live about) stood is made = by_form about stood (is_well_formed (channels_read about) batch) is made

  answer_within : (host : List ℕ) (asked : Asked) (moment : ℕ) (said : Said) → Goes host asked moment said found last → TakenIsWithin last asked said
  answer_within host asked moment said (inr (is, may)) = untaken last asked said (subst IsFaulty (sym is) tt)
  answer_within host (Refused name) moment said (inl (is, same)) = tt
  answer_within host (Enumerate name) moment said (inl (is, same)) = tt
  answer_within host (Unread u) moment said (inl (is, same)) = tt
  answer_within host (Take u s batch) moment said (inl (is, same)) = take_within u s batch moment said is same
  answer_within host (Heartbeat u s ack) moment said (inl (is, same)) = tt
  answer_within host (UnreadEnd u) moment said (inl (is, same)) = tt
  answer_within host (asks.Ended u s identifier) moment said (inl (is, same)) = tt

  does_keep : (deed : Deed) → Does deed found last → Keeps last deed
  does_keep Starts does = tt
  does_keep (Adds s) does = tt
  does_keep (Ends u) does = tt
  does_keep (Leaves heard moment) does = tt
  does_keep (Requests host r moment) does = tt
  does_keep (Takes waits answer moment) does = tt
  does_keep (Answers host heard moment id said) does = answer_within host heard.asked moment said does

-- ---- later rows

-- what lies within rows lies within all later ones
module _ (rows later : Rows) (stay : Stay rows later) where
  within_later : (u s : List ℕ) (batch : Batch) → IsWithin rows u s batch → IsWithin later u s batch
  within_later u s batch within = record {
    about = within.about;
    known = stay.known u within.about within.known;
    reached = λ c t listed is. let here = within.reached c t listed is in let there = stay.rises u s c in omega (arith, here, there);
  }

  taken_later : (asked : Asked) (said : Said) → TakenIsWithin rows asked said → TakenIsWithin later asked said
  taken_later (Refused name) said within = tt
  taken_later (Enumerate name) said within = tt
  taken_later (Unread u) said within = tt
  taken_later (Take u s batch) Ack within = within_later u s batch within
  taken_later (Take u s batch) Quiet within = within_later u s batch within
  taken_later (Take u s batch) (Offers list) within = tt
  taken_later (Take u s batch) (Fault name) within = tt
  taken_later (Heartbeat u s ack) said within = tt
  taken_later (UnreadEnd u) said within = tt
  taken_later (asks.Ended u s identifier) said within = tt

  keeps_later : (deed : Deed) → Keeps rows deed → Keeps later deed
  keeps_later Starts keeps = tt
  keeps_later (Adds s) keeps = tt
  keeps_later (Ends u) keeps = tt
  keeps_later (Leaves heard moment) keeps = tt
  keeps_later (Requests host r moment) keeps = tt
  keeps_later (Takes waits answer moment) keeps = tt
  keeps_later (Answers host heard moment id said) keeps = taken_later heard.asked said keeps

  pub all_later : (done : List Deed) → AllByRecursion (Keeps rows) done → AllByRecursion (Keeps later) done
  all_later [] keep = tt
  all_later (deed ∷ done) keep = (keeps_later deed keep.0, all_later done keep.1)

-- ---- deeds one after the other

pub all_stay : (done : List Deed) (found last : Rows) → AreDone done found last → Stay found last
all_stay [] found last same = same_stay found last same
all_stay (deed ∷ done) found last (mid, does, are) = both_stay found mid last (does_stay deed found mid does) (all_stay done mid last are)

pub all_keep : (done : List Deed) (found last : Rows) → AreDone done found last → AllByRecursion (Keeps last) done
all_keep [] found last same = tt
all_keep (deed ∷ done) found last (mid, does, are) = (keeps_later mid last (all_stay done mid last are) deed (does_keep found mid deed does), all_keep done mid last are)

pub both_keep : (rows : Rows) (done more : List Deed) → AllByRecursion (Keeps rows) done → AllByRecursion (Keeps rows) more → AllByRecursion (Keeps rows) (done ++ more)
both_keep rows [] more first next = next
both_keep rows (deed ∷ done) more first next = (first.0, both_keep rows done more first.1 next)
