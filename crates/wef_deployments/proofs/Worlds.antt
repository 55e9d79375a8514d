-- That deployments are safe: what is kept of a world stays kept, whatever comes next.
use Rattle.std.proofs.Common.{◌≡◌, ℕ, Bool, true, false, ◌||◌, List, [], ◌∷◌, ap, sym, refl, subst, arith}
use Rattle.std.proofs.lemmas.Bool.{cond_both}
use Rattle.std.specs.Cmp.Lexicographic.{slice_cmp}
use Rattle.std.specs.FinMap as finite
use Rattle.std.specs.List.{AllByRecursion}
use Rattle.std.specs.Option.{option_map}
use Rattle.std.specs.Ordering.{nat_cmp}
use Rattle.std.specs.Prelude.{IfSome, Option, Some, None, unwrap_or, if◌then◌else◌}
use Rattle.wef_base.specs.Names.{same}
use Rattle.wef_collector.proofs.Hits.{not_both, same_self}
use Rattle.wef_commands.specs.declared.writing.TheConstants.{LOG_CAPACITY}
use Rattle.wef_keeper.specs.Rows.{Rows, key_cmp}
use Rattle.wef_keeper.specs.declared.keys.Cell.{Cell}
use Rattle.wef_machine.specs.Sources.{declared_slot}
use Rattle.wef_machine.specs.States.{Slot, State, slot_of, start}
use Rattle.wef_replay.specs.Good.{is_among}
use Rattle.wef_safety.proofs.LowerFacts.{lower}
use Rattle.wef_safety.proofs.Moves.{kept_declared, put_there}
use Rattle.wef_safety.proofs.SaidEvents.{no_events}
use Rattle.wef_safety.proofs.Steps.{kept_is_safe, start_is_kept}
use Rattle.wef_safety.specs.Kept.{IsKept}
use Rattle.wef_source_log.specs.Keys.{boot_key}
use Rattle.wef_source_log.specs.LogWindow.{IsWindow, boot_of}
use Rattle.wef_deployments.proofs.Folders.{forwarded_read, goes_read, served_read}
use Rattle.wef_deployments.proofs.Hearing.{deeds_keep}
use Rattle.wef_deployments.proofs.Sources.{source_deeds_keep}
use Rattle.wef_deployments.specs.Folders.{AreReadAs, deeds_forwarded, deeds_served, deeds_written}
use Rattle.wef_deployments.specs.Sources.{SourceDeed}
use Rattle.wef_deployments.specs.Worlds.{AreSources, DeploymentsAreSafe, Next, Reaches, World, new_state, new_world}
use Rattle.wef_deployments.specs.Worlds.{collector_begins, collector_goes_on, collector_stops, collector_is_cut, write_begins, forward_begins, serve_begins, source_goes_on, source_stops, source_is_cut, begins, goes_on}
use Rattle.wef_deployments.specs.Hearing.{IsToAsked}
use Rattle.wef_runs.proofs.Awaited.{AnswersAsked, run_asked}
use Rattle.wef_runs.proofs.Readings.{run_read}
use Rattle.wef_runs.specs.Deeds.{Deed, Does, IsRead}
use Rattle.wef_runs.specs.Deeds.{Starts, Adds, Ends, Answers, Leaves, Requests, Takes}

-- ---- new folders

no_source : (s : List ℕ) → slot_of start s ≡ None
no_source s = finite.get-empty (slice_cmp nat_cmp) s

empty_boot : boot_of finite.empty ≡ 0
empty_boot = ap (λ (o : Option Cell). unwrap_or (option_map (λ (cell : Cell). cell.value) o) 0) (finite.get-empty key_cmp boot_key)

-- a name that isn't among those of the folders is that of none
not_there : (names : List (List ℕ)) (s : List ℕ) → is_among names s ≡ false → slot_of (new_state names) s ≡ None
not_there [] s other = no_source s
not_there (r ∷ names) s other = by (same s r) refl other (not_there names s)
  where
    by : (t : Bool) → same s r ≡ t → (t || is_among names s) ≡ false → (is_among names s ≡ false → slot_of (new_state names) s ≡ None) → slot_of (new_state (r ∷ names)) s ≡ None
    by true is other rest = cc
    by false is other rest =
        put_there (new_state names).sources r (declared_slot LOG_CAPACITY) s (λ (o : Option Slot). o ≡ None)
        (λ e. absurd (not_both (subst (λ (name : List ℕ). same s name ≡ true) e (same_self s)) is)) (rest other)

no_strangers : (names : List (List ℕ)) (s : List ℕ) → is_among (new_state names).foreign s ≡ false
no_strangers [] s = refl
no_strangers (r ∷ names) s = no_strangers names s

new_kept : (names : List (List ℕ)) → AreSources names → IsKept (new_state names)
new_kept [] are = (start_is_kept lower).kept
new_kept (s ∷ names) (good, other, are) =
    kept_declared (new_state names) s (declared_slot LOG_CAPACITY) (new_kept names are) (not_there names s other) (no_strangers names s)
    (record {
      name = good;
      capacity = omega arith;
      greatest = omega arith;
      window = subst (λ (b : ℕ). IsWindow finite.empty finite.empty LOG_CAPACITY b) (sym empty_boot) (lower.log_empty LOG_CAPACITY);
      formed = lower.log_formed_empty;
      events = no_events;
      running = tt;
    })

-- ---- what comes next

-- What is kept of a world; and of what is still to be done in it: at the collector answers are taken to requests under names that read
-- back, and what is read there, and in each folder, is so as it is of whatever is read.
record IsWorldKept (w : World) : Type 0 where
  kept : IsKept w.state
  going : IfSome w.going AnswersAsked
  reads : IfSome w.going (AllByRecursion IsRead)
  turns : (s : List ℕ) → IfSome (w.turns s) AreReadAs

-- an answer that comes next is to such a request
to_asked : (deed : Deed) (deeds : List Deed) → AnswersAsked (deed ∷ deeds) → IsToAsked deed
to_asked Starts deeds answers = tt
to_asked (Adds s) deeds answers = tt
to_asked (Ends u) deeds answers = tt
to_asked (Answers host heard moment id said) deeds answers = tt
to_asked (Leaves heard moment) deeds answers = tt
to_asked (Requests host r moment) deeds answers = tt
to_asked (Takes waits answer moment) deeds answers = answers.0

-- and so are those behind it
then_asked : (state : State) (deed : Deed) (deeds : List Deed) (last : Rows) → IsKept state → Does deed state.collector.rows last → AnswersAsked (deed ∷ deeds) → AnswersAsked deeds
then_asked state Starts deeds last kept does answers = answers
then_asked state (Adds s) deeds last kept does answers = answers
then_asked state (Ends u) deeds last kept does answers = answers
then_asked state (Answers host heard moment id said) deeds last kept does answers = answers
then_asked state (Leaves heard moment) deeds last kept does answers = answers
then_asked state (Requests host r moment) deeds last kept does answers = answers (deeds_keep.asked state host r moment kept does.1)
then_asked state (Takes waits answer moment) deeds last kept does answers = answers.1

-- what is so of all that is still to be done is so of the deeds that come next
coming : {D : Type 0} (Holds : List D → Type 0) (o : Option (List D)) (deeds : List D) → o ≡ Some deeds → IfSome o Holds → Holds deeds
coming Holds o deeds on holds = subst (λ o. IfSome o Holds) on holds

-- deeds in one folder are still to be done, or none are any more
turns_with : (w : World) (s : List ℕ) (deeds : Option (List SourceDeed)) → ((r : List ℕ) → IfSome (w.turns r) AreReadAs) → IfSome deeds AreReadAs → (r : List ℕ) → IfSome (if same r s then deeds else w.turns r) AreReadAs
turns_with w s deeds turns read r = cond_both (same r s) deeds (w.turns r) (λ (o : Option (List SourceDeed)). IfSome o AreReadAs) (λ _. read) (λ _. turns r)

next_kept : {w next : World} → Next w next → IsWorldKept w → IsWorldKept next
next_kept (collector_begins w command last account of none) is =
    record { kept = is.kept; going = run_asked account of; reads = run_read command w.state.collector.rows last account; turns = is.turns }
next_kept (collector_goes_on w deed deeds last on hears does) is =
    let answers : AnswersAsked (deed ∷ deeds) = coming AnswersAsked w.going (deed ∷ deeds) on is.going in
    let reads : AllByRecursion IsRead (deed ∷ deeds) = coming (AllByRecursion IsRead) w.going (deed ∷ deeds) on is.reads in
    record {
      kept = deeds_keep.done w.state deed last is.kept reads.0 (to_asked deed deeds answers) hears does;
      going = then_asked w.state deed deeds last is.kept does answers;
      reads = reads.1;
      turns = is.turns;
    }
next_kept (collector_stops w) is = record { kept = is.kept; going = tt; reads = tt; turns = is.turns }
next_kept (collector_is_cut w deed deeds last on hears cut) is =
    let answers : AnswersAsked (deed ∷ deeds) = coming AnswersAsked w.going (deed ∷ deeds) on is.going in
    let reads : AllByRecursion IsRead (deed ∷ deeds) = coming (AllByRecursion IsRead) w.going (deed ∷ deeds) on is.reads in
    record { kept = deeds_keep.cut w.state deed last is.kept reads.0 (to_asked deed deeds answers) hears cut; going = tt; reads = tt; turns = is.turns }
next_kept (write_begins w s slot last run there none) is = record {
  kept = is.kept;
  going = is.going;
  reads = is.reads;
  turns = turns_with w s (Some (deeds_written run)) is.turns (goes_read run.ending run.input run.out slot.place.rows last run.goes);
}
next_kept (forward_begins w address s count slot last account there none) is = record {
  kept = is.kept;
  going = is.going;
  reads = is.reads;
  turns = turns_with w s (Some (deeds_forwarded account)) is.turns (forwarded_read account.ending account.out account.peers account.now slot.place.rows last address s count account.says);
}
next_kept (serve_begins w address s count slot last account there none) is = record {
  kept = is.kept;
  going = is.going;
  reads = is.reads;
  turns = turns_with w s (Some (deeds_served account)) is.turns (served_read account.ending account.out account.peers account.now slot.place.rows last address count account.says);
}
next_kept (source_goes_on w s slot next deed deeds there on hears turns) is =
    let reads : AreReadAs (deed ∷ deeds) = coming AreReadAs (w.turns s) (deed ∷ deeds) on (is.turns s) in
    record {
      kept = source_deeds_keep.done w.state s slot next deed is.kept there reads.0 hears turns;
      going = is.going;
      reads = is.reads;
      turns = turns_with w s (Some deeds) is.turns reads.1;
    }
next_kept (source_stops w s slot there) is =
    record { kept = source_deeds_keep.ended w.state s slot is.kept there; going = is.going; reads = is.reads; turns = turns_with w s None is.turns tt }
next_kept (source_is_cut w s slot next deed deeds there on hears broken) is =
    let reads : AreReadAs (deed ∷ deeds) = coming AreReadAs (w.turns s) (deed ∷ deeds) on (is.turns s) in
    record { kept = source_deeds_keep.cut w.state s slot next deed is.kept there reads.0 hears broken; going = is.going; reads = is.reads; turns = turns_with w s None is.turns tt }

all_kept : {first w : World} → IsWorldKept first → Reaches first w → IsWorldKept w
all_kept is begins = is
all_kept is (goes_on w next before step) = next_kept step (all_kept is before)

pub worlds_kept : (names : List (List ℕ)) (w : World) → AreSources names → Reaches (new_world names) w → IsKept w.state
worlds_kept names w are reaches = (all_kept (record { kept = new_kept names are; going = tt; reads = tt; turns = λ s. tt }) reaches).kept

pub deployments_are_safe : DeploymentsAreSafe
deployments_are_safe names w are reaches = kept_is_safe w.state (worlds_kept names w are reaches)
