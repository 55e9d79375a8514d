-- Why a run tells the ending that is due, where nothing fails.
use Rattle.std.proofs.Common.{◌≡◌, ◌∙◌, ℕ, ◌+◌, Bool, true, false, cond, List, [], ◌∷◌, ◌++◌, length, refl, ap, sym, subst, inl, inr}
use Rattle.std.specs.Prelude.{◌⊎◌, Option, Some, None, IfSome, Ok, Err, is_none, is_some, if◌then◌else◌}
use Rattle.wef_collector_reports.specs.Listing.{listed}
use Rattle.wef_collector_reports.specs.Report.{report}
use Rattle.wef_collector_rows.specs.Answers.{IsEnded, is_known}
use Rattle.wef_collector_rows.specs.Standing.{is_full, standing}
use Rattle.wef_collector_rows.specs.declared.standings.Standing.{Standing}
use Rattle.wef_collector_rows.specs.declared.standings.Standing.TheVariants.{Unknown, Ended, Live}
use Rattle.wef_documents.specs.Bytes.{document_in}
use Rattle.wef_event.specs.Events.{Event}
use Rattle.wef_event.specs.Numbering.{numbered}
use Rattle.wef_eventing.specs.declared.subscriptions.Subscription.{Subscription}
use Rattle.wef_keeper.specs.Calls.{GoesOver}
use Rattle.wef_keeper.specs.Keeping.{IsLawful, IsOneOf, MayFind, Store, WhereTold}
use Rattle.wef_keeper.specs.Rows.{Rows}
use Rattle.wef_source_log.specs.Answers.{is_boot_full, next_boot, next_number, start_effect}
use Rattle.wef_source_log.specs.Faults.{log_store}
use Rattle.wef_source_log.specs.LogWindow as log
use Rattle.wef_source_log.specs.LogWindow.{start_changes}
use Rattle.wef_source_log.specs.declared.faults.LogFault.{LogFault}
use Rattle.wef_source_log.specs.declared.faults.LogFault.TheVariants as log_faults
use Rattle.wef_commands.proofs.ByRows.{adds_by_rows, events_by_rows, lists_by_rows, removes_by_rows, shows_by_rows, statuses_by_rows}
use Rattle.wef_commands.proofs.NumbersTold.{ending_behind, writes_as_far}
use Rattle.wef_commands.specs.Adding.{HasDocument, IsRefused}
use Rattle.wef_commands.specs.Calling.{IsUndone}
use Rattle.wef_commands.specs.Checking.{lines_of}
use Rattle.wef_commands.specs.Endings.{HasFailed, IsToldAs, Told}
use Rattle.wef_commands.specs.Laws.{AddSays, EventsSay, HasWritten, RemoveSays, Stand, StatusSays, StopsOver, WriteGoes, WritesText, can_start, events_ending, numbers_of, started, with_event, with_events}
use Rattle.wef_commands.specs.Listing.{list_text}
use Rattle.wef_commands.specs.Refusals.{log_ending}
use Rattle.wef_commands.specs.Writing.{EndsJudging, HasEvents, IsBad, bad_line, events_of, written_text}
use Rattle.wef_commands.specs.declared.ending.Ending.{Ending}
use Rattle.wef_commands.specs.declared.ending.Ending.TheVariants as ends
use Rattle.wef_commands.specs.declared.writing.TheConstants.{LOG_CAPACITY}
use Rattle.wef_serving.specs.Serving.{IsMoment}
use Rattle.wef_cli.proofs.FormsStaying.{never_failed}
use Rattle.wef_cli.specs.Due.{AddsAsDue, EventsAsDue, GoesWell, IsDueToAdd, IsWellRead, ListsAsDue, RemovesAsDue, ShowsAsDue, StatusesAsDue, TellsDue, WritesAsDue, adding_ending, once_begun, once_started, removing_ending, showing_ending, writing_ending}
use Rattle.wef_cli.specs.Runs.{Peers, StatusEndsAt}
use Rattle.wef_command_line.specs.declared.command.Command.{Command}
use Rattle.wef_command_line.specs.declared.command.Command.TheVariants as the

-- ---- what is told

-- the ending that a run has is told, or want of memory
pub told_due : (IsDue Holds : Ending → Type 0) (ending told : Ending) → IsToldAs ending told → TellsDue IsDue Holds ending → TellsDue IsDue Holds told
told_due IsDue Holds ending told (inl same) due = subst (TellsDue IsDue Holds) (sym same) due
told_due IsDue Holds ending told (inr wanting) due = inr wanting.1

-- it isn't that the store failed
pub sure : (command : Command) (ending told : Ending) (input out : Told) (peers : Peers) (before now : Store) (found after : Rows) → GoesWell command ending told input out peers before now found after → ending ≡ ends.StoreFailed → ⊥
sure command ending told input out peers before now found after well is =
    never_failed command told input out peers before now found after (subst (λ (e : Ending). GoesWell command e told input out peers before now found after) is well)

at_bytes : (told : Option (List ℕ)) (bytes : List ℕ) (P : List ℕ → Type 0) → told ≡ Some bytes → IfSome told P → P bytes
at_bytes told bytes P is h = subst (λ (o : Option (List ℕ)). IfSome o P) is h

-- rows that stand behind a run are of those that an opening may find
pub may_find : (now : Store) (after : Rows) → IsLawful now → now.rows ≡ Some after → MayFind now after
may_find now after lawful told = by now.images now.rows lawful.both lawful.among told
  where
    by : (images : Option (List Rows)) (rows : Option Rows) → is_some images ≡ is_some rows → IfSome images (λ left. WhereTold rows (IsOneOf left)) → rows ≡ Some after → WhereTold images (λ left. IsOneOf left after)
    by None rows both among told = let no : false ≡ true = both ∙ ap (λ (o : Option Rows). is_some o) told in cc
    by (Some left) rows both among told = subst (λ (o : Option Rows). WhereTold o (IsOneOf left)) told among

-- ---- a start

-- where it is full, that is due
pub full_due : (found : Rows) (ending : Ending) → can_start found ≡ false → ends.Full ≡ once_started found ending
full_due found ending full = sym (λ i. cond (full i) ending ends.Full)

-- else what comes behind the start
pub start_due : (found : Rows) (is ending : Ending) → can_start found ≡ true → is ≡ ending → is ≡ once_started found ending
start_due found is ending starts same = same ∙ sym (λ i. cond (starts i) ending ends.Full)

-- ---- `add`

module _ (input out : Told) (found after : Rows) (bytes : List ℕ) (read : IsWellRead input bytes) (writes : HasFailed out → ⊥) where
  abbrev IsDue : Ending → Type 0
  IsDue ending = IsDueToAdd (document_in bytes) bytes found ending

  -- by a document that was read
  by_document : (s : Subscription) (ending : Ending) → HasDocument s input → ending ≡ once_started found (adding_ending (started found) s) → IsDue ending
  by_document s ending has is = subst (λ (o : Option Subscription). IsDueToAdd o bytes found ending) (sym (at_bytes input.before bytes (λ b. document_in b ≡ Some s) read.told has.0.1)) is

  by_refusal : (ending : Ending) → IsDueToAdd None bytes found ending × (document_in bytes ≡ None) → IsDue ending
  by_refusal ending refused = subst (λ (o : Option Subscription). IsDueToAdd o bytes found ending) (sym refused.1) refused.0

  added_due : (ending : Ending) → (ending ≡ ends.StoreFailed → ⊥) → AddSays ending input out found after → TellsDue IsDue (λ e. AddSays e input out found after) ending
  added_due ends.Done sure says =
      let s = says.0.subscription in
      inl (
        by_document s ends.Done says.0.document (start_due found ends.Done (adding_ending (started found) s) says.0.starts
            (sym (λ i. cond (says.0.new i) (ends.Exists s.name) (cond (says.0.room i) ends.TooMany ends.Done)))),
        says,
      )
  added_due ends.OutputFailed sure says = absurd (writes says.1)
  added_due (ends.Exists u) sure says =
      let s = says.subscription in
      inl (
        by_document s (ends.Exists u) says.document (start_due found (ends.Exists u) (adding_ending (started found) s) says.starts
            (ap ends.Exists says.cause.0 ∙ sym (λ i. cond (says.cause.1 i) (ends.Exists s.name) (cond (is_full (started found)) ends.TooMany ends.Done)))),
        says,
      )
  added_due ends.TooMany sure says =
      let s = says.subscription in
      inl (
        by_document s ends.TooMany says.document (start_due found ends.TooMany (adding_ending (started found) s) says.starts
            (sym (λ i. cond (says.cause.0 i) (ends.Exists s.name) (cond (says.cause.1 i) ends.TooMany ends.Done)))),
        says,
      )
  added_due ends.Full sure says = inl (by_document says.2.0 ends.Full says.2.1 (full_due found (adding_ending (started found) says.2.0) says.0), says)
  added_due (ends.BadPlace k) sure says = let bad = at_bytes input.before bytes (IsRefused (ends.BadPlace k)) read.told says.0.1 in inl (by_refusal (ends.BadPlace k) (bad, bad.1), says)
  added_due (ends.BadElement part) sure says = let bad = at_bytes input.before bytes (IsRefused (ends.BadElement part)) read.told says.0.1 in inl (by_refusal (ends.BadElement part) (bad, bad.1), says)
  added_due ends.InputFailed sure says = absurd (read.reads says.0)
  added_due ends.NoMemory sure says = inr refl
  added_due ends.StoreFailed sure says = absurd (sure refl)
  added_due _ sure says = absurd says

pub adds_as_due : AddsAsDue
adds_as_due ending told input out peers before now found after well bytes read =
    told_due (IsDueToAdd (document_in bytes) bytes found) (λ e. AddSays e input out found after) ending told well.told_so
    (added_due input out found after bytes read well.writes ending (sure the.Add ending told input out peers before now found after well)
    (adds_by_rows ending input out before now well.ends_so.0 found after well.stand well.known))

-- ---- `remove`

module _ (u : List ℕ) (out : Told) (found after : Rows) (writes : HasFailed out → ⊥) where
  abbrev IsRemovalDue : Ending → Type 0
  IsRemovalDue ending = ending ≡ once_started found (removing_ending u (standing (started found) u))

  ended_already : (state : Standing) → IsEnded state → ends.Already u ≡ removing_ending u state
  ended_already Unknown is = absurd is
  ended_already (Ended s) is = refl
  ended_already (Live s) is = absurd is

  removed_due : (ending : Ending) → (ending ≡ ends.StoreFailed → ⊥) → RemoveSays u ending out found after → TellsDue IsRemovalDue (λ e. RemoveSays u e out found after) ending
  removed_due ends.Done sure says = inl (start_due found ends.Done (removing_ending u (standing (started found) u)) says.0.starts (sym (ap (removing_ending u) says.0.live)), says)
  removed_due ends.OutputFailed sure says = absurd (writes says.1)
  removed_due (ends.Unknown name) sure says = inl (start_due found (ends.Unknown name) (removing_ending u (standing (started found) u)) says.1 (ap ends.Unknown says.0 ∙ sym (ap (removing_ending u) says.2)), says)
  removed_due (ends.Already name) sure says = inl (start_due found (ends.Already name) (removing_ending u (standing (started found) u)) says.1 (ap ends.Already says.0 ∙ ended_already (standing (started found) u) says.2), says)
  removed_due ends.Full sure says = inl (full_due found (removing_ending u (standing (started found) u)) says.0, says)
  removed_due ends.NoMemory sure says = inr refl
  removed_due ends.StoreFailed sure says = absurd (sure refl)
  removed_due _ sure says = absurd says

pub removes_as_due : RemovesAsDue
removes_as_due u ending told input out peers before now found after well =
    told_due (λ e. e ≡ once_started found (removing_ending u (standing (started found) u))) (λ e. RemoveSays u e out found after) ending told well.told_so
    (removed_due u out found after well.writes ending (sure (the.Remove u) ending told input out peers before now found after well)
    (removes_by_rows u ending out before now well.ends_so.1 found after well.stand well.known))

-- ---- `list`, `show`, `events` and `status`

text_due : (text : Rows → List ℕ) (out : Told) (found after : Rows) (ending : Ending) → (HasFailed out → ⊥) → (ending ≡ ends.StoreFailed → ⊥) → WritesText text ending out found after
    → TellsDue (λ e. e ≡ once_started found ends.Done) (λ e. WritesText text e out found after) ending
text_due text out found after ends.Done writes sure says = inl (start_due found ends.Done ends.Done says.2 refl, says)
text_due text out found after ends.OutputFailed writes sure says = absurd (writes says.0)
text_due text out found after ends.Full writes sure says = inl (full_due found ends.Done says.0, says)
text_due text out found after ends.NoMemory writes sure says = inr refl
text_due text out found after ends.StoreFailed writes sure says = absurd (sure refl)
text_due text out found after _ writes sure says = absurd says

-- also where memory was wanting for the words
unless_undone : {Ends : Type 0} (IsDue Holds : Ending → Type 0) (ending : Ending) (out : Told) (before now : Store) → IsUndone ending out before now ⊎ Ends → (Ends → TellsDue IsDue Holds ending)
    → TellsDue IsDue Holds ending
unless_undone IsDue Holds ending out before now (inl (wants, unwritten, same)) due = inr wants
unless_undone IsDue Holds ending out before now (inr ended) due = due ended

pub lists_as_due : ListsAsDue
lists_as_due ending told input out peers before now found after well =
    told_due (λ e. e ≡ once_started found ends.Done) (λ e. WritesText (λ found. list_text (listed (started found))) e out found after) ending told well.told_so
    (unless_undone (λ e. e ≡ once_started found ends.Done) (λ e. WritesText (λ found. list_text (listed (started found))) e out found after) ending out before now well.ends_so.1
    (λ ended. text_due (λ found. list_text (listed (started found))) out found after ending well.writes (sure the.List ending told input out peers before now found after well)
    (lists_by_rows ending out before now ended found after well.stand well.known)))

pub shows_as_due : ShowsAsDue
shows_as_due ending told input out peers before now found after well =
    told_due (λ e. e ≡ once_started found ends.Done) (λ e. WritesText (λ found. report (started found)) e out found after) ending told well.told_so
    (unless_undone (λ e. e ≡ once_started found ends.Done) (λ e. WritesText (λ found. report (started found)) e out found after) ending out before now well.ends_so.1
    (λ ended. text_due (λ found. report (started found)) out found after ending well.writes (sure the.Show ending told input out peers before now found after well)
    (shows_by_rows ending out before now ended found after well.stand well.known)))

module _ (u s c : List ℕ) (out : Told) (found after : Rows) (writes : HasFailed out → ⊥) where
  abbrev IsShowingDue : Ending → Type 0
  IsShowingDue ending = ending ≡ once_started found (showing_ending u (is_known (standing (started found) u)))

  shown_due : (ending : Ending) → (ending ≡ ends.StoreFailed → ⊥) → EventsSay u s c ending out found after → TellsDue IsShowingDue (λ e. EventsSay u s c e out found after) ending
  shown_due ends.Done sure says = inl (start_due found ends.Done (showing_ending u (is_known (standing (started found) u))) says.3 (sym (ap (showing_ending u) says.0)), says)
  shown_due ends.OutputFailed sure says = absurd (writes says.0)
  shown_due (ends.Unknown name) sure says = inl (start_due found (ends.Unknown name) (showing_ending u (is_known (standing (started found) u))) says.4 (ap ends.Unknown says.0 ∙ sym (ap (showing_ending u) says.1)), says)
  shown_due ends.Full sure says = inl (full_due found (showing_ending u (is_known (standing (started found) u))) says.0, says)
  shown_due ends.NoMemory sure says = inr refl
  shown_due ends.StoreFailed sure says = absurd (sure refl)
  shown_due _ sure says = absurd says

pub events_as_due : EventsAsDue
events_as_due u s c ending told input out peers before now found after well =
    told_due (λ e. e ≡ once_started found (showing_ending u (is_known (standing (started found) u)))) (λ e. EventsSay u s c e out found after) ending told well.told_so
    (shown_due u s c out found after well.writes ending (sure (the.Events u s c) ending told input out peers before now found after well)
    (events_by_rows u s c ending out before now well.ends_so.1 found after well.stand well.known))

module _ (u : List ℕ) (clock : Option ℕ) (out : Told) (found after : Rows) (writes : HasFailed out → ⊥) where
  abbrev IsStatusDue : Ending → Type 0
  IsStatusDue ending = ending ≡ once_started found (showing_ending u (is_known (standing (started found) u)))

  abbrev SaysAt : Ending → Type 0
  SaysAt ending = (moment : ℕ) × IsMoment clock moment × StatusSays u moment ending out found after

  statuses_due : (moment : ℕ) → IsMoment clock moment → (ending : Ending) → (ending ≡ ends.StoreFailed → ⊥) → StatusSays u moment ending out found after → TellsDue IsStatusDue SaysAt ending
  statuses_due moment given ends.Done sure says =
      inl (start_due found ends.Done (showing_ending u (is_known (standing (started found) u))) says.3 (sym (ap (showing_ending u) says.0)), (moment, given, says))
  statuses_due moment given ends.OutputFailed sure says = absurd (writes says.1)
  statuses_due moment given (ends.Unknown name) sure says =
      inl (start_due found (ends.Unknown name) (showing_ending u (is_known (standing (started found) u))) says.4 (ap ends.Unknown says.0 ∙ sym (ap (showing_ending u) says.1)), (moment, given, says))
  statuses_due moment given ends.Full sure says = inl (full_due found (showing_ending u (is_known (standing (started found) u))) says.0, (moment, given, says))
  statuses_due moment given ends.NoMemory sure says = inr refl
  statuses_due moment given ends.StoreFailed sure says = absurd (sure refl)
  statuses_due moment given _ sure says = absurd says

  -- also where memory was wanting for the words
  status_due : (ending : Ending) (before now : Store) → (ending ≡ ends.StoreFailed → ⊥) → Stand before found → now.rows ≡ Some after → IsUndone ending out before now ⊎ StatusEndsAt clock u ending out before now
      → TellsDue IsStatusDue SaysAt ending
  status_due ending before now sure stand known (inl (wants, unwritten, same)) = inr wants
  status_due ending before now sure stand known (inr (moment, given, ended)) = statuses_due moment given ending sure (statuses_by_rows u moment ending out before now ended found after stand known)

pub statuses_as_due : StatusesAsDue
statuses_as_due u ending told input out peers before now found after well =
    told_due (λ e. e ≡ once_started found (showing_ending u (is_known (standing (started found) u)))) (λ e. (moment : ℕ) × IsMoment peers.moment moment × StatusSays u moment e out found after) ending told well.told_so
    (status_due u peers.moment out found after well.writes ending before now (sure (the.Status u) ending told input out peers before now found after well) well.stand well.known well.ends_so.1)

-- ---- `write`

log_full : (found : Rows) → start_effect found LOG_CAPACITY ≡ Err log_faults.Full → is_boot_full found ≡ true
log_full found is = by (is_boot_full found) is
  where
    by : (full : Bool) → (if full then Err log_faults.Full else Ok (start_changes found LOG_CAPACITY)) ≡ Err log_faults.Full → full ≡ true
    by true e = refl
    by false e = cc

pub full_log_due : (found : Rows) (ending : Ending) → is_boot_full found ≡ true → ends.Full ≡ once_begun found ending
full_log_due found ending full = sym (λ i. cond (full i) ends.Full ending)

pub begun_due : (found : Rows) (ending : Ending) → is_boot_full found ≡ false → ending ≡ once_begun found ending
begun_due found ending starts = sym (λ i. cond (starts i) ends.Full ending)

module _ (input out : Told) (found after : Rows) (bytes : List ℕ) (read : IsWellRead input bytes) (writes : HasFailed out → ⊥) where
  abbrev IsWritingDue : Ending → Type 0
  IsWritingDue ending = ending ≡ writing_ending (bad_line bytes) bytes found

  -- each line says an event
  by_events : (events : List Event) (ending : Ending) → HasEvents events input → ending ≡ once_begun found (events_ending 1 (log.started found LOG_CAPACITY) events) → IsWritingDue ending
  by_events events ending has is =
      let good = at_bytes input.before bytes (λ b. (bad_line b ≡ None) × (events_of (lines_of b) ≡ events)) read.told has.0.1 in
      is ∙ sym (ap (λ (es : List Event). once_begun found (events_ending 1 (log.started found LOG_CAPACITY) es)) good.1) ∙ sym (ap (λ (o : Option ℕ). writing_ending o bytes found) good.0)

  judged_due : (ending : Ending) → EndsJudging ending input → IsWritingDue ending ⊎ (ending ≡ ends.NoMemory)
  judged_due (ends.BadLine k) judged = let bad : bad_line bytes ≡ Some k = at_bytes input.before bytes (IsBad (ends.BadLine k)) read.told judged.1 in inl (sym (ap (λ (o : Option ℕ). writing_ending o bytes found) bad))
  judged_due ends.InputFailed judged = absurd (read.reads judged)
  judged_due ends.NoMemory judged = inr refl
  judged_due _ judged = absurd judged

  -- where it ends in front of events
  stopping : (k : ℕ) (behind : List Event) (text : List ℕ) (rows last : Rows) (ending : Ending) → (ending ≡ ends.StoreFailed → ⊥) → StopsOver ending k behind text out rows last → (ending ≡ events_ending k rows behind) ⊎ (ending ≡ ends.NoMemory)
  stopping k [] text rows last ends.Done sure stops = inl refl
  stopping k [] text rows last _ sure stops = absurd stops
  stopping k (event ∷ events) text rows last ends.Full sure stops = inl (sym (λ i. cond (stops.0 i) ends.Full (cond (is_none (numbered event (next_number rows event))) (ends.BadLine k) (events_ending (k + 1) (with_event rows event) events))))
  stopping k (event ∷ events) text rows last (ends.BadLine line) sure stops =
      inl (ap ends.BadLine stops.0 ∙ sym (λ i. cond (stops.1 i) ends.Full (cond (stops.2 i) (ends.BadLine k) (events_ending (k + 1) (with_event rows event) events))))
  stopping k (event ∷ events) text rows last ends.StoreFailed sure stops = absurd (sure refl)
  stopping k (event ∷ events) text rows last ends.NoMemory sure stops = inr refl
  stopping k (event ∷ events) text rows last ends.OutputFailed sure stops = absurd (writes stops.0)
  stopping k (event ∷ events) text rows last _ sure stops = absurd stops

  written_due : (ending : Ending) → (ending ≡ ends.StoreFailed → ⊥) → HasWritten ending input out found after → IsWritingDue ending ⊎ (ending ≡ ends.NoMemory)
  written_due ending sure wrote = by (stopping (length wrote.front + 1) wrote.behind (written_text wrote.front (numbers_of begun wrote.front)) (with_events begun wrote.front) after ending sure wrote.stops)
    where
      begun : Rows
      begun = log.started found LOG_CAPACITY

      by : (ending ≡ events_ending (length wrote.front + 1) (with_events begun wrote.front) wrote.behind) ⊎ (ending ≡ ends.NoMemory) → IsWritingDue ending ⊎ (ending ≡ ends.NoMemory)
      by (inr wants) = inr wants
      by (inl is) =
          let all : ending ≡ events_ending 1 begun (wrote.front ++ wrote.behind) = is ∙ sym (ending_behind 1 (length wrote.front + 1) begun wrote.front wrote.behind refl (wrote.taken 1)) in
          inl (by_events (wrote.front ++ wrote.behind) ending wrote.events (all ∙ begun_due found (events_ending 1 begun (wrote.front ++ wrote.behind)) wrote.starts))

  unstarted_due : (events : List Event) (fault : LogFault) (ending : Ending) → (ending ≡ ends.StoreFailed → ⊥) → HasEvents events input → ending ≡ log_ending fault
      → GoesOver log_store (λ rows. start_effect rows LOG_CAPACITY) next_boot (Err fault) found after → IsWritingDue ending ⊎ (ending ≡ ends.NoMemory)
  unstarted_due events log_faults.NoMemory ending sure has is goes = inr is
  unstarted_due events log_faults.Failed ending sure has is goes = absurd (sure is)
  unstarted_due events log_faults.TooLong ending sure has is goes = absurd (sure is)
  unstarted_due events log_faults.Full ending sure has is goes = inl (by_events events ending has (is ∙ full_log_due found (events_ending 1 (log.started found LOG_CAPACITY) events) (log_full found goes.0)))

  goes_due : (ending : Ending) → (ending ≡ ends.StoreFailed → ⊥) → WriteGoes ending input out found after → IsWritingDue ending ⊎ (ending ≡ ends.NoMemory)
  goes_due ending sure (inl (judged, unwritten, same)) = judged_due ending judged
  goes_due ending sure (inr (inl (events, fault, has, is, refuses, unwritten, goes))) = unstarted_due events fault ending sure has is goes
  goes_due ending sure (inr (inr wrote)) = written_due ending sure wrote

  with_goes : (ending : Ending) → WriteGoes ending input out found after → IsWritingDue ending ⊎ (ending ≡ ends.NoMemory) → TellsDue IsWritingDue (λ e. WriteGoes e input out found after) ending
  with_goes ending goes (inl due) = inl (due, goes)
  with_goes ending goes (inr wants) = inr wants

pub writes_as_due : WritesAsDue
writes_as_due ending told input out peers before now found after well bytes read =
    let goes = writes_as_far ending input out before now well.ends_so.0 well.lawful found after well.stand (may_find now after well.lawful well.known) in
    told_due (λ e. e ≡ writing_ending (bad_line bytes) bytes found) (λ e. WriteGoes e input out found after) ending told well.told_so
    (with_goes input out found after bytes read well.writes ending goes
    (goes_due input out found after bytes read well.writes ending (sure the.Write ending told input out peers before now found after well) goes))
