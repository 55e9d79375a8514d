-- What `write` does, by the rows that stood before it.
use Rattle.std.proofs.Common.{◌≡◌, ℕ, ◌+◌, Bool, true, false, List, [], ◌∷◌, ◌++◌, length, refl, sym, ap, ◌∙◌, subst, inl, inr}
use Rattle.std.proofs.lemmas.List.{append-nil}
use Rattle.std.specs.Prelude.{Some, Ok, Err, is_none, if◌then◌else◌}
use Rattle.std.specs.Io.KnownBytes.{Appends}
use Rattle.wef_event.specs.Events.{Event}
use Rattle.wef_event.specs.Numbering.{numbered}
use Rattle.wef_keeper.specs.Access.{IsReady}
use Rattle.wef_keeper.specs.Calls.{Did, Makes}
use Rattle.wef_keeper.specs.Keeping.{IsLawful, Store}
use Rattle.wef_keeper.specs.Rows.{Rows}
use Rattle.wef_source_log.specs.Answers.{is_boot_full, is_full, next_boot, next_number, next_text, start_effect, write_effect}
use Rattle.wef_source_log.specs.Faults.{log_store}
use Rattle.wef_source_log.specs.Forms.{AreFormed}
use Rattle.wef_source_log.specs.LogWindow as log
use Rattle.wef_source_log.specs.LogWindow.{capacity_of, start_changes, write_changes}
use Rattle.wef_source_log.specs.declared.faults.LogFault.{LogFault}
use Rattle.wef_source_log.specs.declared.faults.LogFault.TheVariants as faults
use Rattle.wef_commands.specs.Endings.{Told}
use Rattle.wef_commands.specs.Laws.{OverRows, Stand, WriteSays, WritesByRows, numbers_of, with_event, with_events}
use Rattle.wef_commands.specs.Refusals.{log_ending}
use Rattle.wef_commands.specs.Writing.{EndsBefore, HasEvents, StartsLog, Wrote, WroteEvents, write_ending, written_text}
use Rattle.wef_commands.specs.declared.ending.Ending.TheVariants as ends
use Rattle.wef_commands.specs.declared.writing.TheConstants.{LOG_CAPACITY}
use Rattle.wef_commands.proofs.ByRows.{from_one, mid_stands}

-- ---- what the log does

pub log_made : (found after : Rows) → Makes (start_effect found LOG_CAPACITY) found after → after ≡ log.started found LOG_CAPACITY
log_made found after makes = by (is_boot_full found) makes
  where
    by : (full : Bool) → Makes {F = LogFault} (if full then Err faults.Full else Ok (start_changes found LOG_CAPACITY)) found after → after ≡ log.started found LOG_CAPACITY
    by true made = absurd made
    by false made = made

-- and a log that is started could be
pub log_room : (found after : Rows) → Makes (start_effect found LOG_CAPACITY) found after → is_boot_full found ≡ false
log_room found after makes = by (is_boot_full found) makes
  where
    by : (full : Bool) → Makes {F = LogFault} (if full then Err faults.Full else Ok (start_changes found LOG_CAPACITY)) found after → full ≡ false
    by true made = absurd made
    by false made = refl

pub event_made : (rows : Rows) (event : Event) (after : Rows) → Makes (write_effect rows event) rows after → after ≡ with_event rows event
event_made rows event after makes = by (is_full rows event.channel) (is_none (numbered event (next_number rows event))) makes
  where
    by : (full long : Bool) → Makes {F = LogFault} (if full then Err faults.Full else if long then Err faults.TooLong else Ok (write_changes (capacity_of rows) event.channel (next_number rows event) (next_text rows event))) rows after
        → after ≡ with_event rows event
    by true long made = absurd made
    by false true made = absurd made
    by false false made = made

-- ---- events in a row

-- what was written over rows that stood
pub record WasWritten (events : List Event) (numbers : List ℕ) (before : Store) (after : Rows) : Type 0 where
  pub rows : Rows
  pub stand : Stand before rows
  pub numbers_are : numbers ≡ numbers_of rows events
  pub rows_are : after ≡ with_events rows events

wrote_rows : (events : List Event) (numbers : List ℕ) (before now : Store) (after : Rows) → IsLawful before → IsReady before → Wrote events numbers before now → now.rows ≡ Some after → WasWritten events numbers before after
wrote_rows [] [] before now after lawful ready same told = record {
  rows = after;
  stand = record { lawful = lawful; calm = ready.1; told = subst (λ (s : Store). s.rows ≡ Some after) same told };
  numbers_are = refl;
  rows_are = refl;
}
wrote_rows [] (n ∷ numbers) before now after lawful ready wrote told = absurd wrote
wrote_rows (event ∷ events) [] before now after lawful ready wrote told = absurd wrote
wrote_rows (event ∷ events) (n ∷ numbers) before now after lawful ready (next, write, wrote) told =
    let later = wrote_rows events numbers next now after write.2 write.0.ready wrote told in
    let here = mid_stands before next later.rows lawful ready write.0.untold later.stand.told in
    let did = from_one before next here.0 later.rows (Did log_store AreFormed (λ found. write_effect found event) (λ found. next_number found event) (Ok n) before next) here.1 later.stand.told write.0.did in
    let made : later.rows ≡ with_event here.0 event = event_made here.0 event later.rows did.answer.0 in
    record {
      rows = here.0;
      stand = here.1;
      numbers_are = (λ i. did.answer.1 i ∷ later.numbers_are i) ∙ ap (λ (r : Rows). next_number here.0 event ∷ numbers_of r events) made;
      rows_are = later.rows_are ∙ ap (λ (r : Rows). with_events r events) made;
    }

-- ---- the command

not_done : (k : ℕ) (fault : LogFault) → ends.Done ≡ write_ending k fault → ⊥
not_done k faults.NoMemory is = cc
not_done k faults.Failed is = cc
not_done k faults.Full is = cc
not_done k faults.TooLong is = cc

not_started : (fault : LogFault) → ends.Done ≡ log_ending fault → ⊥
not_started faults.NoMemory is = cc
not_started faults.Failed is = cc
not_started faults.Full is = cc
not_started faults.TooLong is = cc

-- where it is done, no event is left
all_done : (k : ℕ) (behind : List Event) (text : List ℕ) (out : Told) (before now : Store) → EndsBefore k behind text ends.Done out before now → (behind ≡ []) × Appends out.before out.after text × (now ≡ before)
all_done k [] text out before now stops = (refl, stops.1, stops.2)
all_done k (event ∷ events) text out before now (inl (is, told, same)) = let bad : ⊥ = cc in absurd bad
all_done k (event ∷ events) text out before now (inr (inl (fault, write, is, told))) = absurd (not_done k fault is)
all_done k (event ∷ events) text out before now (inr (inr (n, write, untold))) = absurd untold

write_done : (events : List Event) (input out : Told) (before mid now : Store) (boot : ℕ) → HasEvents events input → StartsLog (Ok boot) before mid → WroteEvents events ends.Done out mid now
    → OverRows (WriteSays ends.Done input out) before now
write_done events input out before mid now boot has start wrote = λ found after stand told.
    let ended = all_done (length wrote.front + 1) wrote.behind (written_text wrote.front wrote.numbers) out wrote.mid now wrote.stops in
    let front : wrote.front ≡ events = sym (append-nil wrote.front) ∙ ap (λ (b : List Event). wrote.front ++ b) (sym ended.0) ∙ wrote.whole in
    let was = wrote_rows wrote.front wrote.numbers mid wrote.mid after start.2 start.0.ready wrote.wrote (subst (λ (s : Store). s.rows ≡ Some after) ended.2 told) in
    let did = from_one before mid found was.rows (Did log_store AreFormed (λ found. start_effect found LOG_CAPACITY) next_boot (Ok boot) before mid) stand was.stand.told start.0.did in
    let begun : was.rows ≡ log.started found LOG_CAPACITY = log_made found was.rows did.answer.0 in
    let numbers : wrote.numbers ≡ numbers_of (log.started found LOG_CAPACITY) events = was.numbers_are ∙ (λ i. numbers_of (begun i) (front i)) in
    let text : written_text wrote.front wrote.numbers ≡ written_text events (numbers_of (log.started found LOG_CAPACITY) events) = λ i. written_text (front i) (numbers i) in
    (events, has, subst (Appends out.before out.after) text ended.1, was.rows_are ∙ (λ i. with_events (begun i) (front i)))

pub writes_by_rows : WritesByRows
writes_by_rows ends.Done input out before now (inl (judged, unwritten, same)) = λ found after stand told. absurd judged
writes_by_rows ends.Done input out before now (inr (events, has, inl (fault, start, is, unwritten))) = λ found after stand told. absurd (not_started fault is)
writes_by_rows ends.Done input out before now (inr (events, has, inr (boot, mid, start, wrote))) = write_done events input out before mid now boot has start wrote
writes_by_rows _ input out before now ends_so = λ found after stand told. tt
