-- How far `write` comes: from any rows that an opening may find behind it, back to those that stood before.
use Rattle.std.proofs.Common.{◌≡◌, ℕ, ◌+◌, Bool, true, false, cond, List, [], ◌∷◌, ◌++◌, length, take, refl, sym, ap, ◌∙◌, subst, inl, inr, arith}
use Rattle.std.specs.Prelude.{Result, Ok, Err, is_none, if◌then◌else◌}
use Rattle.std.specs.Io.KnownBytes.{Appends}
use Rattle.wef_event.specs.Events.{Event}
use Rattle.wef_event.specs.Numbering.{numbered}
use Rattle.wef_keeper.proofs.Going.{goes_over, told_before, which_found}
use Rattle.wef_keeper.specs.Calls.{Effect, GoesOver, Makes}
use Rattle.wef_keeper.specs.Keeping.{MayFind, Store}
use Rattle.wef_keeper.specs.Rows.{Rows}
use Rattle.wef_source_log.specs.Answers.{is_full, next_boot, next_number, next_text, start_effect, write_effect}
use Rattle.wef_source_log.specs.Faults.{log_store}
use Rattle.wef_source_log.specs.Forms.{AreFormed}
use Rattle.wef_source_log.specs.LogWindow as log
use Rattle.wef_source_log.specs.LogWindow.{capacity_of, write_changes}
use Rattle.wef_source_log.specs.declared.faults.LogFault.{LogFault}
use Rattle.wef_source_log.specs.declared.faults.LogFault.TheVariants as faults
use Rattle.wef_commands.specs.Endings.{Told}
use Rattle.wef_commands.specs.Laws.{HasWritten, Stand, StopsOver, WritesAsFar, events_ending, numbers_of, with_event, with_events}
use Rattle.wef_commands.specs.Writing.{EndsBefore, HasEvents, IsUntold, StartsLog, WritesEvent, Wrote, WroteEvents, write_ending, written_line, written_text}
use Rattle.wef_commands.specs.declared.ending.Ending.{Ending}
use Rattle.wef_commands.specs.declared.ending.Ending.TheVariants as ends
use Rattle.wef_commands.specs.declared.writing.TheConstants.{LOG_CAPACITY}
use Rattle.wef_commands.proofs.Leaving.{same_found, same_store, wrote_opened}
use Rattle.wef_commands.proofs.LogByRows.{event_made, log_made, log_room}

-- ---- what the log refuses

module _ (rows : Rows) (event : Event) where
  abbrev effect_by : Bool → Bool → Effect LogFault
  effect_by full long = if full then Err faults.Full else if long then Err faults.TooLong else Ok (write_changes (capacity_of rows) event.channel (next_number rows event) (next_text rows event))

  -- an event that is written isn't refused
  event_free : (after : Rows) → Makes (write_effect rows event) rows after → (is_full rows event.channel ≡ false) × (is_none (numbered event (next_number rows event)) ≡ false)
  event_free after makes = by (is_full rows event.channel) (is_none (numbered event (next_number rows event))) makes
    where
      by : (full long : Bool) → Makes (effect_by full long) rows after → (full ≡ false) × (long ≡ false)
      by true long made = absurd made
      by false true made = absurd made
      by false false made = (refl, refl)

  event_full : write_effect rows event ≡ Err faults.Full → is_full rows event.channel ≡ true
  event_full is = by (is_full rows event.channel) (is_none (numbered event (next_number rows event))) is
    where
      by : (full long : Bool) → effect_by full long ≡ Err faults.Full → full ≡ true
      by true long e = refl
      by false true e = cc
      by false false e = cc

  event_long : write_effect rows event ≡ Err faults.TooLong → (is_full rows event.channel ≡ false) × (is_none (numbered event (next_number rows event)) ≡ true)
  event_long is = by (is_full rows event.channel) (is_none (numbered event (next_number rows event))) is
    where
      by : (full long : Bool) → effect_by full long ≡ Err faults.TooLong → (full ≡ false) × (long ≡ true)
      by true long e = let bad : ⊥ = cc in absurd bad
      by false true e = (refl, refl)
      by false false e = let bad : ⊥ = cc in absurd bad

  -- and leaves it to those behind it how it ends
  goes_on : (k : ℕ) (events : List Event) → is_full rows event.channel ≡ false → is_none (numbered event (next_number rows event)) ≡ false
      → events_ending k rows (event ∷ events) ≡ events_ending (k + 1) (with_event rows event) events
  goes_on k events free short = λ i. cond (free i) ends.Full (cond (short i) (ends.BadLine k) (events_ending (k + 1) (with_event rows event) events))

-- how events end is told by those behind the first, where the first can be written
pub ending_behind : (k n : ℕ) (rows : Rows) (front behind : List Event) → n ≡ length front + k → events_ending k rows front ≡ ends.Done → events_ending k rows (front ++ behind) ≡ events_ending n (with_events rows front) behind
ending_behind k n rows [] behind is done = let same : k ≡ n = omega (arith, is) in ap (λ (m : ℕ). events_ending m rows behind) same
ending_behind k n rows (event ∷ front) behind is done =
    let next : n ≡ length front + (k + 1) = omega (arith, is) in
    by (is_full rows event.channel) (is_none (numbered event (next_number rows event))) (ending_behind (k + 1) n (with_event rows event) front behind next) done
  where
    how : Bool → Bool → Ending → Ending
    how full long rest = if full then ends.Full else if long then ends.BadLine k else rest

    by : (full long : Bool) → (events_ending (k + 1) (with_event rows event) front ≡ ends.Done → events_ending (k + 1) (with_event rows event) (front ++ behind) ≡ events_ending n (with_events (with_event rows event) front) behind)
        → how full long (events_ending (k + 1) (with_event rows event) front) ≡ ends.Done
        → how full long (events_ending (k + 1) (with_event rows event) (front ++ behind)) ≡ events_ending n (with_events (with_event rows event) front) behind
    by true long later e = let bad : ⊥ = cc in absurd bad
    by false true later e = let bad : ⊥ = cc in absurd bad
    by false false later e = later e

-- ---- events in a row

-- Events that were written one after the other, back from what is found behind them.
record WroteBack (events : List Event) (numbers : List ℕ) (before : Store) (last : Rows) : Type 0 where
  first : Rows
  found : MayFind before first
  rows : last ≡ with_events first events
  numbers_are : numbers ≡ numbers_of first events
  taken : (k : ℕ) → events_ending k first events ≡ ends.Done

event_over : (event : Event) (result : Result ℕ LogFault) (before now : Store) (last : Rows) → WritesEvent event result before now → before.opened ≡ true → MayFind now last
    → (first : Rows) × MayFind before first × GoesOver log_store (λ rows. write_effect rows event) (λ rows. next_number rows event) result first last
event_over event result before now last write opened may =
    let effect : Rows → Effect LogFault = λ rows. write_effect rows event in
    let value : Rows → ℕ = λ rows. next_number rows event in
    let back = which_found (λ rows. GoesOver log_store effect value result rows last) before.images (goes_over log_store AreFormed effect value before now last result write.0 write.2 may) in
    (back.0, told_before before now back.0 last write.2 opened write.0.untold may back.1, back.2)

wrote_over : (events : List Event) (numbers : List ℕ) (before now : Store) (last : Rows) → Wrote events numbers before now → before.opened ≡ true → MayFind now last → WroteBack events numbers before last
wrote_over [] [] before now last same opened may =
    record { first = last; found = subst (λ (store : Store). MayFind store last) same may; rows = refl; numbers_are = refl; taken = λ k. refl }
wrote_over [] (n ∷ numbers) before now last wrote opened may = absurd wrote
wrote_over (event ∷ events) [] before now last wrote opened may = absurd wrote
wrote_over (event ∷ events) (n ∷ numbers) before now last (next, write, wrote) opened may =
    let later = wrote_over events numbers next now last wrote (write.0.opened opened) may in
    let here = event_over event (Ok n) before next later.first write opened later.found in
    let made : later.first ≡ with_event here.0 event = event_made here.0 event later.first here.2.0 in
    let free = event_free here.0 event later.first here.2.0 in
    record {
      first = here.0;
      found = here.1;
      rows = later.rows ∙ ap (λ (rows : Rows). with_events rows events) made;
      numbers_are = (λ i. here.2.1 i ∷ later.numbers_are i) ∙ ap (λ (rows : Rows). next_number here.0 event ∷ numbers_of rows events) made;
      taken = λ k. goes_on here.0 event k events free.0 free.1 ∙ ap (λ (rows : Rows). events_ending (k + 1) rows events) (sym made) ∙ later.taken (k + 1);
    }

-- ---- where it ends

module _ (k : ℕ) (event : Event) (events : List Event) (text : List ℕ) (out : Told) (rows last : Rows) where
  refused_over : (fault : LogFault) → Appends out.before out.after text → GoesOver log_store (λ found. write_effect found event) (λ found. next_number found event) (Err fault) rows last
      → StopsOver (write_ending k fault) k (event ∷ events) text out rows last
  refused_over faults.NoMemory told goes = (told, inl goes)
  refused_over faults.Failed told goes = (told, goes)
  refused_over faults.Full told goes = (event_full rows event goes.0, told, goes.1)
  refused_over faults.TooLong told goes = let long = event_long rows event goes.0 in (refl, long.0, long.1, told, goes.1)

  untold_over : (ending : Ending) (n : ℕ) → IsUntold ending out text (written_line event.channel n) → Makes (write_effect rows event) rows last → n ≡ next_number rows event
      → StopsOver ending k (event ∷ events) text out rows last
  untold_over ends.OutputFailed n untold makes number =
      (untold.0, subst (λ (n : ℕ). (m : ℕ) × Appends out.before out.after (text ++ take m (written_line event.channel n))) number untold.1, makes)
  untold_over ends.NoMemory n untold makes number = (untold, inr makes)
  untold_over _ n untold makes number = absurd untold

-- Why it ends, back from what is found behind it.
record StopsBack (ending : Ending) (k : ℕ) (behind : List Event) (text : List ℕ) (out : Told) (before : Store) (last : Rows) : Type 0 where
  rows : Rows
  found : MayFind before rows
  stops : StopsOver ending k behind text out rows last

stops_over : (k : ℕ) (behind : List Event) (text : List ℕ) (ending : Ending) (out : Told) (before now : Store) (last : Rows) → EndsBefore k behind text ending out before now → before.opened ≡ true → MayFind now last
    → StopsBack ending k behind text out before last
stops_over k [] text ending out before now last (is, told, same) opened may =
    record { rows = last; found = subst (λ (store : Store). MayFind store last) same may; stops = subst (λ (e : Ending). StopsOver e k [] text out last last) (sym is) (told, refl) }
stops_over k (event ∷ events) text ending out before now last (inl (is, told, same)) opened may =
    record { rows = last; found = subst (λ (store : Store). MayFind store last) same may; stops = subst (λ (e : Ending). StopsOver e k (event ∷ events) text out last last) (sym is) (told, inl refl) }
stops_over k (event ∷ events) text ending out before now last (inr (inl (fault, write, is, told))) opened may =
    let back = event_over event (Err fault) before now last write opened may in
    record { rows = back.0; found = back.1; stops = subst (λ (e : Ending). StopsOver e k (event ∷ events) text out back.0 last) (sym is) (refused_over k event events text out back.0 last fault told back.2) }
stops_over k (event ∷ events) text ending out before now last (inr (inr (n, write, untold))) opened may =
    let back = event_over event (Ok n) before now last write opened may in
    record { rows = back.0; found = back.1; stops = untold_over k event events text out back.0 last ending n untold back.2.0 back.2.1 }

-- ---- the command

has_written : (events : List Event) (ending : Ending) (input out : Told) (before mid now : Store) (boot : ℕ) (found last : Rows) → HasEvents events input → StartsLog (Ok boot) before mid → WroteEvents events ending out mid now
    → Stand before found → MayFind now last → HasWritten ending input out found last
has_written events ending input out before mid now boot found last has start wrote stand may =
    let front = wrote.front in
    let k = length front + 1 in
    let opened = wrote_opened front wrote.numbers mid wrote.mid wrote.wrote start.0.ready.0 in
    let stops = stops_over k wrote.behind (written_text front wrote.numbers) ending out wrote.mid now last wrote.stops opened may in
    let over = wrote_over front wrote.numbers mid wrote.mid stops.rows wrote.wrote start.0.ready.0 stops.found in
    let effect : Rows → Effect LogFault = λ rows. start_effect rows LOG_CAPACITY in
    let back = which_found (λ rows. GoesOver log_store effect next_boot (Ok boot) rows over.first) before.images (goes_over log_store AreFormed effect next_boot before mid over.first (Ok boot) start.0 start.2 over.found) in
    let makes = subst (λ (rows : Rows). GoesOver log_store effect next_boot (Ok boot) rows over.first) (same_found before found back.0 stand back.1) back.2 in
    let begun : over.first ≡ log.started found LOG_CAPACITY = log_made found over.first makes.0 in
    let by_numbers = subst (λ (ns : List ℕ). StopsOver ending k wrote.behind (written_text front ns) out stops.rows last) over.numbers_are stops.stops in
    let by_rows = subst (λ (rows : Rows). StopsOver ending k wrote.behind (written_text front (numbers_of over.first front)) out rows last) over.rows by_numbers in
    record {
      front = front;
      behind = wrote.behind;
      events = subst (λ (es : List Event). HasEvents es input) (sym wrote.whole) has;
      starts = log_room found over.first makes.0;
      taken = λ k. ap (λ (rows : Rows). events_ending k rows front) (sym begun) ∙ over.taken k;
      stops = subst (λ (rows : Rows). StopsOver ending k wrote.behind (written_text front (numbers_of rows front)) out (with_events rows front) last) begun by_rows;
    }

pub writes_as_far : WritesAsFar
writes_as_far ending input out before now (inl (judged, unwritten, same)) lawful found last stand may = inl (judged, unwritten, same_store before now found last same stand may)
writes_as_far ending input out before now (inr (events, has, inl (fault, start, is, unwritten))) lawful found last stand may =
    let effect : Rows → Effect LogFault = λ rows. start_effect rows LOG_CAPACITY in
    let back = which_found (λ rows. GoesOver log_store effect next_boot (Err fault) rows last) before.images (goes_over log_store AreFormed effect next_boot before now last (Err fault) start.0 start.2 may) in
    inr (inl (events, fault, has, is, start.1, unwritten, subst (λ (rows : Rows). GoesOver log_store effect next_boot (Err fault) rows last) (same_found before found back.0 stand back.1) back.2))
writes_as_far ending input out before now (inr (events, has, inr (boot, mid, start, wrote))) lawful found last stand may =
    inr (inr (has_written events ending input out before mid now boot found last has start wrote stand may))
