-- That `write` tells the history: its events are the next records of their channels, by the numbers that it prints.
use Rattle.std.proofs.Common.{◌≡◌, ◌⊎◌, inl, inr, ℕ, zero, suc, ◌+◌, ◌-◌, ◌<◌, Bool, true, false, cond, List, [], ◌∷◌, ◌++◌, length, take, ap, sym, refl, subst, ◌∙◌, arith, append-nil}
use Rattle.std.proofs.lemmas.Bool.Decides.{nat_tests}
use Rattle.std.specs.Cmp.{eq_by_cmp_equiv}
use Rattle.std.specs.Cmp.Lexicographic.{nat_list_cmp_total}
use Rattle.std.specs.FinMap as finite
use Rattle.std.specs.Prelude.{Option, Some, None, Ok, Err, is_none, slice_get, unwrap_or, ◌==◌}
use Rattle.std.specs.Io.KnownBytes.{Appends}
use Rattle.wef_commands.specs.Endings.{Told}
use Rattle.wef_commands.specs.Laws.{StopsOver, WriteGoes, WritesAsFar, numbers_of, with_event, with_events}
use Rattle.wef_commands.specs.Writing.{HasEvents, written_line, written_text}
use Rattle.wef_commands.specs.declared.ending.Ending.{Ending}
use Rattle.wef_commands.specs.declared.ending.Ending.TheVariants as ends
use Rattle.wef_commands.specs.declared.writing.TheConstants.{LOG_CAPACITY}
use Rattle.wef_event.specs.Events.{Event}
use Rattle.wef_event.specs.Numbering.{numbered, numbered_text}
use Rattle.wef_keeper.proofs.Going.{may_leave}
use Rattle.wef_keeper.specs.Calls.{Makes, MayLeave}
use Rattle.wef_keeper.specs.Rows.{Rows}
use Rattle.wef_safety.proofs.Moves.{put_there}
use Rattle.wef_source_log.proofs.Cells.{extends, starts_keep}
use Rattle.wef_source_log.specs.Answers.{is_boot_full, is_full, next_boot, next_number, next_text, start_effect, write_effect}
use Rattle.wef_source_log.specs.Faults.{log_store}
use Rattle.wef_source_log.specs.Histories.{Histories, History, extended, history, text_at}
use Rattle.wef_source_log.specs.LogWindow as log
use Rattle.wef_source_log.specs.LogWindow.{IsWindow, capacity_of, last_of, start_changes, write_changes}
use Rattle.wef_source_log.specs.declared.faults.LogFault.{LogFault}
use Rattle.wef_source_log.specs.declared.faults.LogFault.TheVariants.{Full, TooLong}
use Rattle.wef_runs.specs.Recorded.{AreRecords, HasRecorded, Records, WritesTellHistory, next_in, numbers_in, text_in, with_record, with_records}

-- ---- records of longer histories

got_longer : (xs more : History) (k : ℕ) (x : List ℕ) → slice_get xs k ≡ Some x → slice_get (xs ++ more) k ≡ Some x
got_longer [] more k x e = cc
got_longer (y ∷ xs) more zero x e = e
got_longer (y ∷ xs) more (suc k) x e = got_longer xs more k x e

got_last : (xs : History) (x : List ℕ) → slice_get (xs ++ x ∷ []) (length xs) ≡ Some x
got_last [] x = refl
got_last (y ∷ xs) x = got_last xs x

text_longer : (records more : History) (n : ℕ) (text : List ℕ) → text_at records n ≡ Some text → text_at (records ++ more) n ≡ Some text
text_longer records more n text e = by (n == 0) e
  where
    by : (t : Bool) → cond t None (slice_get records (n - 1)) ≡ Some text → cond t None (slice_get (records ++ more) (n - 1)) ≡ Some text
    by true e = e
    by false e = got_longer records more (n - 1) text e

text_last : (records : History) (text : List ℕ) → text_at (records ++ text ∷ []) (length records + 1) ≡ Some text
text_last records text = ap (λ (t : Bool). cond t None (slice_get (records ++ text ∷ []) (length records + 1 - 1))) (above (length records)) ∙ ap (slice_get (records ++ text ∷ [])) (below (length records)) ∙ got_last records text
  where
    above : (k : ℕ) → (k + 1 == 0) ≡ false
    above k = grind (arith, nat_tests)

    below : (k : ℕ) → k + 1 - 1 ≡ k
    below k = omega arith

-- what is a record stays so where one more is written
record_stays : (all : Histories) (c text : List ℕ) (d : List ℕ) (n : ℕ) (found : List ℕ) → text_at (history all d) n ≡ Some found → text_at (history (extended all c text) d) n ≡ Some found
record_stays all c text d n found e =
    put_there all c (history all c ++ text ∷ []) d (λ (o : Option History). text_at (unwrap_or o []) n ≡ Some found)
    (λ is. text_longer (history all c) (text ∷ []) n found (subst (λ (name : List ℕ). text_at (history all name) n ≡ Some found) is e)) e

record_last : (all : Histories) (c text : List ℕ) → text_at (history (extended all c text) c) (length (history all c) + 1) ≡ Some text
record_last all c text = ap (λ (o : Option History). text_at (unwrap_or o []) (length (history all c) + 1)) put ∙ text_last (history all c) text
  where
    put : finite.get (extended all c text) c ≡ Some (history all c ++ text ∷ [])
    put =
        finite.get-insert nat_list_cmp_total all c (history all c ++ text ∷ []) c
        ∙ ap (λ (t : Bool). cond t (Some (history all c ++ text ∷ [])) (finite.get all c)) ((eq_by_cmp_equiv nat_list_cmp_total).refl c)

records_stay : (all : Histories) (events : List Event) (d : List ℕ) (n : ℕ) (found : List ℕ) → text_at (history all d) n ≡ Some found → text_at (history (with_records all events) d) n ≡ Some found
records_stay all [] d n found e = e
records_stay all (event ∷ events) d n found e = records_stay (with_record all event) events d n found (record_stays all event.channel (text_in all event) d n found e)

-- each of the events is a record then, also where more are written behind them
are_records : (all : Histories) (events more : List Event) → AreRecords (with_records all (events ++ more)) events (numbers_in all events)
are_records all [] more = tt
are_records all (event ∷ events) more = (
  records_stay (with_record all event) (events ++ more) event.channel (next_in all event) (text_in all event) (record_last all event.channel (text_in all event)),
  are_records (with_record all event) events more,
)

-- events behind others
records_joined : (all : Histories) (events more : List Event) → with_records all (events ++ more) ≡ with_records (with_records all events) more
records_joined all [] more = refl
records_joined all (event ∷ events) more = records_joined (with_record all event) events more

-- ---- windows

module _ (boot : ℕ) (begun : 0 < boot) where
  -- a write that is done is one record more, under the number that is next
  one_written : (rows : Rows) (all : Histories) (event : Event) → IsWindow rows all LOG_CAPACITY boot
      → (next_number rows event ≡ next_in all event) × IsWindow (with_event rows event) (with_record all event) LOG_CAPACITY boot
  one_written rows all event window =
      let is = extends rows (with_event rows event) event (next_number rows event) refl refl all LOG_CAPACITY boot (omega arith) begun window in
      (is.0, subst (λ (n : ℕ). IsWindow (with_event rows event) (extended all event.channel (numbered_text event n)) LOG_CAPACITY boot) is.0 is.1)

  -- and so are these
  all_written : (rows : Rows) (all : Histories) (events : List Event) → IsWindow rows all LOG_CAPACITY boot
      → (numbers_of rows events ≡ numbers_in all events) × IsWindow (with_events rows events) (with_records all events) LOG_CAPACITY boot
  all_written rows all [] window = (refl, window)
  all_written rows all (event ∷ events) window =
      let here = one_written rows all event window in
      let there = all_written (with_event rows event) (with_record all event) events here.1 in
      ((λ i. here.0 i ∷ there.0 i), there.1)

-- a write makes the rows with one record more
pub makes_event : (rows last : Rows) (event : Event) → Makes (write_effect rows event) rows last → last ≡ with_event rows event
makes_event rows last event made = by (is_full rows event.channel) (is_none (numbered event (next_number rows event))) made
  where
    by : (full none : Bool)
        → Makes {F = LogFault} (cond full (Err Full) (cond none (Err TooLong) (Ok (write_changes (capacity_of rows) event.channel (next_number rows event) (next_text rows event))))) rows last
        → last ≡ with_event rows event
    by true none made = absurd made
    by false true made = absurd made
    by false false made = made

-- a start leaves the window, under the same boot number or the next
start_window : (found last : Rows) (all : Histories) (boot : ℕ) → IsWindow found all LOG_CAPACITY boot → MayLeave (λ rows. start_effect rows LOG_CAPACITY) last found
    → IsWindow last all LOG_CAPACITY boot ⊎ IsWindow last all LOG_CAPACITY (boot + 1)
start_window found last all boot window (inl same) = inl (subst (λ (rows : Rows). IsWindow rows all LOG_CAPACITY boot) (sym same) window)
start_window found last all boot window (inr made) = by (is_boot_full found) made
  where
    by : (full : Bool) → Makes {F = LogFault} (cond full (Err Full) (Ok (start_changes found LOG_CAPACITY))) found last → IsWindow last all LOG_CAPACITY boot ⊎ IsWindow last all LOG_CAPACITY (boot + 1)
    by true made = absurd made
    by false made = inr (subst (λ (rows : Rows). IsWindow rows all LOG_CAPACITY (boot + 1)) (sym made) (starts_keep found all LOG_CAPACITY boot window))

-- ---- a run

-- events that were written over a log that was started, behind which it ended
module _ (input out : Told) (all : Histories) (boot : ℕ) (rows last : Rows) (window : IsWindow rows all LOG_CAPACITY (boot + 1)) (front : List Event) where
  abbrev numbers : List ℕ
  numbers = numbers_of rows front

  abbrev records : Histories
  records = with_records all front

  written : (numbers ≡ numbers_in all front) × IsWindow (with_events rows front) records LOG_CAPACITY (boot + 1)
  written = all_written (boot + 1) (omega arith) rows all front window

  -- where no more was written
  none_more : (ending : Ending) (rest : List Event) → HasEvents (front ++ rest) input → Appends out.before out.after (written_text front numbers) → last ≡ with_events rows front → (ending ≡ ends.Done → rest ≡ [])
      → HasRecorded ending input out all boot last
  none_more ending rest has printed same whole = record {
    told = front;
    untold = [];
    rest = rest;
    events = has;
    few = omega arith;
    window = subst (λ (x : Rows × Histories). IsWindow x.0 x.1 LOG_CAPACITY (boot + 1)) (λ i. (sym same i, sym (records_joined all front []) i)) written.1;
    printed = (0, subst (Appends out.before out.after) (ap (written_text front) written.0 ∙ sym (append-nil (written_text front (numbers_in all front)))) printed);
    named = are_records all front [];
    whole = λ done. (refl, whole done);
  }

  -- and where one more was, so much of whose line is printed
  one_more : (ending : Ending) (event : Event) (rest : List Event) (m : ℕ) → HasEvents (front ++ event ∷ rest) input
      → Appends out.before out.after (written_text front numbers ++ take m (written_line event.channel (next_number (with_events rows front) event))) → last ≡ with_event (with_events rows front) event
      → (ending ≡ ends.Done → ⊥) → HasRecorded ending input out all boot last
  one_more ending event rest m has printed same unfinished =
      let here = one_written (boot + 1) (omega arith) (with_events rows front) records event written.1 in
      record {
        told = front;
        untold = event ∷ [];
        rest = rest;
        events = has;
        few = omega arith;
        window = subst (λ (x : Rows × Histories). IsWindow x.0 x.1 LOG_CAPACITY (boot + 1)) (λ i. (sym same i, sym (records_joined all front (event ∷ [])) i)) here.1;
        printed = (
          m,
          subst (Appends out.before out.after)
              (λ i. written_text front (written.0 i) ++ take m (sym (append-nil (written_line event.channel (here.0 i))) i)) printed,
        );
        named = are_records all front (event ∷ []);
        whole = λ done. absurd (unfinished done);
      }

  -- where a write may have been cut off
  maybe_more : (ending : Ending) (event : Event) (rest : List Event) → HasEvents (front ++ event ∷ rest) input → Appends out.before out.after (written_text front numbers)
      → MayLeave (λ found. write_effect found event) last (with_events rows front) → (ending ≡ ends.Done → ⊥) → HasRecorded ending input out all boot last
  maybe_more ending event rest has printed (inl same) unfinished = none_more ending (event ∷ rest) has printed same (λ done. absurd (unfinished done))
  maybe_more ending event rest has printed (inr made) unfinished =
      one_more ending event rest 0 has (subst (Appends out.before out.after) (sym (append-nil (written_text front numbers))) printed) (makes_event (with_events rows front) last event made) unfinished

  recorded : (ending : Ending) (behind : List Event) (k : ℕ) → HasEvents (front ++ behind) input → StopsOver ending k behind (written_text front numbers) out (with_events rows front) last
      → HasRecorded ending input out all boot last
  recorded ends.Done [] k has (printed, same) = none_more ends.Done [] has printed same (λ done. refl)
  recorded ends.Full (event ∷ rest) k has (full, printed, same) = none_more ends.Full (event ∷ rest) has printed same (λ done. cc)
  recorded (ends.BadLine line) (event ∷ rest) k has (is, room, long, printed, same) = none_more (ends.BadLine line) (event ∷ rest) has printed same (λ done. cc)
  recorded ends.StoreFailed (event ∷ rest) k has (printed, left) = maybe_more ends.StoreFailed event rest has printed left (λ done. cc)
  recorded ends.NoMemory (event ∷ rest) k has (printed, left) = maybe_more ends.NoMemory event rest has printed left (λ done. cc)
  recorded ends.OutputFailed (event ∷ rest) k has (failed, (m, printed), made) = one_more ends.OutputFailed event rest m has printed (makes_event (with_events rows front) last event made) (λ done. cc)
  recorded _ _ k has none = absurd none

records_by : (ending : Ending) (input out : Told) (found last : Rows) (all : Histories) (boot : ℕ) → IsWindow found all LOG_CAPACITY boot → WriteGoes ending input out found last → Records ending input out all boot last
records_by ending input out found last all boot window (inl (judging, unwritten, same)) =
    inl (record { unwritten = unwritten; window = inl (subst (λ (rows : Rows). IsWindow rows all LOG_CAPACITY boot) (sym same) window) })
records_by ending input out found last all boot window (inr (inl (events, fault, has, is, refuses, unwritten, goes))) =
    inl (record { unwritten = unwritten; window = start_window found last all boot window (may_leave log_store (λ rows. start_effect rows LOG_CAPACITY) next_boot (Err fault) found last goes) })
records_by ending input out found last all boot window (inr (inr has)) =
    inr (recorded input out all boot (log.started found LOG_CAPACITY) last (starts_keep found all LOG_CAPACITY boot window) has.front ending has.behind (length has.front + 1) has.events has.stops)

pub writes_tell_history : WritesAsFar → WritesTellHistory
writes_tell_history far ending input out before now ends lawful found last stood may all boot window = records_by ending input out found last all boot window (far ending input out before now ends lawful found last stood may)
