-- What a run may leave, whatever its ending: from any rows that an opening may find behind it, back to those that stood before.
use Rattle.std.proofs.Common.{◌≡◌, ◌⊎◌, inl, inr, ℕ, true, false, List, [], ◌∷◌, ◌++◌, ap, sym, refl, subst, ◌∙◌, append_assoc}
use Rattle.std.specs.List.{AllByRecursion}
use Rattle.std.specs.Prelude.{Option, Some, None, Result, Ok, Err, IfSome, is_some}
use Rattle.wef_collector.specs.Boots.{memory_begun}
use Rattle.wef_collector.specs.Calls.{add_effect, boot_effect, end_effect}
use Rattle.wef_collector.specs.declared.memories.Memory.{Memory}
use Rattle.wef_collector_rows.specs.Faults.{collector_store}
use Rattle.wef_collector_rows.specs.Forms.{AreFormed}
use Rattle.wef_collector_rows.specs.declared.faults.CollectorFault.{CollectorFault}
use Rattle.wef_event.specs.Events.{Event}
use Rattle.wef_keeper.proofs.Going.{calm_rows, goes_over, may_leave, one_of, told_before, which_found}
use Rattle.wef_keeper.specs.Access.{HasOpened}
use Rattle.wef_keeper.specs.Calls.{Effect, GoesOver, IsCall, MayLeave}
use Rattle.wef_keeper.specs.Keeping.{IsLawful, IsOneOf, MayFind, Stays, Store, WhereTold}
use Rattle.wef_keeper.specs.Rows.{Rows}
use Rattle.wef_source_log.specs.Answers.{next_boot, next_number, start_effect, write_effect}
use Rattle.wef_source_log.specs.Faults.{log_store}
use Rattle.wef_source_log.specs.Forms as log_forms
use Rattle.wef_source_log.specs.LogWindow as log
use Rattle.wef_source_log.specs.declared.faults.LogFault.{LogFault}
use Rattle.wef_commands.proofs.ByRows.{boot_made, boot_room, could_start, image_of, started_so}
use Rattle.wef_commands.proofs.LogByRows.{event_made, log_made, log_room}
use Rattle.wef_commands.specs.Calling.{Starts}
use Rattle.wef_commands.specs.Endings.{Told}
use Rattle.wef_commands.specs.Laws.{AddLeaves, AreWritten, CallsAtMost, ReadersLeave, RemoveLeaves, Stand, StartsAtMost, WriteLeaves, can_start, started, with_event, with_events}
use Rattle.wef_commands.specs.Writing.{EndsBefore, HasEvents, StartsLog, WritesEvent, Wrote, WroteEvents}
use Rattle.wef_commands.specs.declared.ending.Ending.{Ending}
use Rattle.wef_commands.specs.declared.writing.TheConstants.{LOG_CAPACITY}

-- ---- starts

-- the rows that were found are those that stood
pub same_found : (before : Store) (found rows : Rows) → Stand before found → IfSome before.images (λ old. IsOneOf old rows) → rows ≡ found
same_found before found rows stand one = subst (λ (o : Option (List Rows)). IfSome o (λ old. IsOneOf old rows)) (image_of before found stand) one

-- a store that is as it was
pub same_store : (before now : Store) (found last : Rows) → now ≡ before → Stand before found → MayFind now last → last ≡ found
same_store before now found last same stand may =
    let told = subst (λ (store : Store). MayFind store last) same may in
    subst (λ (o : Option (List Rows)). WhereTold o (λ old. IsOneOf old last)) (image_of before found stand) told

-- a start that was refused
refused_start : (before now : Store) (fault : CollectorFault) (found last : Rows) → Starts (Err fault) before now → Stand before found → MayFind now last → StartsAtMost found last
refused_start before now fault found last start stand may =
    let back = which_found (λ rows. GoesOver collector_store boot_effect memory_begun (Err fault) rows last) before.images
    (goes_over collector_store AreFormed boot_effect memory_begun before now last (Err fault) start.0 start.2 may) in
    by (subst (λ (rows : Rows). MayLeave boot_effect last rows) (same_found before found back.0 stand back.1) (may_leave collector_store boot_effect memory_begun (Err fault) back.0 last back.2))
  where
    by : MayLeave boot_effect last found → StartsAtMost found last
    by (inl same) = inl same
    by (inr made) = inr (boot_room found last made, boot_made found last made)

-- the rows of a collector that was started are those of the start, and it could be started
begun_rows : (before mid : Store) (memory : Memory) (found rows : Rows) → Starts (Ok memory) before mid → Stand before found → MayFind mid rows → (can_start found ≡ true) × (rows ≡ started found)
begun_rows before mid memory found rows start stand may =
    let told = calm_rows mid.rows mid.images rows start.2.both (start.2.only start.0.ready.1) may in
    (could_start before mid memory found rows start stand told, started_so before mid memory found rows start stand told)

-- ---- a call of the collector

module _ (before mid now : Store) (memory : Memory) (found last : Rows) (start : Starts (Ok memory) before mid) (stand : Stand before found) (lawful : IsLawful now) (may : MayFind now last) where
  begun_leaves : {T : Type 0} (effect : Rows → Effect CollectorFault) (value : Rows → T) (result : Result T CollectorFault) → IsCall collector_store AreFormed effect value result mid now
      → (can_start found ≡ true) × MayLeave effect last (started found)
  begun_leaves effect value result call =
      let back = which_found (λ rows. GoesOver collector_store effect value result rows last) mid.images (goes_over collector_store AreFormed effect value mid now last result call lawful may) in
      let told = told_before mid now back.0 last lawful start.0.ready.0 call.untold may back.1 in
      let begun = begun_rows before mid memory found back.0 start stand told in
      (begun.0, subst (λ (rows : Rows). MayLeave effect last rows) begun.1 (may_leave collector_store effect value result back.0 last back.2))

  -- and one that only reads
  looked_leaves : HasOpened mid now → (can_start found ≡ true) × (last ≡ started found)
  looked_leaves opened = begun_rows before mid memory found last start stand (by mid.images now.images refl refl opened.0 may)
    where
      by : (old all : Option (List Rows)) → mid.images ≡ old → now.images ≡ all → IfSome old (λ olds. IfSome all (AllByRecursion (IsOneOf olds))) → WhereTold all (λ images. IsOneOf images last) → WhereTold old (λ olds. IsOneOf olds last)
      by old None was is narrows may = absurd may
      by (Some olds) (Some all) was is narrows may = one_of (IsOneOf olds) all last may narrows
      by None (Some all) was is narrows may =
          let rowless : is_some now.rows ≡ false = opened.7 start.0.ready.0 (ap (λ (o : Option (List Rows)). is_some o) was) in
          let no : true ≡ false = sym (ap (λ (o : Option (List Rows)). is_some o) is) ∙ lawful.both ∙ rowless in cc

  read_leaves : Stays mid.images now.images → (can_start found ≡ true) × (last ≡ started found)
  read_leaves stays = begun_rows before mid memory found last start stand (by now.images stays may)
    where
      by : (all : Option (List Rows)) → IfSome all (λ told. mid.images ≡ Some told) → WhereTold all (λ images. IsOneOf images last) → MayFind mid last
      by None stays may = absurd may
      by (Some all) stays may = subst (λ (o : Option (List Rows)). WhereTold o (λ images. IsOneOf images last)) (sym stays) may

-- ---- the collector's commands

at_most : (effect : Rows → Effect CollectorFault) (found last : Rows) → StartsAtMost found last → CallsAtMost effect found last
at_most effect found last (inl same) = inl same
at_most effect found last (inr (starts, is)) = inr (starts, inl is)

pub add_leaves : AddLeaves
add_leaves ending input out before now (inl (why, unwritten, same)) lawful found last stand may = inl (same_store before now found last same stand may)
add_leaves ending input out before now (inr (s, document, again, inl (fault, start, is, unwritten))) lawful found last stand may =
    inr (s, document, at_most (λ rows. add_effect rows s) found last (refused_start before now fault found last start stand may))
add_leaves ending input out before now (inr (s, document, again, inr (inl (fault, begun, is, unwritten)))) lawful found last stand may =
    inr (s, document, inr (begun_leaves before begun.mid now begun.memory found last begun.start stand lawful may (λ rows. add_effect rows s) (λ _. tt) (Err fault) begun.call.0))
add_leaves ending input out before now (inr (s, document, again, inr (inr (done, begun, wrote)))) lawful found last stand may =
    inr (s, document, inr (begun_leaves before begun.mid now begun.memory found last begun.start stand lawful may (λ rows. add_effect rows s) (λ _. tt) (Ok done) begun.call.0))

pub remove_leaves : RemoveLeaves
remove_leaves u ending out before now (inl (is, unwritten, same)) lawful found last stand may = inl (same_store before now found last same stand may)
remove_leaves u ending out before now (inr (inl (fault, start, is, unwritten))) lawful found last stand may = at_most (λ rows. end_effect rows u) found last (refused_start before now fault found last start stand may)
remove_leaves u ending out before now (inr (inr (inl (fault, begun, is, unwritten)))) lawful found last stand may =
    inr (begun_leaves before begun.mid now begun.memory found last begun.start stand lawful may (λ rows. end_effect rows u) (λ _. tt) (Err fault) begun.call.0)
remove_leaves u ending out before now (inr (inr (inr (done, begun, wrote)))) lawful found last stand may =
    inr (begun_leaves before begun.mid now begun.memory found last begun.start stand lawful may (λ rows. end_effect rows u) (λ _. tt) (Ok done) begun.call.0)

pub readers_leave : ReadersLeave
readers_leave = record {
  list = λ ending out before now ends. elim ends [
    | inl refused ↦ λ lawful found last stand may. refused_start before now refused.0 found last refused.1 stand may
    | inr behind ↦ elim behind [
      | inl unread ↦ λ lawful found last stand may. inr (looked_leaves before unread.1.mid now unread.1.memory found last unread.1.start stand lawful may unread.1.call.0.opened.0)
      | inr read ↦ λ lawful found last stand may. inr (looked_leaves before read.1.mid now read.1.memory found last read.1.start stand lawful may read.1.call.0.opened.0)
    ]
  ];
  show = λ ending out before now ends. elim ends [
    | inl refused ↦ λ lawful found last stand may. refused_start before now refused.0 found last refused.1 stand may
    | inr behind ↦ elim behind [
      | inl unread ↦ λ lawful found last stand may. inr (looked_leaves before unread.1.mid now unread.1.memory found last unread.1.start stand lawful may unread.1.call.0.opened.0)
      | inr read ↦ λ lawful found last stand may. inr (looked_leaves before read.1.mid now read.1.memory found last read.1.start stand lawful may read.1.call.0.opened.0)
    ]
  ];
  events = λ u s c ending out before now ends. elim ends [
    | inl undone ↦ λ lawful found last stand may. inl (same_store before now found last undone.2 stand may)
    | inr behind ↦ elim behind [
      | inl refused ↦ λ lawful found last stand may. refused_start before now refused.0 found last refused.1 stand may
      | inr begun ↦ λ lawful found last stand may. inr (read_leaves before begun.mid now begun.memory found last begun.start stand lawful may begun.call.reads.0.2)
    ]
  ];
  status = λ u moment ending out before now ends. elim ends [
    | inl refused ↦ λ lawful found last stand may. refused_start before now refused.0 found last refused.1 stand may
    | inr behind ↦ elim behind [
      | inl unread ↦ λ lawful found last stand may. inr (looked_leaves before unread.1.mid now unread.1.memory found last unread.1.start stand lawful may unread.1.call.0.opened.0)
      | inr read ↦ λ lawful found last stand may. inr (looked_leaves before read.1.mid now read.1.memory found last read.1.start stand lawful may read.1.call.0.opened.0)
    ]
  ];
}

-- ---- `write`

-- events, and one behind them
with_one_more : (rows : Rows) (front : List Event) (event : Event) → with_events rows (front ++ event ∷ []) ≡ with_event (with_events rows front) event
with_one_more rows [] event = refl
with_one_more rows (first ∷ front) event = with_one_more (with_event rows first) front event

-- one event, back from what is found behind it
event_back : (event : Event) (result : Result ℕ LogFault) (before now : Store) (last : Rows) → WritesEvent event result before now → before.opened ≡ true → MayFind now last
    → (first : Rows) × MayFind before first × MayLeave (λ rows. write_effect rows event) last first
event_back event result before now last write opened may =
    let effect : Rows → Effect LogFault = λ rows. write_effect rows event in
    let value : Rows → ℕ = λ rows. next_number rows event in
    let back = which_found (λ rows. GoesOver log_store effect value result rows last) before.images (goes_over log_store log_forms.AreFormed effect value before now last result write.0 write.2 may) in
    (back.0, told_before before now back.0 last write.2 opened write.0.untold may back.1, may_leave log_store effect value result back.0 last back.2)

done_back : (event : Event) (n : ℕ) (before now : Store) (last : Rows) → WritesEvent event (Ok n) before now → before.opened ≡ true → MayFind now last → (first : Rows) × MayFind before first × (last ≡ with_event first event)
done_back event n before now last write opened may =
    let effect : Rows → Effect LogFault = λ rows. write_effect rows event in
    let value : Rows → ℕ = λ rows. next_number rows event in
    let back = which_found (λ rows. GoesOver log_store effect value (Ok n) rows last) before.images (goes_over log_store log_forms.AreFormed effect value before now last (Ok n) write.0 write.2 may) in
    (back.0, told_before before now back.0 last write.2 opened write.0.untold may back.1, event_made back.0 event last back.2.0)

wrote_back : (events : List Event) (numbers : List ℕ) (before now : Store) (last : Rows) → Wrote events numbers before now → before.opened ≡ true → MayFind now last → (first : Rows) × MayFind before first × (last ≡ with_events first events)
wrote_back [] [] before now last same opened may = (last, subst (λ (store : Store). MayFind store last) same may, refl)
wrote_back [] (n ∷ numbers) before now last wrote opened may = absurd wrote
wrote_back (event ∷ events) [] before now last wrote opened may = absurd wrote
wrote_back (event ∷ events) (n ∷ numbers) before now last (next, write, wrote) opened may =
    let later = wrote_back events numbers next now last wrote (write.0.opened opened) may in
    let here = done_back event n before next later.0 write opened later.1 in
    (here.0, here.1, later.2 ∙ ap (λ (rows : Rows). with_events rows events) here.2)

pub wrote_opened : (events : List Event) (numbers : List ℕ) (before now : Store) → Wrote events numbers before now → before.opened ≡ true → now.opened ≡ true
wrote_opened [] [] before now same opened = ap (λ (store : Store). store.opened) same ∙ opened
wrote_opened [] (n ∷ numbers) before now wrote opened = absurd wrote
wrote_opened (event ∷ events) [] before now wrote opened = absurd wrote
wrote_opened (event ∷ events) (n ∷ numbers) before now (next, write, wrote) opened = wrote_opened events numbers next now wrote (write.0.opened opened)

-- where it ends, at most one event more was written
stops_back : (k : ℕ) (behind : List Event) (text : List ℕ) (ending : Ending) (out : Told) (before now : Store) (last : Rows) → EndsBefore k behind text ending out before now → before.opened ≡ true → MayFind now last
    → (more rest : List Event) × (more ++ rest ≡ behind) × ((first : Rows) × MayFind before first × (last ≡ with_events first more))
stops_back k [] text ending out before now last (is, told, same) opened may = ([], [], refl, (last, subst (λ (store : Store). MayFind store last) same may, refl))
stops_back k (event ∷ events) text ending out before now last (inl (is, told, same)) opened may = ([], event ∷ events, refl, (last, subst (λ (store : Store). MayFind store last) same may, refl))
stops_back k (event ∷ events) text ending out before now last (inr (inl (fault, write, is, told))) opened may = by (event_back event (Err fault) before now last write opened may)
  where
    by : (first : Rows) × MayFind before first × MayLeave (λ rows. write_effect rows event) last first
        → (more rest : List Event) × (more ++ rest ≡ event ∷ events) × ((first : Rows) × MayFind before first × (last ≡ with_events first more))
    by (first, found, inl same) = ([], event ∷ events, refl, (first, found, same))
    by (first, found, inr made) = (event ∷ [], events, refl, (first, found, event_made first event last made))
stops_back k (event ∷ events) text ending out before now last (inr (inr (n, write, untold))) opened may = (event ∷ [], events, refl, done_back event n before now last write opened may)

both_parts : (rows : Rows) (front more : List Event) → with_events rows (front ++ more) ≡ with_events (with_events rows front) more
both_parts rows [] more = refl
both_parts rows (event ∷ front) more = both_parts (with_event rows event) front more

write_begun : (events : List Event) (ending : Ending) (input out : Told) (before mid now : Store) (boot : ℕ) (found last : Rows) → HasEvents events input → StartsLog (Ok boot) before mid → WroteEvents events ending out mid now
    → Stand before found → MayFind now last → AreWritten input found last
write_begun events ending input out before mid now boot found last has start wrote stand may =
    let opened = wrote_opened wrote.front wrote.numbers mid wrote.mid wrote.wrote start.0.ready.0 in
    let stops = stops_back _ wrote.behind _ ending out wrote.mid now last wrote.stops opened may in
    let front = wrote_back wrote.front wrote.numbers mid wrote.mid stops.3.0 wrote.wrote start.0.ready.0 stops.3.1 in
    let effect : Rows → Effect LogFault = λ rows. start_effect rows LOG_CAPACITY in
    let told = calm_rows mid.rows mid.images front.0 start.2.both (start.2.only start.0.ready.1) front.1 in
    let back = which_found (λ rows. GoesOver log_store effect next_boot (Ok boot) rows front.0) before.images (goes_over log_store log_forms.AreFormed effect next_boot before mid front.0 (Ok boot) start.0 start.2 front.1) in
    let makes = subst (λ (rows : Rows). GoesOver log_store effect next_boot (Ok boot) rows front.0) (same_found before found back.0 stand back.1) back.2 in
    let begun : front.0 ≡ log.started found LOG_CAPACITY = log_made found front.0 makes.0 in
    record {
      front = wrote.front ++ stops.0;
      behind = stops.1;
      events = subst (λ (es : List Event). HasEvents es input) (sym (append_assoc wrote.front stops.0 stops.1 ∙ ap (λ (es : List Event). wrote.front ++ es) stops.2 ∙ wrote.whole)) has;
      starts = log_room found front.0 makes.0;
      rows = stops.3.2 ∙ ap (λ (rows : Rows). with_events rows stops.0) front.2 ∙ sym (both_parts front.0 wrote.front stops.0) ∙ ap (λ (rows : Rows). with_events rows (wrote.front ++ stops.0)) begun;
    }

pub write_leaves : WriteLeaves
write_leaves ending input out before now (inl (judged, unwritten, same)) lawful found last stand may = inl (same_store before now found last same stand may)
write_leaves ending input out before now (inr (events, has, inl (fault, start, is, unwritten))) lawful found last stand may = by
    (subst (λ (rows : Rows). MayLeave effect last rows) (same_found before found back.0 stand back.1) (may_leave log_store effect next_boot (Err fault) back.0 last back.2))
  where
    effect : Rows → Effect LogFault
    effect = λ rows. start_effect rows LOG_CAPACITY

    back : (rows : Rows) × IfSome before.images (λ old. IsOneOf old rows) × GoesOver log_store effect next_boot (Err fault) rows last
    back = which_found (λ rows. GoesOver log_store effect next_boot (Err fault) rows last) before.images (goes_over log_store log_forms.AreFormed effect next_boot before now last (Err fault) start.0 start.2 may)

    by : MayLeave effect last found → (last ≡ found) ⊎ AreWritten input found last
    by (inl same) = inl same
    by (inr made) = inr (record { front = []; behind = events; events = has; starts = log_room found last made; rows = log_made found last made })
write_leaves ending input out before now (inr (events, has, inr (boot, mid, start, wrote))) lawful found last stand may =
    inr (write_begun events ending input out before mid now boot found last has start wrote stand may)
