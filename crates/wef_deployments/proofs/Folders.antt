-- Runs of `write`, `forward` and `serve` as deeds, by their accounts.
use Rattle.std.proofs.Common.{◌≡◌, ◌⊎◌, inl, inr, ℕ, ◌+◌, ◌<◌, Bool, true, false, cond, List, [], ◌∷◌, ◌++◌, length, map, ap, sym, refl, subst, ◌∙◌, arith}
use Rattle.std.specs.List.{AllByRecursion, cons_option}
use Rattle.std.specs.Prelude.{Option, Some, None, Ok, Err, is_none}
use Rattle.wef_building.specs.Faults.{source_store}
use Rattle.wef_cli.specs.Runs.{Peers}
use Rattle.wef_commands.proofs.LogByRows.{log_made, log_room}
use Rattle.wef_commands.specs.Checking.{lines_of}
use Rattle.wef_commands.specs.Endings.{Told}
use Rattle.wef_commands.specs.Laws.{HasWritten, StopsOver, WriteGoes, WritesAsFar, events_ending, with_event, with_events}
use Rattle.wef_commands.specs.Writing.{HasEvents, events_of}
use Rattle.wef_commands.specs.declared.ending.Ending.{Ending}
use Rattle.wef_commands.specs.declared.ending.Ending.TheVariants as ends
use Rattle.wef_commands.specs.declared.writing.TheConstants.{LOG_CAPACITY}
use Rattle.wef_event.specs.Events.{Event}
use Rattle.wef_event.specs.Numbering.{numbered}
use Rattle.wef_keeper.proofs.Going.{may_leave}
use Rattle.wef_keeper.specs.Calls.{Makes, MayLeave}
use Rattle.wef_keeper.specs.Keeping.{Store}
use Rattle.wef_keeper.specs.Rows.{Rows}
use Rattle.wef_lines.specs.Documents.{new_event_in}
use Rattle.wef_machine.specs.States.{Slot}
use Rattle.wef_replay.proofs.Gifts.{AllOf}
use Rattle.wef_replay.proofs.SaidEvents.{good-new_event_in}
use Rattle.wef_replay.specs.Good.{may_be_written}
use Rattle.wef_running.proofs.SentByRows.{start_made, start_room}
use Rattle.wef_running.specs.ByRows.{ForwardSays, IsBegun}
use Rattle.wef_safety.proofs.LowerFacts.{lower}
use Rattle.wef_source.specs.Calls as source
use Rattle.wef_source.specs.Machine.{End, start_of}
use Rattle.wef_subscribing.specs.ByRows.{ServeSays}
use Rattle.wef_source_log.proofs.Cells.{extends}
use Rattle.wef_source_log.specs.Answers.{is_boot_full, is_full, next_boot, next_number, next_text, start_effect, write_effect}
use Rattle.wef_source_log.specs.Faults.{log_store}
use Rattle.wef_source_log.specs.LogWindow.{IsWindow, boot_of, capacity_of, started, write_changes}
use Rattle.wef_source_log.specs.declared.faults.LogFault.{LogFault}
use Rattle.wef_source_log.specs.declared.faults.LogFault.TheVariants as faults
use Rattle.wef_runs.proofs.Acted.{asking_acted}
use Rattle.wef_runs.proofs.Served.{begun_acted}
use Rattle.wef_runs.specs.Acts.{Act, AreActed}
use Rattle.wef_deployments.specs.Folders.{AreDeeds, AreReadAs, AreTurned, FolderRunsAreDeeds, IsAtRest, deeds_forwarded_by, deeds_served_by, deeds_stopping, deeds_written_by}
use Rattle.wef_runs.specs.Forwarded.{acts_begun}
use Rattle.wef_runs.specs.Served.{acts_served_by}
use Rattle.wef_deployments.specs.Sources.{SourceDeed, StartsAtMost, Turns, slot_left, slot_recorded}
use Rattle.wef_deployments.specs.Sources.{StartsLog, StartsSource, Writes, Acts}

-- ---- deeds joined

joined : (first next : List SourceDeed) (slot mid last : Slot) → AreTurned first slot mid → AreTurned next mid last → AreTurned (first ++ next) slot last
joined [] next slot mid last same are = subst (λ (x : Slot). AreTurned next x last) same are
joined (deed ∷ first) next slot mid last (then_on, turns, before) are = (then_on, turns, joined first next then_on mid last before are)

-- ---- a log that is started

-- A slot whose log was started and whose source doesn't run.
record IsStarted (slot : Slot) : Type 0 where
  closed : slot.place.memory ≡ None
  capacity : slot.capacity ≡ LOG_CAPACITY
  boot : ℕ
  begun : 0 < boot
  window : IsWindow slot.place.rows slot.histories slot.capacity boot

boot_some : (slot : Slot) → (is : IsStarted slot) → 0 < boot_of slot.place.rows
boot_some slot is = subst (λ (b : ℕ). 0 < b) (sym (lower.log_boot_is slot.place.rows slot.histories slot.capacity is.boot is.window)) is.begun

-- the slot behind an event
abbrev after_event : Slot → Event → Slot
after_event slot event = slot_recorded slot (with_event slot.place.rows event) event

event_started : (slot : Slot) (event : Event) → IsStarted slot → IsStarted (slot_recorded slot (with_event slot.place.rows event) event)
event_started slot event is = record {
  closed = refl;
  capacity = is.capacity;
  boot = is.boot;
  begun = is.begun;
  window = (extends slot.place.rows (with_event slot.place.rows event) event (next_number slot.place.rows event) refl refl slot.histories slot.capacity is.boot some is.begun is.window).1;
}
  where
    some : 0 < slot.capacity
    some = subst (λ (n : ℕ). 0 < n) (sym is.capacity) (omega arith)

-- an event that doesn't have to end the run is written
event_goes : (k : ℕ) (rows : Rows) (event : Event) (events : List Event) → events_ending k rows (event ∷ events) ≡ ends.Done
    → Makes (write_effect rows event) rows (with_event rows event) × (events_ending (k + 1) (with_event rows event) events ≡ ends.Done)
event_goes k rows event events goes = by (is_full rows event.channel) (is_none (numbered event (next_number rows event))) goes
  where
    by : (full none : Bool) → cond full ends.Full (cond none (ends.BadLine k) (events_ending (k + 1) (with_event rows event) events)) ≡ ends.Done
        → Makes {F = LogFault} (cond full (Err faults.Full) (cond none (Err faults.TooLong) (Ok (write_changes (capacity_of rows) event.channel (next_number rows event) (next_text rows event))))) rows (with_event rows event)
        × (events_ending (k + 1) (with_event rows event) events ≡ ends.Done)
    by true none goes = cc
    by false true goes = cc
    by false false goes = (refl, goes)

-- events that are written, one after the other
record AreWrites (events : List Event) (slot : Slot) : Type 0 where
  next : Slot
  turned : AreTurned (map Writes events) slot next
  rows : next.place.rows ≡ with_events slot.place.rows events
  started_so : IsStarted next

event_turns : (slot : Slot) (event : Event) → IsStarted slot → Makes (write_effect slot.place.rows event) slot.place.rows (with_event slot.place.rows event)
    → Turns (Writes event) slot (slot_recorded slot (with_event slot.place.rows event) event)
event_turns slot event is made = (is.closed, boot_some slot is, (with_event slot.place.rows event, made, refl))

events_written : (events : List Event) (slot : Slot) (k : ℕ) → IsStarted slot → events_ending k slot.place.rows events ≡ ends.Done → AreWrites events slot
events_written [] slot k is goes = record { next = slot; turned = refl; rows = refl; started_so = is }
events_written (event ∷ events) slot k is goes =
    let here = event_goes k slot.place.rows event events goes in
    let more = events_written events (after_event slot event) (k + 1) (event_started slot event is) here.1 in
    record { next = more.next; turned = (after_event slot event, event_turns slot event is here.0, more.turned); rows = more.rows; started_so = more.started_so }

-- ---- `write`

-- one event more
one_more : (slot : Slot) (event : Event) (last : Rows) → IsStarted slot → Makes (write_effect slot.place.rows event) slot.place.rows last → AreDeeds (Writes event ∷ []) slot last
one_more slot event last is made = record { next = slot_recorded slot last event; turned = (slot_recorded slot last event, (is.closed, boot_some slot is, (last, made, refl)), refl); rows = refl }

no_more : (slot : Slot) (last : Rows) → last ≡ slot.place.rows → AreDeeds [] slot last
no_more slot last same = record { next = slot; turned = refl; rows = sym same }

-- how the run stops behind events that were written and told
stopped : (ending : Ending) (k : ℕ) (behind : List Event) (text : List ℕ) (out : Told) (rows last : Rows) (slot : Slot) → slot.place.rows ≡ rows → IsStarted slot
    → (stops : StopsOver ending k behind text out rows last) → AreDeeds (deeds_stopping ending k behind text out rows last stops) slot last
stopped ends.Done k [] text out rows last slot at is (printed, same) = no_more slot last (same ∙ sym at)
stopped ends.Full k (event ∷ events) text out rows last slot at is (full, printed, same) = no_more slot last (same ∙ sym at)
stopped (ends.BadLine line) k (event ∷ events) text out rows last slot at is (line_is, room, long, printed, same) = no_more slot last (same ∙ sym at)
stopped ends.StoreFailed k (event ∷ events) text out rows last slot at is (printed, inl same) = no_more slot last (same ∙ sym at)
stopped ends.StoreFailed k (event ∷ events) text out rows last slot at is (printed, inr made) = one_more slot event last is (subst (λ (r : Rows). Makes (write_effect r event) r last) (sym at) made)
stopped ends.NoMemory k (event ∷ events) text out rows last slot at is (printed, inl same) = no_more slot last (same ∙ sym at)
stopped ends.NoMemory k (event ∷ events) text out rows last slot at is (printed, inr made) = one_more slot event last is (subst (λ (r : Rows). Makes (write_effect r event) r last) (sym at) made)
stopped ends.OutputFailed k (event ∷ events) text out rows last slot at is (failed, printed, made) = one_more slot event last is (subst (λ (r : Rows). Makes (write_effect r event) r last) (sym at) made)
stopped _ k events text out rows last slot at is none = absurd none

-- the rows of a log whose start isn't done
start_cut : (slot : Slot) (found last : Rows) → slot.place.rows ≡ found → slot.capacity ≡ LOG_CAPACITY → MayLeave (λ rows. start_effect rows LOG_CAPACITY) last found → StartsAtMost slot last
start_cut slot found last at capacity (inl same) = inl (same ∙ sym at)
start_cut slot found last at capacity (inr made) = inr (ap is_boot_full at ∙ log_room found last made, log_made found last made ∙ (λ i. started (sym at i) (sym capacity i)))

start_only : (slot : Slot) (found last : Rows) → IsAtRest slot found → StartsAtMost slot last → AreDeeds (StartsLog ∷ []) slot last
start_only slot found last at starts = record { next = slot_left slot last None; turned = (slot_left slot last None, (at.closed, (last, starts, refl)), refl); rows = refl }

module _ (slot : Slot) (found : Rows) (at : IsAtRest slot found) where
  -- rows that were started over those of the slot
  same_started : started found LOG_CAPACITY ≡ started slot.place.rows slot.capacity
  same_started = λ i. started (sym at.rows i) (sym at.capacity i)

  has_room : is_boot_full found ≡ false → is_boot_full slot.place.rows ≡ false
  has_room room = ap is_boot_full at.rows ∙ room

  begun : Slot
  begun = slot_left slot (started found LOG_CAPACITY) None

  was_started : IsStarted (slot_left slot (started found LOG_CAPACITY) None)
  was_started = record {
    closed = refl;
    capacity = at.capacity;
    boot = boot_of slot.place.rows + 1;
    begun = omega arith;
    window = subst (λ (rows : Rows). IsWindow rows slot.histories slot.capacity (boot_of slot.place.rows + 1)) (sym same_started)
        (lower.log_starts slot.place.rows slot.histories slot.capacity (boot_of slot.place.rows) at.window);
  }

  written_so : (ending : Ending) (input out : Told) (last : Rows) (has : HasWritten ending input out found last) → AreDeeds (deeds_written_by ending input out found last (inr (inr has))) slot last
  written_so ending input out last has =
      let first = slot_left slot (started found LOG_CAPACITY) None in
      let wrote = events_written has.front first 1 was_started (has.taken 1) in
      let stop = stopped ending (length has.front + 1) has.behind _ out (with_events (started found LOG_CAPACITY) has.front) last wrote.next wrote.rows wrote.started_so has.stops in
      record {
        next = stop.next;
        turned = (first, (at.closed, (started found LOG_CAPACITY, inr (has_room has.starts, same_started), refl)), joined (map Writes has.front) _ first wrote.next stop.next wrote.turned stop.turned);
        rows = stop.rows;
      }

  goes_so : (ending : Ending) (input out : Told) (last : Rows) (goes : WriteGoes ending input out found last) → AreDeeds (deeds_written_by ending input out found last goes) slot last
  goes_so ending input out last (inl (judging, unwritten, same)) = no_more slot last (same ∙ sym at.rows)
  goes_so ending input out last (inr (inl (events, fault, has, is, refuses, unwritten, goes))) =
      start_only slot found last at (start_cut slot found last at.rows at.capacity (may_leave log_store (λ rows. start_effect rows LOG_CAPACITY) next_boot (Err fault) found last goes))
  goes_so ending input out last (inr (inr has)) = written_so ending input out last has

  -- ---- `forward`

  source_cut : (last : Rows) → MayLeave (λ rows. source.start_effect rows LOG_CAPACITY) last found → StartsAtMost slot last
  source_cut last (inl same) = inl (same ∙ sym at.rows)
  source_cut last (inr made) = inr (has_room (start_room found last made), start_made found last made ∙ same_started)

  acts_turned : (rows : Rows) (acts : List Act) (end last : End) → AreActed rows acts end last → AreTurned (map Acts acts) (slot_left slot rows (Some end)) (slot_left slot rows (Some last))
  acts_turned rows [] end last same = ap (λ (e : End). slot_left slot rows (Some e)) same
  acts_turned rows (act ∷ acts) end last (then_on, acted, more) = (slot_left slot rows (Some then_on), (then_on, acted, refl), acts_turned rows acts then_on last more)

  -- a source that was started over the rows, and acted
  ran : (last : Rows) (acts : List Act) (end : End) → is_boot_full found ≡ false → last ≡ started found LOG_CAPACITY → AreActed last acts (start_of (next_boot found)) end → AreDeeds (StartsSource ∷ map Acts acts) slot last
  ran last acts end room is acted =
      let same : last ≡ started slot.place.rows slot.capacity = is ∙ same_started in
      record {
        next = slot_left slot last (Some end);
        turned = (
          slot_left slot last (Some (start_of (next_boot found))),
          (at.closed, has_room room, (λ i. slot_left slot (same i) (Some (start_of (next_boot (sym at.rows i)))))),
          acts_turned last acts (start_of (next_boot found)) end acted,
        );
        rows = refl;
      }

  module _ (ending : Ending) (out : Told) (peers : Peers) (now : Store) (last : Rows) (address s : List ℕ) (count : ℕ) where
    begun_so : (is : IsBegun address s count ending out peers.moment peers.link_before peers.link_after now found last)
        → AreDeeds (StartsSource ∷ map Acts (acts_begun ending out peers now found last address s count (inr is))) slot last
    begun_so is =
        ran last (acts_begun ending out peers now found last address s count (inr is)) is.end is.starts is.rows
        (asking_acted last peers.moment address s count ending out (record { memory = start_of (next_boot found); store = is.started; link = peers.link_before })
        (record { memory = is.end; store = now; link = peers.link_after }) is.sends)

    served_so : (says : ServeSays address count ending out peers.moment peers.front_before peers.front_after peers.link_before peers.link_after now found last)
        → AreDeeds (deeds_served_by ending out peers now found last address count says) slot last
    served_so (inl (is, unwritten, front_same, link_same, same)) = no_more slot last (same ∙ sym at.rows)
    served_so (inr (inl ((fault, refuses, is, unwritten, same, goes), front_same))) =
        start_only slot found last at (source_cut last (may_leave source_store (λ rows. source.start_effect rows LOG_CAPACITY) next_boot (Err fault) found last goes))
    served_so (inr (inr is)) = ran last (acts_served_by ending out peers now found last address count (inr (inr is))) is.end is.starts is.rows (begun_acted ending out peers now found last address count is)

    forwarded_so : (says : (last ≡ found) ⊎ ForwardSays address s count ending out peers.moment peers.link_before peers.link_after now found last)
        → AreDeeds (deeds_forwarded_by ending out peers now found last address s count says) slot last
    forwarded_so (inl same) = no_more slot last (same ∙ sym at.rows)
    forwarded_so (inr (inl (fault, refuses, is, unwritten, same, goes))) =
        start_only slot found last at (source_cut last (may_leave source_store (λ rows. source.start_effect rows LOG_CAPACITY) next_boot (Err fault) found last goes))
    forwarded_so (inr (inr is)) = begun_so is

-- ---- what is read

-- each event that a line says may be written
lines_writable : (lines : List (List ℕ)) → AllByRecursion (λ event. may_be_written event ≡ true) (events_of lines)
lines_writable [] = tt
lines_writable (line ∷ lines) = by (new_event_in line) (good-new_event_in line) (lines_writable lines)
  where
    by : (o : Option Event) → AllOf (λ event. may_be_written event ≡ true) o → AllByRecursion (λ event. may_be_written event ≡ true) (events_of lines)
        → AllByRecursion (λ event. may_be_written event ≡ true) (cons_option o (events_of lines))
    by None good rest = rest
    by (Some event) good rest = (good, rest)

-- so does each event of an input
are_writable : (events : List Event) (input : Told) → HasEvents events input → AllByRecursion (λ event. may_be_written event ≡ true) events
are_writable events input has = subst (AllByRecursion (λ event. may_be_written event ≡ true)) has.1.1.1 (lines_writable (lines_of has.1.0))

both_read : (first next : List SourceDeed) → AreReadAs first → AreReadAs next → AreReadAs (first ++ next)
both_read [] next are more = more
both_read (deed ∷ first) next are more = (are.0, both_read first next are.1 more)

-- events that stand in front, with those behind them
front_read : (front behind : List Event) → AllByRecursion (λ event. may_be_written event ≡ true) (front ++ behind) → AreReadAs (map Writes front) × AllByRecursion (λ event. may_be_written event ≡ true) behind
front_read [] behind all = (tt, all)
front_read (event ∷ front) behind all = let more = front_read front behind all.1 in ((all.0, more.0), more.1)

stopping_read : (ending : Ending) (k : ℕ) (behind : List Event) (text : List ℕ) (out : Told) (rows last : Rows) (stops : StopsOver ending k behind text out rows last)
    → AllByRecursion (λ event. may_be_written event ≡ true) behind → AreReadAs (deeds_stopping ending k behind text out rows last stops)
stopping_read ends.Done k [] text out rows last stops all = tt
stopping_read ends.Full k (event ∷ events) text out rows last stops all = tt
stopping_read (ends.BadLine line) k (event ∷ events) text out rows last stops all = tt
stopping_read ends.StoreFailed k (event ∷ events) text out rows last (printed, inl same) all = tt
stopping_read ends.StoreFailed k (event ∷ events) text out rows last (printed, inr made) all = (all.0, tt)
stopping_read ends.NoMemory k (event ∷ events) text out rows last (printed, inl same) all = tt
stopping_read ends.NoMemory k (event ∷ events) text out rows last (printed, inr made) all = (all.0, tt)
stopping_read ends.OutputFailed k (event ∷ events) text out rows last stops all = (all.0, tt)
stopping_read _ k events text out rows last none all = absurd none

pub goes_read : (ending : Ending) (input out : Told) (found last : Rows) (goes : WriteGoes ending input out found last) → AreReadAs (deeds_written_by ending input out found last goes)
goes_read ending input out found last (inl judged) = tt
goes_read ending input out found last (inr (inl refused)) = (tt, tt)
goes_read ending input out found last (inr (inr has)) =
    let all = front_read has.front has.behind (are_writable (has.front ++ has.behind) input has.events) in (
      tt,
      both_read (map Writes has.front) _ all.0
          (stopping_read ending (length has.front + 1) has.behind _ out (with_events (started found LOG_CAPACITY) has.front) last has.stops all.1),
    )

acts_read : (acts : List Act) → AreReadAs (map Acts acts)
acts_read [] = tt
acts_read (act ∷ acts) = (tt, acts_read acts)

pub forwarded_read : (ending : Ending) (out : Told) (peers : Peers) (now : Store) (found last : Rows) (address s : List ℕ) (count : ℕ)
    (says : (last ≡ found) ⊎ ForwardSays address s count ending out peers.moment peers.link_before peers.link_after now found last)
    → AreReadAs (deeds_forwarded_by ending out peers now found last address s count says)
forwarded_read ending out peers now found last address s count (inl same) = tt
forwarded_read ending out peers now found last address s count (inr (inl refused)) = (tt, tt)
forwarded_read ending out peers now found last address s count (inr (inr is)) = (tt, acts_read (acts_begun ending out peers now found last address s count (inr is)))

pub served_read : (ending : Ending) (out : Told) (peers : Peers) (now : Store) (found last : Rows) (address : List ℕ) (count : ℕ)
    (says : ServeSays address count ending out peers.moment peers.front_before peers.front_after peers.link_before peers.link_after now found last)
    → AreReadAs (deeds_served_by ending out peers now found last address count says)
served_read ending out peers now found last address count (inl nothing) = tt
served_read ending out peers now found last address count (inr (inl refused)) = (tt, tt)
served_read ending out peers now found last address count (inr (inr is)) = (tt, acts_read (acts_served_by ending out peers now found last address count (inr (inr is))))

pub folder_runs_are_deeds : WritesAsFar → FolderRunsAreDeeds
folder_runs_are_deeds far = record {
  accounts = λ ending input out before now ends lawful found last stood may. record { ending = ending; input = input; out = out; goes = far ending input out before now ends lawful found last stood may };
  writes = λ found last run slot at. goes_so slot found at run.ending run.input run.out last run.goes;
  forwards = λ address s count found last account slot at. forwarded_so slot found at account.ending account.out account.peers account.now last address s count account.says;
  serves = λ address s count found last account slot at. served_so slot found at account.ending account.out account.peers account.now last address s count account.says;
  reads_written = λ found last run. goes_read run.ending run.input run.out found last run.goes;
  reads_forwarded = λ address s count found last account. forwarded_read account.ending account.out account.peers account.now found last address s count account.says;
  reads_served = λ address s count found last account. served_read account.ending account.out account.peers account.now found last address count account.says;
}
