-- Worlds that go on, whatever is armed: what is done at the collector or at a source.
use Rattle.std.proofs.Common.{◌≡◌, ℕ, ◌+◌, ◌≤◌, ◌&&◌, Bool, true, false, T, cond, List, [], ◌∷◌, length, map, nat_lt, refl, ap, sym, ◌∙◌, subst, arith}
use Rattle.std.proofs.lemmas.Bool.{cond_both}
use Rattle.std.proofs.lemmas.Option.{none-some, same_Some}
use Rattle.std.specs.Cmp.Lexicographic.{nat_list_cmp_total, slice_cmp}
use Rattle.std.specs.FinMap as finite
use Rattle.std.specs.FinMap.{find, is_sorted, put}
use Rattle.std.specs.FinMap.Entries.{below_all, by_order, length-put}
use Rattle.std.specs.Ordering.{is_eq, nat_cmp}
use Rattle.std.specs.Prelude.{Option, Some, None, Ok, Err, is_some}
use Rattle.std.specs.declared.cmp.Ordering.{Ordering}
use Rattle.std.specs.declared.cmp.Ordering.TheVariants.{Less, Equal, Greater}
use Rattle.wef_base.specs.declared.numbers.TheConstants.{MAX}
use Rattle.wef_collector.specs.Boots.{boot_of, memory_begun}
use Rattle.wef_collector.specs.Calls as collector
use Rattle.wef_collector.specs.Calls.{boot_effect}
use Rattle.wef_collector.specs.declared.memories.Memory.{Memory}
use Rattle.wef_collector_rows.specs.declared.faults.CollectorFault.TheVariants as faults
use Rattle.wef_keeper.specs.Calls.{Effect}
use Rattle.wef_keeper.specs.Rows.{Rows, applied}
use Rattle.wef_keeper.specs.declared.keys.Change.{Change}
use Rattle.wef_machine.specs.Answering.{with_answer}
use Rattle.wef_machine.specs.Arming.{armed_after, committed, fate, is_done}
use Rattle.wef_machine.specs.Collecting as collecting
use Rattle.wef_machine.specs.Collecting.{at_collector, draws, with_reply}
use Rattle.wef_machine.specs.Places.{Place, commits, opened_by, remembering, starts}
use Rattle.wef_machine.specs.Sources.{at_source, slot_opened, with_opened}
use Rattle.wef_machine.specs.States.{Collector, Slot, State, declared_names, slot_of, slot_with, with_collector, with_end, with_messages, with_slot}
use Rattle.wef_machine.specs.declared.arming.Armed.{Armed}
use Rattle.wef_machine.specs.declared.messages.Message.{Message}
use Rattle.wef_source.specs.Machine.{End, start_of}
use Rattle.wef_source_log.specs.Answers.{is_boot_full, start_effect}
use Rattle.wef_source_log.specs.LogWindow as log
use Rattle.wef_source_log.specs.LogWindow.{IsWindow, start_changes, started}
use Rattle.wef_source_log.specs.declared.faults.LogFault.{LogFault}
use Rattle.wef_source_log.specs.declared.faults.LogFault.TheVariants as log_faults
use Rattle.wef_safety.specs.Kept.{IsKept, IsSourceKept}
use Rattle.wef_safety.proofs.CollectorSteps.{at_collector_any, boot_changes, committed_both}
use Rattle.wef_safety.proofs.LowerFacts.{lower}
use Rattle.wef_safety.proofs.Moves.{put_there}
use Rattle.wef_safety.proofs.SourceSteps.{IsOpened, at_source_any, with_opened_kept}
use Rattle.wef_settling.specs.Settled.{IsUnarmed}
use Rattle.wef_settling.proofs.Facts.{AreLater, IsLater, IsLaterSlot, RunsOn}
use Rattle.wef_settling.proofs.LaterRows.{AreLaterRows, booting_later, same_later}

-- A world goes on to a later one, in which nothing is armed where nothing was.
pub record GoesOn (old new : State) : Type 0 where
  pub later : IsLater old new
  pub unarmed : IsUnarmed old → IsUnarmed new

-- ---- worlds that come one after the other

runs_itself : (memory : Option End) → RunsOn memory memory
runs_itself None = tt
runs_itself (Some end) = record { drawn = omega arith }

slot_itself : (slot : Slot) → IsLaterSlot slot slot
slot_itself slot = record { capacity = refl; histories = refl; boot = omega arith; runs = runs_itself slot.place.memory }

are_themselves : (found : Option Slot) → AreLater found found
are_themselves None = tt
are_themselves (Some slot) = slot_itself slot

pub later_refl : (state : State) → IsLater state state
later_refl state = record {
  moment = refl;
  bookmarks = λ u s c. omega arith;
  standings = λ u. refl;
  listed = refl;
  boot = omega arith;
  names = refl;
  sources = λ s. are_themselves (slot_of state s);
}

runs_on : (old new more : Option End) → RunsOn old new → RunsOn new more → RunsOn old more
runs_on None new more h k = tt
runs_on (Some old) None more h k = absurd h
runs_on (Some old) (Some new) None h k = absurd k
runs_on (Some old) (Some new) (Some more) h k = let first = h.drawn in let second = k.drawn in record { drawn = omega arith }

slots_later : (old new more : Slot) → IsLaterSlot old new → IsLaterSlot new more → IsLaterSlot old more
slots_later old new more h k =
    let first = h.boot in
    let second = k.boot in
    record {
      capacity = k.capacity ∙ h.capacity;
      histories = k.histories ∙ h.histories;
      boot = omega arith;
      runs = runs_on old.place.memory new.place.memory more.place.memory h.runs k.runs;
    }

are_later : (old new more : Option Slot) → AreLater old new → AreLater new more → AreLater old more
are_later None None more h k = k
are_later None (Some new) more h k = absurd h
are_later (Some old) None more h k = absurd h
are_later (Some old) (Some new) None h k = absurd k
are_later (Some old) (Some new) (Some more) h k = slots_later old new more h k

pub later_trans : (v w x : State) → IsLater v w → IsLater w x → IsLater v x
later_trans v w x h k =
    let first = h.boot in
    let second = k.boot in
    record {
      moment = k.moment ∙ h.moment;
      bookmarks = λ u s c. let low = h.bookmarks u s c in let high = k.bookmarks u s c in omega arith;
      standings = λ u. k.standings u ∙ h.standings u;
      listed = k.listed ∙ h.listed;
      boot = omega arith;
      names = k.names ∙ h.names;
      sources = λ s. are_later (slot_of v s) (slot_of w s) (slot_of x s) (h.sources s) (k.sources s);
    }

pub goes_itself : (state : State) → GoesOn state state
goes_itself state = record { later = later_refl state; unarmed = λ unarmed. unarmed }

pub goes_both : (v w x : State) → GoesOn v w → GoesOn w x → GoesOn v x
goes_both v w x h k = record { later = later_trans v w x h.later k.later; unarmed = λ unarmed. k.unarmed (h.unarmed unarmed) }

pub either_goes : (old : State) (b : Bool) (x y : State) → GoesOn old x → GoesOn old y → GoesOn old (cond b x y)
either_goes old true x y first second = first
either_goes old false x y first second = second

-- what is sent changes neither end
pub sent_goes : (old new : State) (messages : List Message) → GoesOn old new → GoesOn old (with_messages new messages)
sent_goes old new messages h =
    let later = h.later in
    record {
      later = record {
        moment = later.moment;
        bookmarks = later.bookmarks;
        standings = later.standings;
        listed = later.listed;
        boot = later.boot;
        names = later.names;
        sources = later.sources;
      };
      unarmed = λ unarmed. let now = h.unarmed unarmed in record { collector = now.collector; sources = now.sources };
    }

-- ---- the collector

-- where nothing is armed, nothing is so behind a commit
pub armed_still : (armed : Option Armed) (changes : List Change) → armed ≡ None → armed_after armed changes ≡ None
armed_still armed [] none = none
armed_still armed (change ∷ changes) none = refl

-- a commit goes on as its changes do
pub committed_later : (armed : Option Armed) (changes : List Change) (rows : Rows) → AreLaterRows rows (applied changes rows) → AreLaterRows rows (committed armed changes rows)
committed_later armed changes rows later = committed_both (AreLaterRows rows) armed changes rows (same_later rows) later

pub collector_goes : (state : State) (c : Collector) → AreLaterRows state.collector.rows c.rows → (state.collector.armed ≡ None → c.armed ≡ None) → GoesOn state (with_collector state c)
collector_goes state c rows armed = record {
  later = record {
    moment = refl;
    bookmarks = rows.bookmarks;
    standings = rows.standings;
    listed = rows.listed;
    boot = rows.boot;
    names = refl;
    sources = λ s. are_themselves (slot_of state s);
  };
  unarmed = λ unarmed. record { collector = armed unarmed.collector; sources = unarmed.sources };
}

pub commits_go : (state : State) (changes : List Change) → AreLaterRows state.collector.rows (applied changes state.collector.rows) →
    GoesOn state (with_collector state (commits state.collector changes))
commits_go state changes later =
    collector_goes state (commits state.collector changes) (committed_later state.collector.armed changes state.collector.rows later) (armed_still state.collector.armed changes)

pub opened_goes : (state : State) → GoesOn state (collecting.with_opened state)
opened_goes state = by_memory state.collector.memory
  where
    same : GoesOn state (with_collector state state.collector)
    same = collector_goes state state.collector (same_later state.collector.rows) (λ none. none)

    fresh : Memory
    fresh = memory_begun state.collector.rows

    by_memory : (memory : Option Memory) → GoesOn state (with_collector state (opened_by state.collector (memory_begun state.collector.rows) (boot_effect state.collector.rows) memory))
    by_memory (Some memory) = same
    by_memory None =
        let rows = state.collector.rows in
        let effect : collector.Effect = Ok (boot_changes rows) in
        cond_both (nat_lt (boot_of rows) MAX) effect (Err faults.Full) (λ (x : collector.Effect). GoesOn state (with_collector state (starts state.collector fresh x)))
        (λ room. collector_goes state (starts state.collector fresh effect) (committed_later state.collector.armed (boot_changes rows) rows (booting_later rows)) (armed_still state.collector.armed (boot_changes rows)))
        (λ full. same)

-- what is done at the open collector goes on
pub at_collector_goes : (state : State) (change : Memory → State → State) → ((now : State) (memory : Memory) → GoesOn now (change memory now)) → GoesOn state (at_collector state change)
at_collector_goes state change does =
    let opened = opened_goes state in
    let now = collecting.with_opened state in
    at_collector_any state change (GoesOn state) opened (λ memory runs. goes_both state now (change memory now) opened (does now memory))

-- it draws ids for what it sends
pub reply_goes : (old new : State) (count : ℕ) (message : Message) → GoesOn old new → GoesOn old (with_reply count new message)
reply_goes old new count message h =
    let drawn = with_collector new (draws count new.collector) in
    sent_goes old drawn (message ∷ []) (goes_both old new drawn h (collector_goes new (draws count new.collector) (same_later new.collector.rows) (λ none. none)))

pub answer_goes : (old new : State) (answer : Option Message) → GoesOn old new → GoesOn old (with_answer new answer)
answer_goes old new None h = h
answer_goes old new (Some message) h = reply_goes old new 1 message h

-- ---- the names of the sources

more_names : (a b : Bool) → T (a && b) → T b
more_names true b is = is
more_names false b is = absurd is

too_long : (n : ℕ) → n + 2 ≡ n + 1 → ⊥
too_long n e = omega (arith, e)

abbrev names_of : List (List ℕ × Slot) → List (List ℕ)
names_of entries = map (λ (entry : List ℕ × Slot). entry.0) entries

-- a source that is put where one is leaves the names
put_names : (entries : List (List ℕ × Slot)) (s : List ℕ) (old new : Slot) → T (is_sorted (slice_cmp nat_cmp) entries) → find (slice_cmp nat_cmp) s entries ≡ Some old →
    names_of (put (slice_cmp nat_cmp) s new entries) ≡ names_of entries
put_names [] s old new sorted found = absurd (none-some old found)
put_names (entry ∷ entries) s old new sorted found =
    by_place (put_names entries s old new (more_names (below_all (slice_cmp nat_cmp) entry.0 entries) (is_sorted (slice_cmp nat_cmp) entries) sorted))
    (slice_cmp nat_cmp s entry.0) refl found
  where
    longer : length (put (slice_cmp nat_cmp) s new (entry ∷ entries)) ≡ length entries + 1
    longer =
        length-put (slice_cmp nat_cmp) nat_list_cmp_total s new (entry ∷ entries) sorted
        ∙ ap (λ (o : Option Slot). cond (is_some o) (length (entry ∷ entries)) (length (entry ∷ entries) + 1)) found ∙ omega arith

    by_place : (find (slice_cmp nat_cmp) s entries ≡ Some old → names_of (put (slice_cmp nat_cmp) s new entries) ≡ names_of entries) → (o : Ordering) → slice_cmp nat_cmp s entry.0 ≡ o →
        cond (is_eq o) (Some entry.1) (find (slice_cmp nat_cmp) s entries) ≡ Some old →
        names_of (by_order o ((s, new) ∷ entry ∷ entries) ((entry.0, new) ∷ entries) (entry ∷ put (slice_cmp nat_cmp) s new entries)) ≡ names_of (entry ∷ entries)
    by_place rest Less is there =
        let two : length (put (slice_cmp nat_cmp) s new (entry ∷ entries)) ≡ length entries + 2 =
        ap (λ (o : Ordering). length (by_order o ((s, new) ∷ entry ∷ entries) ((entry.0, new) ∷ entries) (entry ∷ put (slice_cmp nat_cmp) s new entries))) is ∙ omega arith in
        absurd (too_long (length entries) (sym two ∙ longer))
    by_place rest Equal is there = refl
    by_place rest Greater is there = ap (λ (names : List (List ℕ)). entry.0 ∷ names) (rest there)

names_stay : (state : State) (s : List ℕ) (old new : Slot) → slot_of state s ≡ Some old → declared_names (with_slot state s new) ≡ declared_names state
names_stay state s old new there =
    ap names_of (finite.entries-insert nat_list_cmp_total state.sources s new)
    ∙ put_names (finite.entries state.sources) s old new (finite.entries_sorted state.sources) (sym (finite.get-entries state.sources s) ∙ there)

-- ---- a source

pub slot_goes : (state : State) (s : List ℕ) (old new : Slot) → slot_of state s ≡ Some old → IsLaterSlot old new → (old.place.armed ≡ None → new.place.armed ≡ None) → GoesOn state (with_slot state s new)
slot_goes state s old new there later armed = record {
  later = record {
    moment = refl;
    bookmarks = λ u r c. omega arith;
    standings = λ u. refl;
    listed = refl;
    boot = omega arith;
    names = names_stay state s old new there;
    sources = λ r.
        put_there state.sources s new r (AreLater (slot_of state r))
        (λ is. subst (λ (o : Option Slot). AreLater o (Some new)) (sym (ap (slot_of state) is ∙ there)) later) (are_themselves (slot_of state r));
  };
  unarmed = λ unarmed. record {
    collector = unarmed.collector;
    sources = λ r slot e.
        put_there state.sources s new r (λ (o : Option Slot). (x : Slot) → o ≡ Some x → x.place.armed ≡ None)
        (λ is x same. subst (λ (y : Slot). y.place.armed ≡ None) (same_Some new x same) (armed (unarmed.sources s old there))) (unarmed.sources r) slot e;
  };
}

-- a source with another end of its store
pub place_later : (slot : Slot) (place : Place End) → log.boot_of slot.place.rows ≤ log.boot_of place.rows → RunsOn slot.place.memory place.memory → IsLaterSlot slot (slot_with slot place)
place_later slot place boot runs = record { capacity = refl; histories = refl; boot = boot; runs = runs }

-- it runs on, and draws ids
pub end_goes : (state : State) (s : List ℕ) (slot : Slot) (end new : End) → slot_of state s ≡ Some slot → slot.place.memory ≡ Some end → end.drawn ≤ new.drawn →
    GoesOn state (with_end state s slot new)
end_goes state s slot end new there runs drawn =
    slot_goes state s slot (slot_with slot (remembering slot.place new)) there
    (place_later slot (remembering slot.place new) (omega arith) (subst (λ (o : Option End). RunsOn o (Some new)) (sym runs) (record { drawn = drawn }))) (λ none. none)

-- an end that didn't run goes on in any way
from_closed : (memory new : Option End) → memory ≡ None → RunsOn memory new
from_closed None new closed = tt
from_closed (Some end) new closed = absurd (none-some end (sym closed))

started_boot : (slot : Slot) → IsWindow slot.place.rows slot.histories slot.capacity (log.boot_of slot.place.rows) → log.boot_of slot.place.rows ≤ log.boot_of (started slot.place.rows slot.capacity)
started_boot slot window =
    let boot = log.boot_of slot.place.rows in
    let more : log.boot_of (started slot.place.rows slot.capacity) ≡ boot + 1 =
    lower.log_boot_is (started slot.place.rows slot.capacity) slot.histories slot.capacity (boot + 1) (lower.log_starts slot.place.rows slot.histories slot.capacity boot window) in
    omega (arith, more)

-- A source goes on, and nothing is armed in its store where nothing was.
record SlotGoes (old new : Slot) : Type 0 where
  later : IsLaterSlot old new
  armed : old.place.armed ≡ None → new.place.armed ≡ None

slot_opens : (rows : Rows) (messages : List Message) (s : List ℕ) (slot : Slot) → IsSourceKept rows messages s slot → SlotGoes slot (slot_opened slot)
slot_opens rows messages s slot kept = by_memory slot.place.memory refl
  where
    fresh : End
    fresh = start_of (log.boot_of slot.place.rows + 1)

    changes : List Change
    changes = start_changes slot.place.rows slot.capacity

    same : SlotGoes slot (slot_with slot slot.place)
    same = record { later = place_later slot slot.place (omega arith) (runs_itself slot.place.memory); armed = λ none. none }

    by_memory : (memory : Option End) → slot.place.memory ≡ memory →
        SlotGoes slot (slot_with slot (opened_by slot.place (start_of (log.boot_of slot.place.rows + 1)) (start_effect slot.place.rows slot.capacity) memory))
    by_memory (Some end) e = same
    by_memory None e =
        let effect : Effect LogFault = Ok changes in
        cond_both (is_boot_full slot.place.rows) (Err log_faults.Full) effect (λ (x : Effect LogFault). SlotGoes slot (slot_with slot (starts slot.place fresh x))) (λ full. same)
        (λ room. record {
          later = place_later slot (starts slot.place fresh effect)
              (committed_both (λ (after : Rows). log.boot_of slot.place.rows ≤ log.boot_of after) slot.place.armed changes slot.place.rows (omega arith) (started_boot slot kept.window))
              (from_closed slot.place.memory (cond (is_done (fate slot.place.armed changes)) (Some fresh) None) e);
          armed = armed_still slot.place.armed changes;
        })

pub source_opens : (state : State) (s : List ℕ) (slot : Slot) → IsKept state → slot_of state s ≡ Some slot → GoesOn state (with_opened state s slot)
source_opens state s slot kept there =
    let goes = slot_opens state.collector.rows state.messages s slot (kept.sources s slot there) in
    slot_goes state s slot (slot_opened slot) there goes.later goes.armed

-- what is done at a source that runs goes on
pub at_source_goes : (state : State) (s : List ℕ) (change : State → Slot → End → State) → IsKept state →
    ((now : State) (slot : Slot) (end : End) → IsKept now → IsOpened state now → slot_of now s ≡ Some slot → slot.place.memory ≡ Some end → GoesOn now (change now slot end)) →
    GoesOn state (at_source state s change)
at_source_goes state s change kept does =
    at_source_any state s change (λ (now : State). IsKept now × GoesOn state now) (GoesOn state) (goes_itself state)
    (λ slot there. (with_opened_kept lower state s slot kept there, source_opens state s slot kept there)) (λ now goes. goes.1)
    (λ now slot end goes opened there runs. goes_both state now (change now slot end) goes.1 (does now slot end goes.0 opened there runs))
