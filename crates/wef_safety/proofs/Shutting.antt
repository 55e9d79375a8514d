-- A source that ends the sessions which collectors began, and tells the ends, keeps what is kept.
use Rattle.std.proofs.Common.{◌≡◌, ℕ, ◌+◌, ◌<◌, ◌≤◌, false, List, [], ◌∷◌, ◌++◌, length, map, nat_lt, refl, ap, sym, ◌∙◌, subst, arith, length-append}
use Rattle.std.proofs.lemmas.Bool.{cond_both}
use Rattle.std.proofs.lemmas.Bool.Decides.{nat_tests}
use Rattle.std.proofs.lemmas.Option.{same_Some}
use Rattle.std.specs.Prelude.{Option, Some, None}
use Rattle.std.specs.FinMap as finite
use Rattle.std.specs.List.{AllByRecursion}
use Rattle.wef_building.specs.declared.sessions.Lease.{Lease}
use Rattle.wef_building.specs.declared.sessions.Session.{Session}
use Rattle.wef_eventing.specs.Addresses.{source_in, subscription_in}
use Rattle.wef_keeper.specs.Rows.{Rows}
use Rattle.wef_source.proofs.InOrder.{filter_in_order}
use Rattle.wef_source.specs.Machine.{End, end_notes, most_drawn, next_id, note_of, note_to, notes_of, shut_in}
use Rattle.wef_source.specs.Sessions.{is_asked_for}
use Rattle.wef_source.specs.declared.messages.EndNote.{EndNote}
use Rattle.wef_machine.specs.Leasing.{is_short, shut_at, shut_step}
use Rattle.wef_machine.specs.States.{Slot, State, slot_of, with_end, with_messages}
use Rattle.wef_machine.specs.declared.messages.Message.{Message}
use Rattle.wef_machine.specs.declared.messages.Message.TheVariants.{Ended}
use Rattle.wef_safety.specs.Kept.{AreInOrder, IsDrawnBefore, IsKept, IsLeaseTold, IsMessageKept, IsOnPath, IsServed, IsToldAt, last_id}
use Rattle.wef_safety.proofs.Lower.{Lower}
use Rattle.wef_safety.proofs.Moves.{IsAbove, declared_is, kept_sent, slot_put}
use Rattle.wef_safety.proofs.Sent.{all_joined, all_map, sent_mapped}
use Rattle.wef_safety.proofs.Sessions.{all_filtered}
use Rattle.wef_safety.proofs.SourceSteps.{all_later, at_source_keeps, fresh_id, goes_on, running_is, running_with, source_with_end}

-- ---- the ids of notes

-- notes have ids one after the other
abbrev AreNumbered : ℕ → List EndNote → Type 0
AreNumbered id [] = Unit {0}
AreNumbered id (note ∷ notes) = (note.id.value ≡ Some id) × AreNumbered (id + 1) notes

numbered_from : (id other : ℕ) (notes : List EndNote) → id ≡ other → AreNumbered id notes → AreNumbered other notes
numbered_from id other notes e numbered = subst (λ (n : ℕ). AreNumbered n notes) e numbered

both_numbered : (id : ℕ) (first second : List EndNote) → AreNumbered id first → AreNumbered (id + length first) second → AreNumbered id (first ++ second)
both_numbered id [] second one other = numbered_from (id + 0) id second (omega arith) other
both_numbered id (note ∷ first) second one other =
    (one.0, both_numbered (id + 1) first second one.1 (numbered_from (id + length (note ∷ first)) (id + 1 + length first) second (omega arith) other))

note_numbered : (id : ℕ) (lease : Option Lease) → AreNumbered id (note_of id lease)
note_numbered id None = tt
note_numbered id (Some lease) = by lease.end_to
  where
    by : (end_to : Option (List ℕ)) → AreNumbered id (note_to id lease.identifier end_to)
    by None = tt
    by (Some address) = (refl, tt)

notes_numbered : (id : ℕ) (sessions : List Session) → AreNumbered id (notes_of id sessions)
notes_numbered id [] = tt
notes_numbered id (session ∷ sessions) =
    let one = note_of id session.lease in
    both_numbered id one (notes_of (id + length one) sessions) (note_numbered id session.lease) (notes_numbered (id + length one) sessions)

-- notes from an id on have ids above each that is below it
notes_above : (s : List ℕ) (last id : ℕ) (notes : List EndNote) → last < id → AreNumbered id notes → AllByRecursion (λ (note : EndNote). IsAbove s last (Ended s note)) notes
notes_above s last id [] less numbered = tt
notes_above s last id (note ∷ notes) less numbered =
    ((refl, λ own e. subst (λ (n : ℕ). last < n) (same_Some id own (sym numbered.0 ∙ e)) less), notes_above s last (id + 1) notes (omega arith) numbered.1)

notes_in_order : (s : List ℕ) (id : ℕ) (notes : List EndNote) → AreNumbered id notes → AreInOrder IsDrawnBefore (map (Ended s) notes)
notes_in_order s id [] numbered = tt
notes_in_order s id (note ∷ notes) numbered = (
  λ m was first second same e f.
      let own : id ≡ first = same_Some id first (sym numbered.0 ∙ e) in
      let above = sent_mapped (Ended s) (IsAbove s id) notes (notes_above s id (id + 1) notes (omega arith) numbered.1) m was in
      subst (λ (n : ℕ). n < second) own (above.1 second f),
  notes_in_order s (id + 1) notes numbered.1,
)

-- ---- where notes go

-- a note goes to a subscription that is there, and tells of its source
abbrev Goes : Rows → List ℕ → Slot → EndNote → Type 0
Goes rows s slot note = IsOnPath rows s slot note.end_to note.id

-- the note of the end of a session goes to its subscription, and tells of its source
note_goes : (rows : Rows) (messages : List Message) (s : List ℕ) (slot : Slot) (id : ℕ) (session : Session) → IsServed rows messages s session →
    id + length (note_of id session.lease) ≤ last_id slot slot.place.memory + 1 → AllByRecursion (Goes rows s slot) (note_of id session.lease)
note_goes rows messages s slot id session served within = by_lease session.lease served.told within
  where
    by_address : (identifier : List ℕ) (end_to : Option (List ℕ)) → IsToldAt session.notify_to end_to → id + length (note_to id identifier end_to) ≤ last_id slot slot.place.memory + 1 →
        AllByRecursion (Goes rows s slot) (note_to id identifier end_to)
    by_address identifier None told least = tt
    by_address identifier (Some address) told least =
        let terms = served.terms in
        let one : id + 1 ≤ last_id slot slot.place.memory + 1 = least in (
          record {
            u = session.name;
            about = terms.about;
            known = terms.known;
            to_subscription = ap subscription_in told ∙ terms.to_subscription;
            to_source = ap source_in told ∙ terms.to_source;
            drawn = omega arith;
          },
          tt,
        )

    by_lease : (lease : Option Lease) → IsLeaseTold session.notify_to lease → id + length (note_of id lease) ≤ last_id slot slot.place.memory + 1 →
        AllByRecursion (Goes rows s slot) (note_of id lease)
    by_lease None told least = tt
    by_lease (Some lease) told least = by_address lease.identifier lease.end_to told least

notes_go : (rows : Rows) (messages : List Message) (s : List ℕ) (slot : Slot) (id : ℕ) (sessions : List Session) → AllByRecursion (IsServed rows messages s) sessions →
    id + length (notes_of id sessions) ≤ last_id slot slot.place.memory + 1 → AllByRecursion (Goes rows s slot) (notes_of id sessions)
notes_go rows messages s slot id [] all within = tt
notes_go rows messages s slot id (session ∷ sessions) all within =
    let one = note_of id session.lease in
    let rest = notes_of (id + length one) sessions in
    let both : length (one ++ rest) ≡ length one + length rest = length-append one rest in
    all_joined (Goes rows s slot) one rest (note_goes rows messages s slot id session all.0 (omega (arith, both)))
    (notes_go rows messages s slot (id + length one) sessions all.1 (omega (arith, both)))

-- ---- the step

pub within_most : (drawn : ℕ) → nat_lt most_drawn drawn ≡ false → drawn ≤ most_drawn
within_most drawn e = grind (arith, nat_tests, e)

shut_kept : (state : State) (s : List ℕ) (slot : Slot) (end : End) → IsKept state → slot_of state s ≡ Some slot → slot.place.memory ≡ Some end → is_short end ≡ false →
    IsKept (with_messages (with_end state s slot (shut_in end)) (map (Ended s) (end_notes end)))
shut_kept state s slot end kept there runs room =
    let source = kept.sources s slot there in
    let is = running_is state s slot end source runs in
    let rows : Rows = state.collector.rows in
    let after : End = shut_in end in
    let new : Slot = running_with slot after in
    let notes : List EndNote = end_notes end in
    let more : List Message = map (Ended s) notes in
    let messages : List Message = state.messages ++ more in
    let last : ℕ = last_id slot slot.place.memory in
    let numbered = notes_numbered (next_id end) end.sessions in
    kept_sent state s slot new more kept there (goes_on slot end after runs refl (omega arith))
    (source_with_end rows state.messages messages s slot after source is.0.boot is.1 (within_most after.drawn room) (filter_in_order is_asked_for end.sessions is.0.in_order)
    (all_filtered (IsServed rows messages s) is_asked_for end.sessions (all_later state s more end.sessions is.0.sessions)))
    (sent_mapped (Ended s) (IsMessageKept rows (finite.insert state.sources s new) messages) notes
    (all_map (Goes rows s new) (λ (note : EndNote). IsMessageKept rows (finite.insert state.sources s new) messages (Ended s note))
    (λ note goes. declared_is (finite.get (finite.insert state.sources s new) s) new (λ (o : Slot). Goes rows s o note) (slot_put state.sources s new) goes) notes
    (notes_go rows state.messages s new (next_id end) end.sessions is.0.sessions (omega arith))))
    (sent_mapped (Ended s) (IsAbove s last) notes (notes_above s last (next_id end) notes (fresh_id slot end runs) numbered))
    (notes_in_order s (next_id end) notes numbered)

pub shut_keeps : Lower → (state : State) (s : List ℕ) → IsKept state → IsKept (shut_step state s)
shut_keeps lower state s kept = at_source_keeps lower state s (shut_at s) kept (λ now slot end kept_now opened there runs.
    cond_both (is_short end) now (with_messages (with_end now s slot (shut_in end)) (map (Ended s) (end_notes end))) IsKept
    (λ short. kept_now) (λ room. shut_kept now s slot end kept_now there runs room))
