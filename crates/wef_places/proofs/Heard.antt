-- What a source hears in a reply is what the machine says of the answer.
use Rattle.std.proofs.Common.{◌≡◌, ℕ, List, Bool, true, cond, ap, subst, sym, ◌∙◌}
use Rattle.std.specs.Prelude.{Option, Some, None, is_some}
use Rattle.wef_eventing.specs.declared.offers.Offer.{Offer}
use Rattle.wef_front_source.specs.HeardReplies.{HearsOffers, HearsReply, HearsTold, Offered, Told}
use Rattle.wef_front_source.specs.declared.listening.Hears as the_hears
use Rattle.wef_front_source.specs.declared.listening.Hears.TheVariants as hears
use Rattle.wef_keeper.specs.Keeping.{raised}
use Rattle.wef_keeper.specs.declared.mem_keeper.MemKeeper.{MemKeeper}
use Rattle.wef_ids.specs.declared.FaultName.{FaultName}
use Rattle.wef_ids.specs.declared.MessageId.{MessageId}
use Rattle.wef_ids.specs.Ids.{ids_agree}
use Rattle.wef_machine.specs.Deliveries.{acknowledged_by, after_offers, offers_heard, refused_by}
use Rattle.wef_machine.specs.Places as machine
use Rattle.wef_machine.specs.Places.{opened}
use Rattle.wef_machine.specs.Sources.{slot_opened}
use Rattle.wef_machine.specs.States.{Slot}
use Rattle.wef_machine.specs.declared.arming.Fate as the_fate
use Rattle.wef_source.specs.Answers.{AnswersTo, asked_for, waiting_for}
use Rattle.wef_source.specs.Calls as source
use Rattle.wef_source.specs.Machine.{End, adopted, start_of}
use Rattle.wef_source.specs.declared.source.SourceEnd.{SourceEnd}
use Rattle.wef_source_log.specs.Answers as log
use Rattle.wef_source_log.specs.Answers.{next_boot}
use Rattle.wef_source.specs.declared.messages.Moved as moved
use Rattle.wef_source.specs.declared.messages.Moved.TheVariants as moves
use Rattle.wef_source.specs.declared.messages.Reply as reply
use Rattle.wef_source.specs.declared.messages.Reply.TheVariants as replies
use Rattle.wef_building.specs.declared.sessions.Session.{Session}
use Rattle.wef_places.proofs.Settled.{running_place}
use Rattle.wef_places.proofs.Written.{opened_alike}
use Rattle.wef_places.specs.Counted.{counted, is_open, once}
use Rattle.wef_places.specs.Places.{UsedAs, end_in, running_with}
use Rattle.wef_places.specs.Slots.{after_reply, after_told, changed_where_runs, reply_heard, slot_changed, told_heard}
use Rattle.wef_places.specs.Sourced.{source_of}
use Rattle.wef_places.specs.declared.places.Place.{Place}
use Rattle.wef_places.specs.declared.places.Placed.{Placed}
use Rattle.wef_places.specs.declared.places.Used.TheVariants.{Answered}

-- A source is what the machine says, and so is what it heard.
record HasHeard (heard : the_hears.Hears) (now : End) (told : the_hears.Hears) (end' : End) : Type 0 where
  after : end' ≡ now
  said : heard ≡ told

ack_taken : (value : Option ℕ) (end end' : End) (how : moved.Moved) → is_some (waiting_for end value) ≡ true → AnswersTo end end' value replies.Ack how
    → (how ≡ moves.Moved) × (end' ≡ cond (is_some (waiting_for end value)) (acknowledged_by end value) end)
ack_taken None end end' how waits answers = absurd answers
ack_taken (Some id) end end' how waits answers = (answers.0, answers.1 ∙ sym (ap (λ (b : Bool). cond b (acknowledged_by end (Some id)) end) waits))

fault_taken : (value : Option ℕ) (fault : FaultName) (end end' : End) (how : moved.Moved) → is_some (waiting_for end value) ≡ true → AnswersTo end end' value (replies.Fault fault) how
    → (how ≡ moves.Refused) × (end' ≡ cond (is_some (waiting_for end value)) (refused_by end value fault) end)
fault_taken None fault end end' how waits answers = absurd answers
fault_taken (Some id) fault end end' how waits answers = (answers.0, answers.1 ∙ sym (ap (λ (b : Bool). cond b (refused_by end (Some id) fault) end) waits))

waited : {X : Type 0} (b : Bool) (x y : X) → b ≡ true → x ≡ cond b x y
waited b x y is = sym (ap (λ t. cond t x y) is)

unwaited : {X : Type 0} (o : Option Session) (x y : X) → o ≡ None → y ≡ cond (is_some o) x y
unwaited o x y is = sym (ap (λ (s : Option Session). cond (is_some s) x y) is)

not_refused : moves.Moved ≡ moves.Refused → ⊥
not_refused e = cc

not_moved : moves.Refused ≡ moves.Moved → ⊥
not_moved e = cc

reply_so : (heard : the_hears.Hears) (relates : MessageId) (answer : reply.Reply) (end end' : End) → HearsReply heard relates answer end end'
    → HasHeard heard (after_reply end relates answer) (reply_heard end relates answer) end'
reply_so hears.Moved relates replies.Ack end end' h =
    record { after = (ack_taken relates.value end end' moves.Moved h.0 h.1).1; said = waited (is_some (waiting_for end relates.value)) hears.Moved hears.NotAsked h.0 }
reply_so hears.Moved relates (replies.Fault fault) end end' h = absurd (not_refused (fault_taken relates.value fault end end' moves.Moved h.0 h.1).0)
reply_so hears.Refused relates replies.Ack end end' h = absurd (not_moved (ack_taken relates.value end end' moves.Refused h.0 h.1).0)
reply_so hears.Refused relates (replies.Fault fault) end end' h =
    record { after = (fault_taken relates.value fault end end' moves.Refused h.0 h.1).1; said = waited (is_some (waiting_for end relates.value)) hears.Refused hears.NotAsked h.0 }
reply_so hears.NotAsked relates replies.Ack end end' h = record {
  after = h.1 ∙ unwaited (waiting_for end relates.value) (acknowledged_by end relates.value) end h.0;
  said = unwaited (waiting_for end relates.value) hears.Moved hears.NotAsked h.0;
}
reply_so hears.NotAsked relates (replies.Fault fault) end end' h = record {
  after = h.1 ∙ unwaited (waiting_for end relates.value) (refused_by end relates.value fault) end h.0;
  said = unwaited (waiting_for end relates.value) hears.Refused hears.NotAsked h.0;
}
reply_so (hears.Adopted count) relates answer end end' h = absurd h
reply_so hears.Unreadable relates answer end end' h = absurd h

-- offers answer the ask, or nothing waits for them
offers_so : (heard : the_hears.Hears) (relates : MessageId) (offers : List Offer) (now : ℕ) (end end' : End) → HearsOffers heard relates offers now end end'
    → HasHeard heard (after_offers end relates offers now) (offers_heard end relates offers now) end'
offers_so (hears.Adopted count) relates offers now end end' h = record {
  after = h.1 ∙ waited (ids_agree end.ask relates.value) (adopted end offers now) end h.0;
  said = ap hears.Adopted h.2 ∙ waited (ids_agree end.ask relates.value) (hears.Adopted (asked_for (adopted end offers now).sessions)) hears.NotAsked h.0;
}
offers_so hears.NotAsked relates offers now end end' h = record {
  after = h.1 ∙ sym (ap (λ t. cond t (adopted end offers now) end) h.0);
  said = sym (ap (λ t. cond t (hears.Adopted (asked_for (adopted end offers now).sessions)) hears.NotAsked) h.0);
}
offers_so hears.Moved relates offers now end end' h = absurd h
offers_so hears.Refused relates offers now end end' h = absurd h
offers_so hears.Unreadable relates offers now end end' h = absurd h

-- so of whatever bytes tell
heard_so : (told : Option Told) (offered : Option Offered) (heard : the_hears.Hears) (now : ℕ) (end end' : End) → HearsTold told offered heard now end end'
    → HasHeard heard (after_told told offered now end) (told_heard told offered now end) end'
heard_so (Some reply) offered heard now end end' h = reply_so heard reply.0 reply.1 end end' h
heard_so None (Some offers) heard now end end' h = offers_so heard offers.0 offers.1 now end end' h
heard_so None None heard now end end' h = record { after = h.1; said = h.0 }

pub heard_after : (told : Option Told) (offered : Option Offered) (heard : the_hears.Hears) (now : ℕ) (end end' : End) → HearsTold told offered heard now end end' → end' ≡ after_told told offered now end
heard_after told offered heard now end end' h = (heard_so told offered heard now end end' h).after

pub heard_says : (told : Option Told) (offered : Option Offered) (heard : the_hears.Hears) (now : ℕ) (end end' : End) → HearsTold told offered heard now end end'
    → heard ≡ told_heard told offered now end
heard_says told offered heard now end end' h = (heard_so told offered heard now end end' h).said

-- ---- a source in its place

module _ (slot : Slot) (placed : Placed (SourceEnd MemKeeper)) (end : SourceEnd MemKeeper) (began : source_of placed ≡ opened slot.place (start_of (next_boot slot.place.rows)) (source.start_effect slot.place.rows slot.capacity))
    (there : Some end ≡ end_in placed.place) where
  -- what it is once it is opened
  runs : source_of (running_with placed.armed end) ≡ (slot_opened slot).place
  runs =
      ap (λ (place : Place (SourceEnd MemKeeper)). source_of (record { place = place; armed = placed.armed })) (sym (running_place placed.place end there)) ∙ began
      ∙ opened_alike slot.place (start_of (next_boot slot.place.rows)) (log.start_effect slot.place.rows slot.capacity)

  -- it changes where what it remembers does
  pub changed_so : (end' : SourceEnd MemKeeper) (change : End → End) → end'.keeper ≡ end.keeper → end'.memory ≡ change end.memory
      → record { capacity = slot.capacity; histories = slot.histories; place = source_of (running_with placed.armed end') } ≡ slot_changed slot change
  changed_so end' change same is =
      (λ i. record { capacity = slot.capacity; histories = slot.histories; place = record { rows = (same i).rows; memory = Some (is i); armed = placed.armed } })
      ∙ ap (λ (p : machine.Place End). changed_where_runs (record { capacity = slot.capacity; histories = slot.histories; place = p }) change p.memory) runs

  -- and answers as one that runs
  pub answers_so : {T : Type 0} (how : the_fate.Fate) (P : End → T → Type 0) (answer : T) → P end.memory answer → UsedAs how (slot_opened slot).place.memory (Unit {0}) P (Answered answer)
  answers_so {T = T} how P answer holds = subst (λ (p : machine.Place End). UsedAs how p.memory (Unit {0}) P (Answered answer)) runs holds

  pub counts_so : (calls count : ℕ) → calls ≡ raised count → calls ≡ counted (once (is_open (slot_opened slot).place)) count
  counts_so calls count is = is ∙ ap (λ (p : machine.Place End). counted (once (is_open p)) count) runs
