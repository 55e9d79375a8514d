-- What a step sent is told by its number; and what settling does with the step's message, with the answer to it and with the verdict, is
-- what is done by these numbers.
use Rattle.std.proofs.Common.{◌≡◌, ℕ, suc, ◌+◌, ◌-◌, ◌==◌, Bool, true, false, cond, ◌&&◌, List, [], ◌∷◌, ◌++◌, length, refl, ap, sym, ◌∙◌, subst, arith}
use Rattle.std.specs.Option.{option_map}
use Rattle.std.specs.Prelude.{Option, Some, None, Ok, Err, is_some, slice_get}
use Rattle.wef_building.specs.declared.sessions.Session.{Session}
use Rattle.wef_collector.specs.declared.asking.Request.{Request}
use Rattle.wef_collector.specs.declared.memories.Memory.{Memory}
use Rattle.wef_collector.specs.declared.responses.Response.{Response}
use Rattle.wef_deliveries.specs.Outcomes.{after_request, asked_left, asked_of, beat_left, beat_of, call_by, events_left, events_of, note_left, note_of, request_by, request_of, request_where_runs, response_of}
use Rattle.wef_deliveries.specs.Outcomes as outcomes
use Rattle.wef_deliveries.specs.declared.taken.Taken.{Taken}
use Rattle.wef_ids.specs.IdTexts.{id_of_value}
use Rattle.wef_ids.specs.declared.MessageId.{MessageId}
use Rattle.wef_machine.specs.Answering.{answer_by, answer_done}
use Rattle.wef_machine.specs.Arming.{fate}
use Rattle.wef_machine.specs.Collecting.{collector_opened, collector_opening, reply_id, where_runs as collector_where_runs, with_opened as collected}
use Rattle.wef_machine.specs.Deliveries.{BatchEffect, after_ack, after_fault, after_offers, beat_at, deliver_message, deliver_step, delivery_effect, end_at, events_at, message_at, offers_at, taken_by}
use Rattle.wef_machine.specs.Leasing.{next_of, note_at, request_at, request_by as requested_by, request_done, request_message, request_said, response_message, responded, responds_at, response_at, response_sent, with_sent}
use Rattle.wef_machine.specs.Places.{Place}
use Rattle.wef_machine.specs.Sources.{ask_at, ask_step, at_slot, at_source, poll_at, poll_in, poll_step, slot_opened, slot_opening, where_runs, with_opened}
use Rattle.wef_machine.specs.States.{Slot, State, address_of, next_number, slot_of, with_collector, with_end, with_message}
use Rattle.wef_machine.specs.Turns.{follow, has_no_id, has_sent, is_stuck, is_stuck_by, is_stuck_in, leases, newest, request_step, verdict_by, waits_by}
use Rattle.wef_machine.specs.declared.arming.Fate as the_fate
use Rattle.wef_machine.specs.declared.arming.Fate.TheVariants as fates
use Rattle.wef_machine.specs.declared.messages.Message.{Message}
use Rattle.wef_machine.specs.declared.messages.Message.TheVariants as sent
use Rattle.wef_machine.specs.declared.verdicts.Verdict.{Verdict}
use Rattle.wef_machine.specs.declared.verdicts.Verdict.TheVariants.{More, Enough, Ended}
use Rattle.wef_places.specs.Counted.{counted, is_heard, once}
use Rattle.wef_places.specs.Settling.{Going, ask_going, goes_on, poll_going, polled_going, request_going, stands}
use Rattle.wef_places.specs.declared.places.Used.{Used}
use Rattle.wef_places.specs.declared.places.Used.TheVariants.{Closed, Answered}
use Rattle.wef_requests.specs.Requests.{Requested, requested_at}
use Rattle.wef_safety.proofs.Moves.{slot_put}
use Rattle.wef_source.specs.Machine.{End, asked, has_caught_up, is_idle, is_spent, next_id}
use Rattle.wef_source.specs.Machine as source
use Rattle.wef_source.specs.Sessions.{has_expired, session_of}
use Rattle.wef_front_source.specs.declared.saying.Said.{Said}
use Rattle.wef_world.proofs.AtCollector.{asked_state, beat_state, events_state, note_state, response_state}
use Rattle.wef_world.proofs.Moves.{moves_by, moves_is}
use Rattle.wef_world.proofs.NewestMessages.{last_is, newest_none, newest_some, not_none}
use Rattle.wef_world.proofs.Used.{given_state, request_state}
use Rattle.wef_world.specs.Asked.{ask_comes, ask_sent, poll_comes, poll_sent, poll_sent_in, used_at_slot, used_where_runs}
use Rattle.wef_world.specs.Delivered.{deliver_comes, delivered_by, moved_by, taken_of}
use Rattle.wef_world.specs.Exchanged.{answer_in, ask_in, batch_in, brought, brought_both, came, came_back, moves_in, request_comes, request_number, state_brought, verdict_back, verdict_of}
use Rattle.wef_world.specs.declared.deliveries.Delivered.{Delivered}
use Rattle.wef_world.specs.declared.source_lines.Polls.{Polls}
use Rattle.wef_world.specs.declared.source_lines.Polls.TheVariants as polls

-- ---- messages and their numbers

-- the message of a number, where one was sent
abbrev found : State → Option ℕ → Option Message
found state None = None
found state (Some k) = message_at state k

-- messages and one more, where there is one
abbrev with_more : List Message → Option Message → List Message
with_more ms None = ms
with_more ms (Some m) = ms ++ m ∷ []

-- the number that a message gets, where there is one
abbrev number_for : ℕ → Option Message → Option ℕ
number_for n message = option_map (λ (m : Message). n) message

-- A step sent this message, or none, and tells its number.
record Sends (before after : State) (number : Option ℕ) (message : Option Message) : Type 0 where
  more : after.messages ≡ with_more before.messages message
  told : number ≡ number_for (next_number before) message

newest_is : (before after : State) (message : Option Message) → after.messages ≡ with_more before.messages message → newest before after ≡ message
newest_is before after None more = newest_none before after more
newest_is before after (Some m) more = newest_some before after m more

-- a list's element of a place, counted from 1
abbrev among : List Message → ℕ → Option Message
among ms k = cond (k == 0) None (slice_get ms (k - 1))

one_more : (n : ℕ) → n + 1 ≡ suc n
one_more n = omega arith

one_less : (n : ℕ) → suc n - 1 ≡ n
one_less n = omega arith

among_last : (ms : List Message) (m : Message) → among (ms ++ m ∷ []) (length ms + 1) ≡ Some m
among_last ms m =
    ap (among (ms ++ m ∷ [])) (one_more (length ms))
    ∙ (λ i. cond (not_none (length ms) i) None (slice_get (ms ++ m ∷ []) (one_less (length ms) i)))
    ∙ last_is ms m

found_is : (before after : State) (message : Option Message) → after.messages ≡ with_more before.messages message → found after (number_for (next_number before) message) ≡ message
found_is before after None more = refl
found_is before after (Some m) more = ap (λ (ms : List Message). among ms (next_number before)) more ∙ among_last before.messages m

found_so : (before after : State) (number : Option ℕ) (message : Option Message) → Sends before after number message → found after number ≡ message
found_so before after number message sends = ap (found after) sends.told ∙ found_is before after message sends.more

-- so the newest message is the one of the number
newest_found : (before after : State) (number : Option ℕ) (message : Option Message) → Sends before after number message → newest before after ≡ found after number
newest_found before after number message sends = newest_is before after message sends.more ∙ sym (found_so before after number message sends)

-- ---- deliveries

sent_more : (state : State) (answer : Option Message) → (with_sent state answer).messages ≡ with_more state.messages answer
sent_more state None = refl
sent_more state (Some m) = refl

-- the messages of a world that is known by another name
messages_of : (before after : State) → before ≡ after → after.messages ≡ before.messages
messages_of before after is = ap (λ (state : State). state.messages) (sym is)

taken_more : (w : State) (m : Message) → (taken_by w m).messages ≡ with_more w.messages (taken_of w m).answer
taken_more w (sent.Ask s id) = messages_of _ _ (asked_state w s id) ∙ sent_more (with_collector w (asked_left w.collector s)) (asked_of w.collector s id).answer
taken_more w (sent.Offers s id relates given) = messages_of _ _ (given_state w s (λ end. after_offers end relates given w.moment))
taken_more w (sent.Events s delivery) =
    messages_of _ _ (events_state w s delivery) ∙ sent_more (with_collector w (events_left w.collector s delivery w.moment)) (events_of w.collector s delivery w.moment).answer
taken_more w (sent.Beat s beat) = messages_of _ _ (beat_state w s beat) ∙ sent_more (with_collector w (beat_left w.collector s beat w.moment)) (beat_of w.collector s beat w.moment).answer
taken_more w (sent.Ack s id relates) = messages_of _ _ (given_state w s (λ end. after_ack end relates))
taken_more w (sent.Fault s id relates fault) = messages_of _ _ (given_state w s (λ end. after_fault end relates fault))
taken_more w (sent.Request s id identifier body) =
    messages_of _ _ (request_state w s (requested_at (address_of s) id identifier body)) ∙ sent_more _ (taken_of w (sent.Request s id identifier body)).answer
taken_more w (sent.Response s id relates answer) = messages_of _ _ (response_state w relates answer)
taken_more w (sent.Ended s note) = messages_of _ _ (note_state w s note) ∙ sent_more (with_collector w (note_left w.collector s note)) (note_of w.collector s note).answer

-- the answer to a message, where there is one
abbrev answer_to : State → Option Message → Option Message
answer_to w None = None
answer_to w (Some m) = (taken_of w m).answer

-- a delivery tells the number of the answer
came_sends : (w : State) (number : Option ℕ) → Sends w (state_brought number w) (answer_in (came number w)) (answer_to w (found w number))
came_sends w None = record { more = refl; told = refl }
came_sends w (Some k) = by (message_at w k)
  where
    by : (o : Option Message) → Sends w (deliver_message w o)
        (answer_in (option_map (λ (message : Message). delivered_by (next_number w) (moved_by w message) (taken_of w message)) o)) (answer_to w o)
    by None = record { more = refl; told = refl }
    by (Some m) = record { more = taken_more w m; told = refl }

-- ---- a step's message and its answer are brought

follows : (before w : State) (number : Option ℕ) → newest before w ≡ found w number → follow before w ≡ state_brought number w
follows before w number is = ap (deliver_message w) is ∙ by number
  where
    by : (number : Option ℕ) → deliver_message w (found w number) ≡ state_brought number w
    by None = refl
    by (Some k) = refl

brings : (before : State) (g : Going) (number : Option ℕ) → newest before g.state ≡ found g.state number → goes_on before g ≡ brought number g
brings before g number is = ap made is ∙ by number
  where
    made : Option Message → Going
    made o = record { state = deliver_message g.state o; calls = counted (once (is_heard g.state o)) g.calls }

    by : (number : Option ℕ) → made (found g.state number) ≡ brought number g
    by None = refl
    by (Some k) = refl

brought_state : (number : Option ℕ) (g : Going) → (brought number g).state ≡ state_brought number g.state
brought_state None g = refl
brought_state (Some k) g = refl

-- the newest message behind a delivery is the one of the answer's number
answer_found : (w : State) (number : Option ℕ) → newest w (state_brought number w) ≡ found (state_brought number w) (answer_in (came number w))
answer_found w number = newest_found w (state_brought number w) (answer_in (came number w)) (answer_to w (found w number)) (came_sends w number)

brings_both : (before : State) (g : Going) (number : Option ℕ) → newest before g.state ≡ found g.state number → goes_on g.state (goes_on before g) ≡ brought_both number g
brings_both before g number is =
    ap (goes_on g.state) (brings before g number is)
    ∙ brings g.state (brought number g) (answer_in (came number g.state))
    (subst (λ (w : State). newest g.state w ≡ found w (answer_in (came number g.state))) (sym (brought_state number g)) (answer_found g.state number))

-- ---- what becomes of the answer

is_there : (w : State) (number : Option ℕ) → is_some (came number w) ≡ is_some (found w number)
is_there w None = refl
is_there w (Some k) = by (message_at w k)
  where
    by : (o : Option Message) → is_some (option_map (λ (message : Message). delivered_by (next_number w) (moved_by w message) (taken_of w message)) o) ≡ is_some o
    by None = refl
    by (Some m) = refl

moves_so : (w : State) (number : Option ℕ) → moves_in (came number w) ≡ moves_by w (found w number)
moves_so w None = refl
moves_so w (Some k) = moves_is w k

-- the answer that comes back is behind the delivery of what was sent
back_as : (before w : State) (number : Option ℕ) → newest before w ≡ found w number → newest w (follow before w) ≡ found (state_brought number w) (answer_in (came number w))
back_as before w number is = ap (newest w) (follows before w number is) ∙ answer_found w number

-- ---- asks

asks_none : (state : State) → Sends state state None None
asks_none state = record { more = refl; told = refl }

abbrev ask_message : List ℕ → Bool → End → Option Message
ask_message s spent end = cond spent None (Some (sent.Ask s (id_of_value (next_id end))))

-- A step sent some message, or none, of a kind, and tells its number.
record HasSent (Kind : Option Message → Type 0) (before after : State) (number : Option ℕ) : Type 0 where
  message : Option Message
  kind : Kind message
  sends : Sends before after number message

abbrev Any : Option Message → Type 0
Any message = Unit {0}

sent_found : (Kind : Option Message → Type 0) (before after : State) (number : Option ℕ) → HasSent Kind before after number → newest before after ≡ found after number
sent_found Kind before after number has = newest_found before after number has.message has.sends

nothing_sent : (before after : State) → after.messages ≡ before.messages → HasSent Any before after None
nothing_sent before after same = record { message = None; kind = tt; sends = record { more = same; told = refl } }

ask_sends : (state : State) (s : List ℕ) → HasSent Any state (ask_step state s) (ask_in (ask_comes state s))
ask_sends state s = by (slot_of state s)
  where
    by_spent : (slot : Slot) (end : End) (spent : Bool) → HasSent Any state
        (cond spent (with_opened state s slot) (with_message (with_end (with_opened state s slot) s (slot_opened slot) (asked end)) (sent.Ask s (id_of_value (next_id end)))))
        (cond spent None (Some (next_number state)))
    by_spent slot end true = nothing_sent state (with_opened state s slot) refl
    by_spent slot end false = record { message = Some (sent.Ask s (id_of_value (next_id end))); kind = tt; sends = record { more = refl; told = refl } }

    by_memory : (slot : Slot) (memory : Option End) → HasSent Any state (where_runs (with_opened state s slot) (slot_opened slot) memory (ask_at s))
        (ask_in (Some (used_where_runs (with_opened state s slot) (slot_opened slot) memory (slot_opening slot) ask_sent)))
    by_memory slot None = nothing_sent state (with_opened state s slot) refl
    by_memory slot (Some end) = by_spent slot end (is_spent end)

    by : (o : Option Slot) → HasSent Any state (at_slot state s o (ask_at s)) (ask_in (used_at_slot state s o ask_sent))
    by None = nothing_sent state state refl
    by (Some slot) = by_memory slot (slot_opened slot).place.memory

-- an answer can come back only where something was sent
both_sent : (before w : State) (number : Option ℕ) → newest before w ≡ found w number
    → is_some (came_back number w) ≡ (has_sent before w && has_sent w (follow before w))
both_sent before w number is =
    is_there (state_brought number w) (answer_in (came number w))
    ∙ ap is_some (sym (back_as before w number is))
    ∙ by (found w number) is
  where
    by : (o : Option Message) → newest before w ≡ o → has_sent w (follow before w) ≡ (has_sent before w && has_sent w (follow before w))
    by None none =
        ap is_some (ap (newest w) (ap (deliver_message w) none) ∙ newest_none w w refl)
        ∙ ap (λ (t : Bool). t && has_sent w (follow before w)) (sym (ap is_some none))
    by (Some m) some = ap (λ (t : Bool). t && has_sent w (follow before w)) (sym (ap is_some some))

pub asks_go : (s : List ℕ) (g : Going) →
    (brought_both (ask_in (ask_comes g.state s)) (stands g (ask_step g.state s)), is_some (came_back (ask_in (ask_comes g.state s)) (ask_step g.state s))) ≡ ask_going s g
asks_go s g = λ i. (sym (brings_both g.state (stands g (ask_step g.state s)) number is) i, both_sent g.state (ask_step g.state s) number is i)
  where
    number : Option ℕ
    number = ask_in (ask_comes g.state s)

    is : newest g.state (ask_step g.state s) ≡ found (ask_step g.state s) number
    is = sent_found Any g.state (ask_step g.state s) number (ask_sends g.state s)

-- ---- requests

-- a request, or none
abbrev IsRequest : Option Message → Type 0
IsRequest None = Unit {0}
IsRequest (Some (sent.Request s id identifier body)) = Unit {0}
IsRequest (Some _) = ⊥

request_sends : (state : State) → HasSent IsRequest state (request_step state) (request_comes state)
request_sends state = by (collector_opened state.collector).memory
  where
    by_next : (memory : Memory) (next : Option Request) → HasSent IsRequest state (requested_by (collected state) memory next) (option_map (λ (r : Request). next_number state) next)
    by_next memory None = record { message = None; kind = tt; sends = record { more = refl; told = refl } }
    by_next memory (Some r) = record { message = Some (request_message r); kind = tt; sends = record { more = refl; told = refl } }

    by : (memory : Option Memory) → HasSent IsRequest state (collector_where_runs (collected state) memory request_at) (request_number (collected state) memory)
    by None = record { message = None; kind = tt; sends = record { more = refl; told = refl } }
    by (Some memory) = by_next memory (next_of (collected state) memory)

-- no acknowledgement
abbrev IsNoAck : Option Message → Type 0
IsNoAck (Some (sent.Ack s id relates)) = ⊥
IsNoAck _ = Unit {0}

-- a source doesn't answer a request with one
request_unacked : (w : State) (o : Option Message) → IsRequest o → IsNoAck (answer_to w o)
request_unacked w None kind = tt
request_unacked w (Some (sent.Ask s id)) kind = absurd kind
request_unacked w (Some (sent.Offers s id relates given)) kind = absurd kind
request_unacked w (Some (sent.Events s delivery)) kind = absurd kind
request_unacked w (Some (sent.Beat s beat)) kind = absurd kind
request_unacked w (Some (sent.Ack s id relates)) kind = absurd kind
request_unacked w (Some (sent.Fault s id relates fault)) kind = absurd kind
request_unacked w (Some (sent.Response s id relates answer)) kind = absurd kind
request_unacked w (Some (sent.Ended s note)) kind = absurd kind
request_unacked w (Some (sent.Request s id identifier body)) kind = by (slot_of w s)
  where
    r : Requested
    r = requested_at (address_of s) id identifier body

    by_answer : (answer : Option (MessageId × Response)) → IsNoAck (option_map (response_message s id) answer)
    by_answer None = tt
    by_answer (Some response) = tt

    by_said : (end : End) (said : Said) → IsNoAck (response_sent s id end said)
    by_said end said = by_answer (responded end said)

    by_memory : (slot : Slot) (memory : Option End) → IsNoAck (request_where_runs (slot_opening slot) s r w.moment memory).answer
    by_memory slot None = tt
    by_memory slot (Some end) = by_said (request_done r.identifier r.body w.moment end) (request_said r.identifier r.body w.moment end)

    by : (o : Option Slot) → IsNoAck (request_by s r w.moment o).answer
    by None = tt
    by (Some slot) = by_memory slot (slot_opened slot).place.memory

-- of what is no acknowledgement, a lease alone is moved
leases_so : (w : State) (o : Option Message) → IsNoAck o → moves_by w o ≡ leases w o
leases_so w None other = refl
leases_so w (Some (sent.Ask s id)) other = refl
leases_so w (Some (sent.Offers s id relates given)) other = refl
leases_so w (Some (sent.Events s delivery)) other = refl
leases_so w (Some (sent.Beat s beat)) other = refl
leases_so w (Some (sent.Ack s id relates)) other = absurd other
leases_so w (Some (sent.Fault s id relates fault)) other = refl
leases_so w (Some (sent.Request s id identifier body)) other = refl
leases_so w (Some (sent.Response s id relates answer)) other = refl
leases_so w (Some (sent.Ended s note)) other = refl

pub requests_go : (g : Going) →
    (brought_both (request_comes g.state) (stands g (request_step g.state)), moves_in (came_back (request_comes g.state) (request_step g.state))) ≡ request_going g
requests_go g = λ i. (sym (brings_both g.state (stands g w) number is) i, leased i)
  where
    w : State
    w = request_step g.state

    number : Option ℕ
    number = request_comes g.state

    has : HasSent IsRequest g.state w number
    has = request_sends g.state

    is : newest g.state w ≡ found w number
    is = sent_found IsRequest g.state w number has

    taken : State
    taken = state_brought number w

    back : Option ℕ
    back = answer_in (came number w)

    unacked : IsNoAck (found taken back)
    unacked =
        subst IsNoAck (sym (found_so w taken back (answer_to w (found w number)) (came_sends w number)))
        (request_unacked w (found w number) (subst IsRequest (sym (found_so g.state w number has.message has.sends)) has.kind))

    leased : moves_in (came_back number w) ≡ leases (follow g.state w) (newest w (follow g.state w))
    leased =
        moves_so taken back ∙ leases_so taken (found taken back) unacked
        ∙ (λ i. leases (sym (follows g.state w number is) i) (sym (back_as g.state w number is) i))

-- ---- polls

abbrev IsEvents : Option Message → Type 0
IsEvents (Some (sent.Events s delivery)) = Unit {0}
IsEvents _ = ⊥

abbrev IsBeat : Option Message → Type 0
IsBeat (Some (sent.Beat s beat)) = Unit {0}
IsBeat _ = ⊥

-- a poll sent nothing, and its session is stuck or not
abbrev Sat : List ℕ → List ℕ → State → State → Bool → Type 0
Sat s u before after stuck = (after.messages ≡ before.messages) × (is_stuck after s u ≡ stuck)

-- what a poll came to is what it did
abbrev PollsSo : List ℕ → List ℕ → State → State → Option (Used Polls) → Type 0
PollsSo s u before after None = Sat s u before after false
PollsSo s u before after (Some (Closed how)) = Sat s u before after true
PollsSo s u before after (Some (Answered polls.Unknown)) = Sat s u before after false
PollsSo s u before after (Some (Answered polls.Expired)) = Sat s u before after false
PollsSo s u before after (Some (Answered polls.Nothing)) = Sat s u before after false
PollsSo s u before after (Some (Answered polls.Spent)) = Sat s u before after true
PollsSo s u before after (Some (Answered (polls.Sent n))) = HasSent IsEvents before after (Some n)
PollsSo s u before after (Some (Answered (polls.Beat n))) = HasSent IsBeat before after (Some n)

-- of a source that is declared
module _ (s u : List ℕ) (state : State) (slot : Slot) where
  abbrev opened : State
  opened = with_opened state s slot

  by_tests : (beaten sends : State) (beat batch : Message) → beaten.messages ≡ state.messages ++ beat ∷ [] → sends.messages ≡ state.messages ++ batch ∷ [] → IsBeat (Some beat) → IsEvents (Some batch)
      → (expired idle spent caught_up : Bool) → is_stuck opened s u ≡ cond expired false (cond idle false spent)
      → PollsSo s u state (cond expired opened (cond idle opened (cond spent opened (cond caught_up beaten sends))))
      (Some (Answered (cond expired polls.Expired (cond idle polls.Nothing (cond spent polls.Spent (cond caught_up (polls.Beat (next_number state)) (polls.Sent (next_number state))))))))
  by_tests beaten sends beat batch beats more is_beat is_batch true idle spent caught_up stuck = (refl, stuck)
  by_tests beaten sends beat batch beats more is_beat is_batch false true spent caught_up stuck = (refl, stuck)
  by_tests beaten sends beat batch beats more is_beat is_batch false false true caught_up stuck = (refl, stuck)
  by_tests beaten sends beat batch beats more is_beat is_batch false false false true stuck = record { message = Some beat; kind = is_beat; sends = record { more = beats; told = refl } }
  by_tests beaten sends beat batch beats more is_beat is_batch false false false false stuck = record { message = Some batch; kind = is_batch; sends = record { more = more; told = refl } }

  by_session : (end : End) (session : Option Session) → is_stuck opened s u ≡ has_no_id state.moment (slot_opened slot) end session
      → PollsSo s u state (poll_in s opened (slot_opened slot) end session) (Some (Answered (poll_sent_in opened (slot_opened slot) end session)))
  by_session end None stuck = (refl, stuck)
  by_session end (Some session) stuck =
      by_tests
      (with_message (with_end opened s (slot_opened slot) (source.beaten end session state.moment)) (sent.Beat s (source.beat_of end session)))
      (with_message (with_end opened s (slot_opened slot) (source.sent (slot_opened slot).place.rows end session state.moment)) (sent.Events s (source.delivery_of (slot_opened slot).place.rows end session)))
      (sent.Beat s (source.beat_of end session)) (sent.Events s (source.delivery_of (slot_opened slot).place.rows end session)) refl refl tt tt
      (has_expired state.moment session) (is_idle state.moment (slot_opened slot).place.rows session) (is_spent end) (has_caught_up (slot_opened slot).place.rows session) stuck

  by_memory : (memory : Option End) → is_stuck opened s u ≡ is_stuck_in state.moment u (slot_opened slot) memory
      → PollsSo s u state (where_runs opened (slot_opened slot) memory (poll_at s u)) (Some (used_where_runs opened (slot_opened slot) memory (slot_opening slot) (poll_sent u)))
  by_memory None stuck = (refl, stuck)
  by_memory (Some end) stuck = by_session end (session_of end.sessions u) stuck

  slot_polls : PollsSo s u state (at_slot state s (Some slot) (poll_at s u)) (used_at_slot state s (Some slot) (poll_sent u))
  slot_polls = by_memory (slot_opened slot).place.memory (ap (is_stuck_by state.moment u) (slot_put state.sources s (slot_opened slot)))

poll_sends : (s u : List ℕ) (state : State) → PollsSo s u state (poll_step state s u) (poll_comes state s u)
poll_sends s u state = by (slot_of state s) refl
  where
    by : (o : Option Slot) → slot_of state s ≡ o → PollsSo s u state (at_slot state s o (poll_at s u)) (used_at_slot state s o (poll_sent u))
    by None there = (refl, ap (is_stuck_by state.moment u) there)
    by (Some slot) there = slot_polls s u state slot

-- no answer to a request
abbrev IsNoResponse : Option Message → Type 0
IsNoResponse (Some (sent.Response s id relates answer)) = ⊥
IsNoResponse _ = Unit {0}

-- the collector doesn't answer a batch with one
events_unanswered : (w : State) (o : Option Message) → IsEvents o → IsNoResponse (answer_to w o)
events_unanswered w None kind = absurd kind
events_unanswered w (Some (sent.Ask s id)) kind = absurd kind
events_unanswered w (Some (sent.Offers s id relates given)) kind = absurd kind
events_unanswered w (Some (sent.Beat s beat)) kind = absurd kind
events_unanswered w (Some (sent.Ack s id relates)) kind = absurd kind
events_unanswered w (Some (sent.Fault s id relates fault)) kind = absurd kind
events_unanswered w (Some (sent.Request s id identifier body)) kind = absurd kind
events_unanswered w (Some (sent.Response s id relates answer)) kind = absurd kind
events_unanswered w (Some (sent.Ended s note)) kind = absurd kind
events_unanswered w (Some (sent.Events s delivery)) kind = by (collector_opened w.collector).memory
  where
    by_ack : (ack : Bool) (id relates : MessageId) → IsNoResponse (answer_done ack s id relates)
    by_ack true id relates = tt
    by_ack false id relates = tt

    by_fate : (how : the_fate.Fate) (ack : Bool) (id relates : MessageId) → IsNoResponse (answer_by how ack s id relates)
    by_fate fates.Done ack id relates = by_ack ack id relates
    by_fate fates.Failed ack id relates = tt
    by_fate fates.Stopped ack id relates = tt

    by_effect : (effect : BatchEffect) (ack : Bool) (id relates : MessageId) → IsNoResponse (outcomes.answer_for (collector_opened w.collector) effect ack s id relates)
    by_effect (Ok changes) ack id relates = by_fate (fate (collector_opened w.collector).armed changes) ack id relates
    by_effect (Err fault) ack id relates = tt

    by : (memory : Option Memory) → IsNoResponse (call_by (collector_opening w.collector) (collector_opened w.collector)
        (delivery_effect (collector_opened w.collector).rows delivery w.moment) delivery.batch.ack_wanted s delivery.id memory).answer
    by None = tt
    by (Some memory) = by_effect (delivery_effect (collector_opened w.collector).rows delivery w.moment) delivery.batch.ack_wanted (reply_id memory) delivery.id

back_by : (back : Option Delivered) → verdict_back back ≡ cond (is_some back) (cond (moves_in back) More Enough) Ended
back_by None = refl
back_by (Some delivered) = refl

verdict_so : (w : State) (o : Option Message) → IsNoResponse o → cond (is_some o) (cond (moves_by w o) More Enough) Ended ≡ verdict_by w o
verdict_so w None other = refl
verdict_so w (Some (sent.Ask s id)) other = refl
verdict_so w (Some (sent.Offers s id relates given)) other = refl
verdict_so w (Some (sent.Events s delivery)) other = refl
verdict_so w (Some (sent.Beat s beat)) other = refl
verdict_so w (Some (sent.Ack s id relates)) other = refl
verdict_so w (Some (sent.Fault s id relates fault)) other = refl
verdict_so w (Some (sent.Request s id identifier body)) other = refl
verdict_so w (Some (sent.Response s id relates answer)) other = absurd other
verdict_so w (Some (sent.Ended s note)) other = refl

back_verdict : (w : State) (number : Option ℕ) → IsNoResponse (found w number) → verdict_back (came number w) ≡ verdict_by w (found w number)
back_verdict w number other =
    back_by (came number w)
    ∙ (λ i. cond (is_there w number i) (cond (moves_so w number i) More Enough) Ended)
    ∙ verdict_so w (found w number) other

-- ---- a poll that sent a batch

sent_so : (s u : List ℕ) (g : Going) (after : State) (n : ℕ) (message : Option Message) → IsEvents message → newest g.state after ≡ message →
    polled_going s u g.state (stands g after) message ≡ (goes_on after (goes_on g.state (stands g after)), verdict_by (follow g.state after) (newest after (follow g.state after)))
sent_so s u g after n None kind is = absurd kind
sent_so s u g after n (Some (sent.Events r delivery)) kind is = refl
sent_so s u g after n (Some (sent.Ask r id)) kind is = absurd kind
sent_so s u g after n (Some (sent.Offers r id relates given)) kind is = absurd kind
sent_so s u g after n (Some (sent.Beat r beat)) kind is = absurd kind
sent_so s u g after n (Some (sent.Ack r id relates)) kind is = absurd kind
sent_so s u g after n (Some (sent.Fault r id relates fault)) kind is = absurd kind
sent_so s u g after n (Some (sent.Request r id identifier body)) kind is = absurd kind
sent_so s u g after n (Some (sent.Response r id relates answer)) kind is = absurd kind
sent_so s u g after n (Some (sent.Ended r note)) kind is = absurd kind

beat_so : (s u : List ℕ) (g : Going) (after : State) (message : Option Message) → IsBeat message → polled_going s u g.state (stands g after) message ≡ (stands g after, Enough)
beat_so s u g after None kind = absurd kind
beat_so s u g after (Some (sent.Beat r beat)) kind = refl
beat_so s u g after (Some (sent.Ask r id)) kind = absurd kind
beat_so s u g after (Some (sent.Offers r id relates given)) kind = absurd kind
beat_so s u g after (Some (sent.Events r delivery)) kind = absurd kind
beat_so s u g after (Some (sent.Ack r id relates)) kind = absurd kind
beat_so s u g after (Some (sent.Fault r id relates fault)) kind = absurd kind
beat_so s u g after (Some (sent.Request r id identifier body)) kind = absurd kind
beat_so s u g after (Some (sent.Response r id relates answer)) kind = absurd kind
beat_so s u g after (Some (sent.Ended r note)) kind = absurd kind

-- where nothing was sent
sat_so : (s u : List ℕ) (g : Going) (after : State) (stuck : Bool) → Sat s u g.state after stuck →
    (stands g after, cond stuck Ended Enough) ≡ polled_going s u g.state (stands g after) (newest g.state after)
sat_so s u g after stuck sat =
    ap (λ (t : Bool). (stands g after, cond t Ended Enough)) (sym sat.1)
    ∙ ap (polled_going s u g.state (stands g after)) (sym (newest_none g.state after sat.0))

batch_so : (s u : List ℕ) (g : Going) (after : State) (n : ℕ) → HasSent IsEvents g.state after (Some n) →
    (brought_both (Some n) (stands g after), verdict_back (came_back (Some n) after)) ≡ polled_going s u g.state (stands g after) (newest g.state after)
batch_so s u g after n has =
    (λ i. (sym (brings_both g.state (stands g after) number is) i, ended i))
    ∙ sym (sent_so s u g after n has.message has.kind named)
    ∙ ap (polled_going s u g.state (stands g after)) (sym named)
  where
    number : Option ℕ
    number = Some n

    named : newest g.state after ≡ has.message
    named = newest_is g.state after has.message has.sends.more

    is : newest g.state after ≡ found after number
    is = sent_found IsEvents g.state after number has

    taken : State
    taken = state_brought number after

    back : Option ℕ
    back = answer_in (came number after)

    unanswered : IsNoResponse (found taken back)
    unanswered =
        subst IsNoResponse (sym (found_so after taken back (answer_to after (found after number)) (came_sends after number)))
        (events_unanswered after (found after number) (subst IsEvents (sym (found_so g.state after number has.message has.sends)) has.kind))

    ended : verdict_back (came_back number after) ≡ verdict_by (follow g.state after) (newest after (follow g.state after))
    ended =
        back_verdict taken back unanswered
        ∙ (λ i. verdict_by (sym (follows g.state after number is) i) (sym (back_as g.state after number is) i))

beaten_so : (s u : List ℕ) (g : Going) (after : State) (n : ℕ) → HasSent IsBeat g.state after (Some n) →
    (stands g after, Enough) ≡ polled_going s u g.state (stands g after) (newest g.state after)
beaten_so s u g after n has =
    sym (beat_so s u g after has.message has.kind)
    ∙ ap (polled_going s u g.state (stands g after)) (sym (newest_is g.state after has.message has.sends.more))

pub polls_go : (s u : List ℕ) (g : Going) →
    (brought_both (batch_in (poll_comes g.state s u)) (stands g (poll_step g.state s u)), verdict_of (poll_comes g.state s u) (came_back (batch_in (poll_comes g.state s u)) (poll_step g.state s u)))
    ≡ poll_going s u g
polls_go s u g = by (poll_comes g.state s u) (poll_sends s u g.state)
  where
    after : State
    after = poll_step g.state s u

    by : (p : Option (Used Polls)) → PollsSo s u g.state after p →
        (brought_both (batch_in p) (stands g after), verdict_of p (came_back (batch_in p) after)) ≡ polled_going s u g.state (stands g after) (newest g.state after)
    by None so = sat_so s u g after false so
    by (Some (Closed how)) so = sat_so s u g after true so
    by (Some (Answered polls.Unknown)) so = sat_so s u g after false so
    by (Some (Answered polls.Expired)) so = sat_so s u g after false so
    by (Some (Answered polls.Nothing)) so = sat_so s u g after false so
    by (Some (Answered polls.Spent)) so = sat_so s u g after true so
    by (Some (Answered (polls.Sent n))) so = batch_so s u g after n so
    by (Some (Answered (polls.Beat n))) so = beaten_so s u g after n so
