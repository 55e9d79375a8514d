-- What a kept world's messages are: asks, deliveries, heartbeats and notes can be sent, asks and requests can be answered, and the
-- addresses of deliveries, heartbeats and notes lead to a subscription and a source.
use Rattle.std.proofs.Common.{◌≡◌, ℕ, List, [], ◌∷◌, refl, sym, subst, ap, ◌∙◌}
use Rattle.std.specs.List.{AllByRecursion}
use Rattle.std.specs.Prelude.{Option, Some, None, IfSome}
use Rattle.wef_envelope.specs.Laws.{IsSpelt}
use Rattle.wef_eventing.specs.Addresses.{source_in, subscription_in}
use Rattle.wef_eventing.specs.declared.subscriptions.Subscription.{Subscription}
use Rattle.wef_front.specs.Sent.{CanBeAsked}
use Rattle.wef_front_source.specs.Sending.{BeatCanBeSent, CanBeSent}
use Rattle.wef_heartbeat.specs.declared.messages.Heartbeat.{Heartbeat}
use Rattle.wef_ids.specs.declared.MessageId.{MessageId}
use Rattle.wef_safety.proofs.CollectorSteps.{opened_kept}
use Rattle.wef_safety.proofs.LowerFacts.{lower}
use Rattle.wef_safety.proofs.Moves.{slot_put}
use Rattle.wef_safety.proofs.Offering.{reads_source, reads_subscription}
use Rattle.wef_safety.proofs.RowMoves.{known_name}
use Rattle.wef_safety.proofs.Offerable.{kept_offers_can_be_sent}
use Rattle.wef_pairs.specs.Pairs.{subscription_at}
use Rattle.wef_requests.specs.Requests.{Requested}
use Rattle.wef_safety.proofs.Sendable.{ask_can_be_sent, beat_can_be_sent, delivery_can_be_sent, notes_are_spelt, response_is_spelt}
use Rattle.wef_machine.specs.Collecting.{collector_opened, with_opened as collected}
use Rattle.wef_safety.proofs.Sent.{sent_by_number}
use Rattle.wef_safety.proofs.SourceSteps.{with_opened_kept}
use Rattle.wef_machine.specs.Deliveries.{message_at}
use Rattle.wef_safety.specs.Kept.{IsAskedFor, IsDelivery, IsKept, IsMessageKept, IsOnPath, WasDrawn, WhereDeclared}
use Rattle.wef_machine.specs.Sources.{slot_opened, slot_opening, with_opened}
use Rattle.wef_machine.specs.States.{Slot, State, slot_of}
use Rattle.wef_machine.specs.declared.messages.Message.{Message}
use Rattle.wef_machine.specs.declared.messages.Message.TheVariants.{Ask, Beat, Ended, Events, Request}
use Rattle.wef_source.specs.Machine.{End}
use Rattle.wef_source.specs.Serving.{NoteCanBeSent}
use Rattle.wef_source.specs.Sessions.{session_of}
use Rattle.wef_source.specs.declared.messages.Delivery.{Delivery}
use Rattle.wef_source.specs.declared.messages.EndNote.{EndNote}
use Rattle.wef_building.specs.declared.sessions.Session.{Session}
use Rattle.wef_places.specs.Places.{UsedAs}
use Rattle.wef_places.specs.Polls.{CanBeAskedAs, CanBeSentAs}
use Rattle.wef_places.specs.Slots.{AsksAs, AsksBy, CanAllBeSent, PollsAs, PollsIn, ShutsAs, ShutsBy}
use Rattle.wef_places.specs.declared.places.Used.{Used}
use Rattle.wef_places.specs.declared.places.Used.TheVariants.{Closed, Answered}
use Rattle.wef_places.specs.declared.slots.Polled.{Polled}
use Rattle.wef_places.specs.declared.slots.Polled.TheVariants as polled
use Rattle.wef_deliveries.specs.Answered.{AnswersSpelt, AnswersSpeltAt, CanOffer, Leads}
use Rattle.wef_world.specs.Shut.{AreToldAs, CanBeTold}

-- a message that is on its way is one that is kept
kept_message : (before now : State) (k : ℕ) (message : Message) → message_at before k ≡ Some message → before ≡ now → IsKept now → IsMessageKept now.collector.rows now.sources now.messages message
kept_message before now k message found is kept = kept.messages message (sent_by_number now k message (subst (λ (state : State). message_at state k ≡ Some message) is found))

-- an address leads to a subscription that is there, and to a declared source
leads_to : (state : State) (u s address : List ℕ) (about : Subscription) (slot : Slot) → IsKept state → subscription_at state.collector.rows u ≡ Some about → slot_of state s ≡ Some slot
    → subscription_in address ≡ Some u → source_in address ≡ Some s → Leads address
leads_to state u s address about slot kept known there to_subscription to_source = record {
  u = u;
  s = s;
  to_subscription = to_subscription;
  to_source = to_source;
  subscription = (reads_subscription u (known_name state.collector.rows u about kept.keys known)).1;
  source = (reads_source s (kept.sources s slot there).name).1;
}

-- so does that of a delivery
pub delivery_leads : (before now : State) (k : ℕ) (s : List ℕ) (delivery : Delivery) → message_at before k ≡ Some (Events s delivery) → before ≡ now → IsKept now → Leads delivery.notify_to
delivery_leads before now k s delivery found is kept = by (slot_of now s) refl (kept_message before now k (Events s delivery) found is kept)
  where
    by : (o : Option Slot) → slot_of now s ≡ o → WhereDeclared o (λ slot. IsDelivery now.collector.rows s slot delivery) → Leads delivery.notify_to
    by None here declared = absurd declared
    by (Some slot) here declared = leads_to now declared.u s delivery.notify_to declared.about slot kept declared.known here declared.to_subscription declared.to_source

-- and that of what a source says beside its events
path_leads : (now : State) (s address : List ℕ) (id : MessageId) → IsKept now → WhereDeclared (slot_of now s) (λ slot. IsOnPath now.collector.rows s slot address id) → Leads address
path_leads now s address id kept = by (slot_of now s) refl
  where
    by : (o : Option Slot) → slot_of now s ≡ o → WhereDeclared o (λ slot. IsOnPath now.collector.rows s slot address id) → Leads address
    by None here declared = absurd declared
    by (Some slot) here declared = leads_to now declared.u s address declared.about slot kept declared.known here declared.to_subscription declared.to_source

pub beat_leads : (before now : State) (k : ℕ) (s : List ℕ) (beat : Heartbeat) → message_at before k ≡ Some (Beat s beat) → before ≡ now → IsKept now → Leads beat.notify_to
beat_leads before now k s beat found is kept = path_leads now s beat.notify_to beat.id kept (kept_message before now k (Beat s beat) found is kept)

pub note_leads : (before now : State) (k : ℕ) (s : List ℕ) (note : EndNote) → message_at before k ≡ Some (Ended s note) → before ≡ now → IsKept now → Leads note.end_to
note_leads before now k s note found is kept = path_leads now s note.end_to note.id kept (kept_message before now k (Ended s note) found is kept)

-- what a session has to send can be sent
pub polled_can_be_sent : (before now : State) (s u : List ℕ) (slot slot' : Slot) (moment : ℕ) (used : Used Polled) → before ≡ now → IsKept now → Some slot ≡ slot_of before s → PollsAs slot slot' u moment used
    → CanBeSentAs used
polled_can_be_sent before now s u slot slot' moment used is kept there polls =
    let kept_before = subst IsKept (sym is) kept in
    by (with_opened_kept lower before s slot kept_before (sym there)) (slot_opened slot).place.memory refl used polls
  where
    can_be_sent : (end : End) (session : Option Session) (answer : Polled) → IsKept (with_opened before s slot) → (slot_opened slot).place.memory ≡ Some end → session_of end.sessions u ≡ session
        → PollsIn (slot_opened slot) slot' end session moment answer → CanBeSentAs (Answered answer)
    can_be_sent end None polled.Unknown kept_so runs found answers = tt
    can_be_sent end None polled.Expired kept_so runs found answers = tt
    can_be_sent end None polled.Nothing kept_so runs found answers = tt
    can_be_sent end None polled.Spent kept_so runs found answers = tt
    can_be_sent end None (polled.Sent delivery) kept_so runs found answers = absurd answers
    can_be_sent end None (polled.Beat beat) kept_so runs found answers = absurd answers
    can_be_sent end (Some session) polled.Unknown kept_so runs found answers = tt
    can_be_sent end (Some session) polled.Expired kept_so runs found answers = tt
    can_be_sent end (Some session) polled.Nothing kept_so runs found answers = tt
    can_be_sent end (Some session) polled.Spent kept_so runs found answers = tt
    can_be_sent end (Some session) (polled.Sent delivery) kept_so runs found answers =
        subst CanBeSent (sym answers.4)
        (delivery_can_be_sent (with_opened before s slot) s u (slot_opened slot) end session kept_so (slot_put before.sources s (slot_opened slot)) runs found answers.3)
    can_be_sent end (Some session) (polled.Beat beat) kept_so runs found answers =
        subst BeatCanBeSent (sym answers.4)
        (beat_can_be_sent (with_opened before s slot) s u (slot_opened slot) end session kept_so (slot_put before.sources s (slot_opened slot)) runs found answers.3)

    by : IsKept (with_opened before s slot) → (memory : Option End) → (slot_opened slot).place.memory ≡ memory → (used : Used Polled)
        → UsedAs (slot_opening slot) memory (slot' ≡ slot_opened slot) (λ (end : End). PollsIn (slot_opened slot) slot' end (session_of end.sessions u) moment) used → CanBeSentAs used
    by kept_so None runs (Closed went) polls = tt
    by kept_so None runs (Answered answer) polls = absurd polls
    by kept_so (Some end) runs (Closed went) polls = tt
    by kept_so (Some end) runs (Answered answer) polls = can_be_sent end (session_of end.sessions u) answer kept_so runs refl polls

-- what a source asks for its subscriptions with can be sent
pub asked_can_be_sent : (before now : State) (s : List ℕ) (slot slot' : Slot) (used : Used (Option MessageId)) → before ≡ now → IsKept now → Some slot ≡ slot_of before s → AsksAs slot slot' used
    → CanBeAskedAs s used
asked_can_be_sent before now s slot slot' used is kept there asks =
    by (with_opened_kept lower before s slot (subst IsKept (sym is) kept) (sym there)) (slot_opened slot).place.memory refl used asks
  where
    by : IsKept (with_opened before s slot) → (memory : Option End) → (slot_opened slot).place.memory ≡ memory → (used : Used (Option MessageId))
        → UsedAs (slot_opening slot) memory (slot' ≡ slot_opened slot) (AsksBy (slot_opened slot) slot') used → CanBeAskedAs s used
    by kept_so None runs (Closed went) asks = tt
    by kept_so None runs (Answered answer) asks = absurd asks
    by kept_so (Some end) runs (Closed went) asks = tt
    by kept_so (Some end) runs (Answered None) asks = tt
    by kept_so (Some end) runs (Answered (Some id)) asks =
        subst (λ (i : MessageId). CanBeAsked (record { source = s; id = i })) (sym asks.1)
        (ask_can_be_sent (with_opened before s slot) s (slot_opened slot) end kept_so (slot_put before.sources s (slot_opened slot)) runs asks.0)

-- what the collector offers to a source that asked can be written and read again
pub ask_can_be_answered : (before now : State) (k : ℕ) (s : List ℕ) (id : MessageId) → message_at before k ≡ Some (Ask s id) → before ≡ now → IsKept now → CanOffer (collector_opened before.collector).rows s
ask_can_be_answered before now k s id found is kept = by (slot_of now s) refl (kept_message before now k (Ask s id) found is kept)
  where
    by : (o : Option Slot) → slot_of now s ≡ o → WhereDeclared o (λ slot. WasDrawn slot id.value) → CanOffer (collector_opened before.collector).rows s
    by None here declared = absurd declared
    by (Some slot) here declared = kept_offers_can_be_sent (collected before) s slot (opened_kept lower before (subst IsKept (sym is) kept)) (ap (λ (state : State). slot_of state s) is ∙ here)

-- the id of what a source answers to a request is that of its text
pub request_can_be_answered : (before now : State) (k : ℕ) (s : List ℕ) (r : Requested) → message_at before k ≡ Some (Request s r.id r.identifier r.body) → before ≡ now → IsKept now
    → AnswersSpeltAt r before.moment (slot_of before s)
request_can_be_answered before now k s r found is kept =
    by (slot_of before s) refl (subst (λ (state : State). IsAskedFor state.collector.rows s r.body) (sym is) (kept_message before now k (Request s r.id r.identifier r.body) found is kept))
  where
    runs : (slot : Slot) → slot_of before s ≡ Some slot → IsAskedFor before.collector.rows s r.body → (memory : Option End) → (slot_opened slot).place.memory ≡ memory
        → IfSome memory (AnswersSpelt r before.moment)
    runs slot there asked None runs_so = tt
    runs slot there asked (Some end) runs_so =
        response_is_spelt (with_opened before s slot) s (slot_opened slot) end r.identifier r.body (with_opened_kept lower before s slot (subst IsKept (sym is) kept) there)
        (slot_put before.sources s (slot_opened slot)) runs_so asked

    by : (o : Option Slot) → slot_of before s ≡ o → IsAskedFor before.collector.rows s r.body → AnswersSpeltAt r before.moment o
    by None there asked = tt
    by (Some slot) there asked = runs slot there asked (slot_opened slot).place.memory refl

-- the notes in which a source tells of the ends of sessions can be sent
both_told : (notes : List EndNote) → AllByRecursion NoteCanBeSent notes → AllByRecursion (λ (note : EndNote). IsSpelt note.id) notes → AllByRecursion CanBeTold notes
both_told [] sent spelt = tt
both_told (note ∷ notes) sent spelt = ((sent.0, spelt.0), both_told notes sent.1 spelt.1)

pub notes_can_be_told : (before now : State) (s : List ℕ) (slot slot' : Slot) (used : Used (Option (List EndNote))) → before ≡ now → IsKept now → Some slot ≡ slot_of before s → ShutsAs slot slot' used
    → CanAllBeSent used → AreToldAs used
notes_can_be_told before now s slot slot' used is kept there shuts sent =
    by (with_opened_kept lower before s slot (subst IsKept (sym is) kept) (sym there)) (slot_opened slot).place.memory refl used shuts sent
  where
    by : IsKept (with_opened before s slot) → (memory : Option End) → (slot_opened slot).place.memory ≡ memory → (used : Used (Option (List EndNote)))
        → UsedAs (slot_opening slot) memory (slot' ≡ slot_opened slot) (ShutsBy (slot_opened slot) slot') used → CanAllBeSent used → AreToldAs used
    by kept_so None runs (Closed went) shuts sent = tt
    by kept_so None runs (Answered answer) shuts sent = absurd shuts
    by kept_so (Some end) runs (Closed went) shuts sent = tt
    by kept_so (Some end) runs (Answered None) shuts sent = tt
    by kept_so (Some end) runs (Answered (Some notes)) shuts sent =
        both_told notes sent (subst (AllByRecursion (λ (note : EndNote). IsSpelt note.id)) (sym shuts.1)
        (notes_are_spelt (with_opened before s slot) s (slot_opened slot) end kept_so (slot_put before.sources s (slot_opened slot)) runs shuts.0))
