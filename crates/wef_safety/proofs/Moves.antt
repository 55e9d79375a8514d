-- What is kept stays so over one change: the rows move on, a source does, or messages are sent.
use Rattle.std.proofs.Common.{◌≡◌, ℕ, ◌<◌, ◌≤◌, Bool, true, false, cond, List, [], ◌∷◌, ◌++◌, refl, ap, sym, ◌∙◌, subst, arith, inl, inr}
use Rattle.std.proofs.lemmas.Option.{none-some, same_Some}
use Rattle.std.specs.Prelude.{Option, Some, None, ◌⊎◌}
use Rattle.std.specs.Cmp.{eq_by_cmp_equiv}
use Rattle.std.specs.Cmp.Lexicographic.{slice_cmp, nat_list_cmp_total}
use Rattle.std.specs.FinMap as finite
use Rattle.std.specs.FinMap.{nat_cmp-IsAntisymmetric, slice_cmp-IsAntisymmetric}
use Rattle.std.specs.Option.{option_map}
use Rattle.std.specs.Ordering.{eq_by_cmp, is_eq, nat_cmp}
use Rattle.std.specs.declared.cmp.Ordering.{Ordering}
use Rattle.std.specs.declared.cmp.Ordering.TheVariants.{Less, Equal, Greater}
use Rattle.wef_batch.specs.WellFormed.{is_in}
use Rattle.wef_collector_rows.specs.Answers.{channels_read}
use Rattle.wef_eventing.specs.declared.subscriptions.Subscription.{Subscription}
use Rattle.wef_keeper.specs.Rows.{Rows}
use Rattle.wef_keeper.specs.declared.keys.Cell.{Cell}
use Rattle.wef_keeper.specs.declared.keys.Key.{Key}
use Rattle.wef_replay.specs.Good.{is_among}
use Rattle.wef_source_log.specs.Histories.{history}
use Rattle.wef_pairs.specs.Pairs.{IsPairSafe, IsUntouched, settings_of, subscription_at}
use Rattle.wef_machine.specs.States.{Slot, Slots, State, slot_of, with_message, with_messages, with_slot}
use Rattle.wef_collector_rows.specs.Forms.{AreFormed}
use Rattle.wef_machine.specs.declared.messages.Message.{Message}
use Rattle.wef_machine.specs.declared.messages.Message.TheVariants.{Ask, Offers, Events, Beat, Ack, Fault, Request, Response, Ended}
use Rattle.wef_pairs.proofs.Takes.{SameRows, safe_alike, safe_longer, safe_untouched, untouched_alike}
use Rattle.wef_safety.specs.Kept.{AreInOrder, IsChannelKept, IsDelivery, IsDrawnBefore, IsKept, IsMessageKept, IsOnPath, IsPairKept, IsRowKept, IsSourceKept, IsWorldKept, WasDrawn, WhereDeclared, last_id, request_id}
use Rattle.wef_safety.specs.Safe.{WasSent, source_of}
use Rattle.wef_safety.proofs.Growing.{MessagesGrow, RowsGrow, SlotGrows, SourcesGrow, message_grows, same_messages, same_rows, same_sources, source_grows}
use Rattle.wef_safety.proofs.Sent.{sent_before, sent_either, sent_only, sent_split, sent_still}

-- ---- declared sources

pub declared_at : (o : Option Slot) (slot : Slot) (P : Slot → Type 0) → o ≡ Some slot → WhereDeclared o P → P slot
declared_at o slot P e holds = subst (λ (x : Option Slot). WhereDeclared x P) e holds

pub declared_is : (o : Option Slot) (slot : Slot) (P : Slot → Type 0) → o ≡ Some slot → P slot → WhereDeclared o P
declared_is o slot P e holds = subst (λ (x : Option Slot). WhereDeclared x P) (sym e) holds

pub declared_map : (o : Option Slot) (P Q : Slot → Type 0) → ((slot : Slot) → P slot → Q slot) → WhereDeclared o P → WhereDeclared o Q
declared_map None P Q gives holds = holds
declared_map (Some slot) P Q gives holds = gives slot holds

-- what holds of what each value is mapped to holds of what a value was mapped to
pub from_mapped : {X Y : Type 0} (f : X → Y) (o : Option X) (y : Y) (P : Y → Type 0) → option_map f o ≡ Some y → ((x : X) → o ≡ Some x → P (f x)) → P y
from_mapped f None y P e gives = absurd (none-some y e)
from_mapped f (Some x) y P e gives = subst P (same_Some (f x) y e) (gives x refl)

tie : (r : Ordering) → is_eq r ≡ true → r ≡ Equal
tie Less e = cc
tie Equal e = refl
tie Greater e = cc

one_name : (a b : List ℕ) → eq_by_cmp (slice_cmp nat_cmp) a b ≡ true → a ≡ b
one_name a b e = slice_cmp-IsAntisymmetric nat_cmp-IsAntisymmetric a b (tie (slice_cmp nat_cmp a b) e)

by_test : {X : Type 0} (t : Bool) (P : X → Type 0) (a b : X) → (t ≡ true → P a) → P b → P (cond t a b)
by_test true P a b f g = f refl
by_test false P a b f g = g

-- what holds of the value that is put at a name, and of what was there at each, holds of all
pub put_there : {X : Type 0} (m : finite.FinMap (slice_cmp nat_cmp) X) (s : List ℕ) (x : X) (r : List ℕ) (P : Option X → Type 0) → (r ≡ s → P (Some x)) → P (finite.get m r) →
    P (finite.get (finite.insert m s x) r)
put_there m s x r P at_it elsewhere =
    subst P (sym (finite.get-insert nat_list_cmp_total m s x r))
    (by_test (eq_by_cmp (slice_cmp nat_cmp) r s) P (Some x) (finite.get m r) (λ e. at_it (one_name r s e)) elsewhere)

-- the source that was put is there
pub slot_put : (sources : Slots) (s : List ℕ) (slot : Slot) → finite.get (finite.insert sources s slot) s ≡ Some slot
slot_put sources s slot =
    finite.get-insert nat_list_cmp_total sources s slot s ∙ ap (λ (t : Bool). cond t (Some slot) (finite.get sources s)) ((eq_by_cmp_equiv nat_list_cmp_total).refl s)

-- ---- pairs

untouched_channel : (rows : Rows) (u s c : List ℕ) (about : Subscription) (slot : Slot) (reads : Bool) → IsUntouched rows u s c → IsChannelKept rows u s c about slot reads
untouched_channel rows u s c about slot true blank = safe_untouched rows u s c (settings_of about) (history slot.histories c) slot.capacity blank
untouched_channel rows u s c about slot false blank = blank

-- where nothing is kept, all is well whoever is there
pub untouched_pair : (rows : Rows) (u s c : List ℕ) (about : Option Subscription) (slot : Option Slot) → IsUntouched rows u s c → IsPairKept rows u s c about slot
untouched_pair rows u s c None slot blank = blank
untouched_pair rows u s c (Some about) None blank = blank
untouched_pair rows u s c (Some about) (Some slot) blank = untouched_channel rows u s c about slot (is_in (channels_read about) c) blank

alike_channel : (after before : Rows) (u s c : List ℕ) (about : Subscription) (slot : Slot) (reads : Bool) → SameRows after before u s c →
    IsChannelKept before u s c about slot reads → IsChannelKept after u s c about slot reads
alike_channel after before u s c about slot true same kept = safe_alike after before u s c 0 (settings_of about) (history slot.histories c) slot.capacity same kept
alike_channel after before u s c about slot false same kept = untouched_alike after before u s c same kept

-- rows with the same views keep the same
pub alike_pair : (after before : Rows) (u s c : List ℕ) (about : Option Subscription) (slot : Option Slot) → SameRows after before u s c →
    IsPairKept before u s c about slot → IsPairKept after u s c about slot
alike_pair after before u s c None slot same kept = untouched_alike after before u s c same kept
alike_pair after before u s c (Some about) None same kept = untouched_alike after before u s c same kept
alike_pair after before u s c (Some about) (Some slot) same kept = alike_channel after before u s c about slot (is_in (channels_read about) c) same kept

grown_channel : (rows : Rows) (u s c : List ℕ) (about : Subscription) (old new : Slot) (reads : Bool) → SlotGrows old new →
    IsChannelKept rows u s c about old reads → IsChannelKept rows u s c about new reads
grown_channel rows u s c about old new true grows kept =
    let longer = grows.histories.channels c in
    subst (λ (capacity : ℕ). IsPairSafe rows u s c 0 (settings_of about) (history new.histories c) capacity) grows.capacity
    (safe_longer rows u s c 0 (settings_of about) (history old.histories c) (history new.histories c) longer.0 old.capacity longer.1 kept)
grown_channel rows u s c about old new false grows kept = kept

-- a source that wrote more keeps what is kept of it well
pub grown_pair : (rows : Rows) (u s c : List ℕ) (about : Option Subscription) (old new : Slot) → SlotGrows old new →
    IsPairKept rows u s c about (Some old) → IsPairKept rows u s c about (Some new)
grown_pair rows u s c None old new grows kept = kept
grown_pair rows u s c (Some about) old new grows kept = grown_channel rows u s c about old new (is_in (channels_read about) c) grows kept

-- ---- requests

-- two requests of one source with one id are one
abbrev pub AreOne : List Message → Type 0
AreOne messages = (m n : Message) (id : ℕ) → WasSent messages m → WasSent messages n → source_of m ≡ source_of n →
    request_id m ≡ Some id → request_id n ≡ Some id → m ≡ n

below_itself : (n : ℕ) → n < n → ⊥
below_itself n h = omega arith

-- where later requests have greater ids, no two have the same
pub are_one : (messages : List Message) → AreInOrder IsDrawnBefore messages → AreOne messages
are_one [] order m n id was_m was_n same e f = absurd was_m
are_one (x ∷ messages) order m n id (inl is_m) (inl is_n) same e f = sym is_m ∙ is_n
are_one (x ∷ messages) order m n id (inl is_m) (inr was_n) same e f = absurd (below_itself id (order.0 n was_n id id (ap source_of is_m ∙ same) (ap request_id is_m ∙ e) f))
are_one (x ∷ messages) order m n id (inr was_m) (inl is_n) same e f = absurd (below_itself id (order.0 m was_m id id (ap source_of is_n ∙ sym same) (ap request_id is_n ∙ f) e))
are_one (x ∷ messages) order m n id (inr was_m) (inr was_n) same e f = are_one messages order.1 m n id was_m was_n same e f

-- more messages, to each of which those before them are so related
ordered_behind : (IsBefore : Message → Message → Type 0) (messages more : List Message) → AreInOrder IsBefore messages → AreInOrder IsBefore more →
    ((m n : Message) → WasSent messages m → WasSent more n → IsBefore m n) → AreInOrder IsBefore (messages ++ more)
ordered_behind IsBefore [] more order own before = own
ordered_behind IsBefore (x ∷ messages) more order own before = (
  λ n was. elim (sent_either messages more n was) [
    | inl old ↦ order.0 n old
    | inr new ↦ before x n (inl refl) new
  ],
  ordered_behind IsBefore messages more order.1 own (λ m n was new. before m n (inr was) new),
)

-- a message alone is so related to none
pub ordered_alone : (IsBefore : Message → Message → Type 0) (n : Message) → AreInOrder IsBefore (n ∷ [])
ordered_alone IsBefore n = (λ m was. absurd was, tt)

-- one more message
pub ordered_with : (IsBefore : Message → Message → Type 0) (messages : List Message) (n : Message) → AreInOrder IsBefore messages → ((m : Message) → WasSent messages m → IsBefore m n) →
    AreInOrder IsBefore (messages ++ n ∷ [])
ordered_with IsBefore messages n order before =
    ordered_behind IsBefore messages (n ∷ []) order (ordered_alone IsBefore n) (λ m x was new. sent_only n (IsBefore m) (before m was) x new)

-- a request that is kept has an id that its source drew
drawn_before : (rows : Rows) (sources : Slots) (messages : List Message) (m : Message) (id : ℕ) → IsMessageKept rows sources messages m → request_id m ≡ Some id →
    WhereDeclared (finite.get sources (source_of m)) (λ slot. WasDrawn slot (Some id))
drawn_before rows sources messages (Ask s given) id is e = subst (λ (i : Option ℕ). WhereDeclared (finite.get sources s) (λ slot. WasDrawn slot i)) e is
drawn_before rows sources messages (Offers s own relates offers) id is e = absurd (none-some id e)
drawn_before rows sources messages (Events s delivery) id is e =
    declared_map (finite.get sources s) (λ slot. IsDelivery rows s slot delivery) (λ slot. WasDrawn slot (Some id)) (λ slot sent. subst (WasDrawn slot) e sent.drawn) is
drawn_before rows sources messages (Beat s beat) id is e =
    declared_map (finite.get sources s) (λ slot. IsOnPath rows s slot beat.notify_to beat.id) (λ slot. WasDrawn slot (Some id)) (λ slot path. subst (WasDrawn slot) e path.drawn) is
drawn_before rows sources messages (Ack s own relates) id is e = absurd (none-some id e)
drawn_before rows sources messages (Fault s own relates fault) id is e = absurd (none-some id e)
drawn_before rows sources messages (Request s own identifier body) id is e = absurd (none-some id e)
drawn_before rows sources messages (Response s own relates answer) id is e = absurd (none-some id e)
drawn_before rows sources messages (Ended s note) id is e =
    declared_map (finite.get sources s) (λ slot. IsOnPath rows s slot note.end_to note.id) (λ slot. WasDrawn slot (Some id)) (λ slot path. subst (WasDrawn slot) e path.drawn) is

-- ---- the changes

-- the rows of the collector move on, and more sources were named by `batch` lines
pub kept_rows : (state : State) (rows : Rows) (foreign : List (List ℕ)) → IsKept state → RowsGrow state.collector.rows rows →
    ((u s c : List ℕ) → is_among foreign s ≡ false → IsPairKept rows u s c (subscription_at rows u) (slot_of state s)) →
    ((s : List ℕ) (slot : Slot) → slot_of state s ≡ Some slot → is_among foreign s ≡ false) →
    ((key : Key) (cell : Cell) → finite.get rows key ≡ Some cell → IsRowKept key cell) → AreFormed rows →
    IsWorldKept rows foreign state.sources state.messages state.moment
kept_rows state rows foreign kept grows pairs apart keys formed = record {
  pairs = pairs;
  apart = apart;
  keys = keys;
  formed = formed;
  sources = λ s slot e. source_grows state.collector.rows rows state.messages state.messages s slot grows (same_messages state.messages) (kept.sources s slot e);
  messages = λ m was.
      message_grows state.collector.rows rows state.sources state.sources state.messages state.messages m grows (same_sources state.sources) (same_messages state.messages)
      (kept.messages m was);
  requests = kept.requests;
  soon = kept.soon;
}

-- A source is one that is further from now on, and messages are sent.
record IsSourceMove (state : State) (s : List ℕ) (slot : Slot) (messages : List Message) : Type 0 where
  pub apart : is_among state.foreign s ≡ false
  pub pairs : (u c : List ℕ) → IsPairKept state.collector.rows u s c (subscription_at state.collector.rows u) (Some slot)
  pub wider : (old : Slot) → slot_of state s ≡ Some old → SlotGrows old slot
  pub source : IsSourceKept state.collector.rows messages s slot
  pub more : MessagesGrow state.messages messages
  pub new : (m : Message) → WasSent messages m → WasSent state.messages m ⊎ IsMessageKept state.collector.rows (finite.insert state.sources s slot) messages m
  pub order : AreInOrder IsDrawnBefore messages

move_widens : (state : State) (s : List ℕ) (slot : Slot) → ((old : Slot) → slot_of state s ≡ Some old → SlotGrows old slot) → SourcesGrow state.sources (finite.insert state.sources s slot)
move_widens state s slot wider r old e =
    put_there state.sources s slot r (λ o. WhereDeclared o (SlotGrows old)) (λ is. wider old (subst (λ (x : List ℕ). finite.get state.sources x ≡ Some old) is e))
    (same_sources state.sources r old e)

kept_source : (state : State) (s : List ℕ) (slot : Slot) (messages : List Message) → IsKept state → IsSourceMove state s slot messages →
    IsWorldKept state.collector.rows state.foreign (finite.insert state.sources s slot) messages state.moment
kept_source state s slot messages kept move = record {
  pairs = λ u r c other.
      put_there state.sources s slot r (λ o. IsPairKept state.collector.rows u r c (subscription_at state.collector.rows u) o)
      (λ is. subst (λ (x : List ℕ). IsPairKept state.collector.rows u x c (subscription_at state.collector.rows u) (Some slot)) (sym is) (move.pairs u c)) (kept.pairs u r c other);
  apart = λ r new e.
      put_there state.sources s slot r (λ o. o ≡ Some new → is_among state.foreign r ≡ false)
      (λ is _. subst (λ (x : List ℕ). is_among state.foreign x ≡ false) (sym is) move.apart) (kept.apart r new) e;
  keys = kept.keys;
  formed = kept.formed;
  sources = λ r new e.
      put_there state.sources s slot r (λ o. o ≡ Some new → IsSourceKept state.collector.rows messages r new)
      (λ is now. subst (λ (x : List ℕ × Slot). IsSourceKept state.collector.rows messages x.0 x.1) (λ i. (sym is i, same_Some slot new now i)) move.source)
      (λ old. source_grows state.collector.rows state.collector.rows state.messages messages r new (same_rows state.collector.rows) move.more (kept.sources r new old)) e;
  messages = λ m was. elim (move.new m was) [
    | inl before ↦ message_grows state.collector.rows state.collector.rows state.sources (finite.insert state.sources s slot) state.messages messages m (same_rows state.collector.rows)
        (move_widens state s slot move.wider) move.more (kept.messages m before)
    | inr is ↦ is
  ];
  requests = move.order;
  soon = kept.soon;
}

-- a source that is declared
pub kept_declared : (state : State) (s : List ℕ) (slot : Slot) → IsKept state → slot_of state s ≡ None → is_among state.foreign s ≡ false →
    IsSourceKept state.collector.rows state.messages s slot → IsKept (with_slot state s slot)
kept_declared state s slot kept none apart source = kept_source state s slot state.messages kept (record {
  apart = apart;
  pairs = λ u c. untouched_pair state.collector.rows u s c (subscription_at state.collector.rows u) (Some slot)
      (blank u c (subscription_at state.collector.rows u) (subst (λ (o : Option Slot). IsPairKept state.collector.rows u s c (subscription_at state.collector.rows u) o) none (kept.pairs u s c apart)));
  wider = λ old e. absurd (none-some old (sym none ∙ e));
  source = source;
  more = same_messages state.messages;
  new = λ m was. inl was;
  order = kept.requests;
})
  where
    blank : (u c : List ℕ) (about : Option Subscription) → IsPairKept state.collector.rows u s c about None → IsUntouched state.collector.rows u s c
    blank u c None is = is
    blank u c (Some about) is = is

-- a declared source goes on
pub kept_slot : (state : State) (s : List ℕ) (old new : Slot) → IsKept state → slot_of state s ≡ Some old → SlotGrows old new →
    IsSourceKept state.collector.rows state.messages s new → IsKept (with_slot state s new)
kept_slot state s old new kept there grows source = kept_source state s new state.messages kept (record {
  apart = kept.apart s old there;
  pairs = λ u c. grown_pair state.collector.rows u s c (subscription_at state.collector.rows u) old new grows
      (subst (λ (o : Option Slot). IsPairKept state.collector.rows u s c (subscription_at state.collector.rows u) o) there (kept.pairs u s c (kept.apart s old there)));
  wider = λ other e. subst (λ (x : Slot). SlotGrows x new) (same_Some old other (sym there ∙ e)) grows;
  source = source;
  more = same_messages state.messages;
  new = λ m was. inl was;
  order = kept.requests;
})

-- A message is of a source, and has an id above a number where it is a request.
abbrev pub IsAbove : List ℕ → ℕ → Message → Type 0
IsAbove s last m = (source_of m ≡ s) × ((id : ℕ) → request_id m ≡ Some id → last < id)

below_fresh : (first last id : ℕ) → first ≤ last → last < id → first < id
below_fresh first last id h k = omega arith

-- what a source sends under an id above all that it drew stands behind what was sent before
drawn_behind : (state : State) (s : List ℕ) (old : Slot) (n m : Message) → IsKept state → slot_of state s ≡ Some old → WasSent state.messages n →
    IsAbove s (last_id old old.place.memory) m → IsDrawnBefore n m
drawn_behind state s old n m kept there was above first second same e f =
    let before = declared_at (finite.get state.sources (source_of n)) old (λ slot. WasDrawn slot (Some first))
    (ap (finite.get state.sources) (same ∙ above.0) ∙ there) (drawn_before state.collector.rows state.sources state.messages n first (kept.messages n was) e) in
    below_fresh first (last_id old old.place.memory) second before (above.1 second f)

-- a declared source goes on, and sends messages, the requests among them under ids above all that it drew before
pub kept_sent : (state : State) (s : List ℕ) (old new : Slot) (more : List Message) → IsKept state → slot_of state s ≡ Some old → SlotGrows old new →
    IsSourceKept state.collector.rows (state.messages ++ more) s new →
    ((m : Message) → WasSent more m → IsMessageKept state.collector.rows (finite.insert state.sources s new) (state.messages ++ more) m) →
    ((m : Message) → WasSent more m → IsAbove s (last_id old old.place.memory) m) → AreInOrder IsDrawnBefore more → IsKept (with_messages (with_slot state s new) more)
kept_sent state s old new more kept there grows source are above order = kept_source state s new (state.messages ++ more) kept (record {
  apart = kept.apart s old there;
  pairs = λ u c. grown_pair state.collector.rows u s c (subscription_at state.collector.rows u) old new grows
      (subst (λ (o : Option Slot). IsPairKept state.collector.rows u s c (subscription_at state.collector.rows u) o) there (kept.pairs u s c (kept.apart s old there)));
  wider = λ other e. subst (λ (x : Slot). SlotGrows x new) (same_Some old other (sym there ∙ e)) grows;
  source = source;
  more = sent_still state.messages more;
  new = λ m was. elim (sent_either state.messages more m was) [
    | inl before ↦ inl before
    | inr now ↦ inr (are m now)
  ];
  order = ordered_behind IsDrawnBefore state.messages more kept.requests order (λ n m was now. drawn_behind state s old n m kept there was (above m now));
})

-- a declared source draws an id, and sends its request
pub kept_draw : (state : State) (s : List ℕ) (old new : Slot) (m : Message) (id : ℕ) → IsKept state → slot_of state s ≡ Some old → SlotGrows old new →
    IsSourceKept state.collector.rows (state.messages ++ m ∷ []) s new →
    IsMessageKept state.collector.rows (finite.insert state.sources s new) (state.messages ++ m ∷ []) m →
    source_of m ≡ s → request_id m ≡ Some id → last_id old old.place.memory < id → IsKept (with_message (with_slot state s new) m)
kept_draw state s old new m id kept there grows source is from drawn fresh =
    kept_sent state s old new (m ∷ []) kept there grows source
    (sent_only m (IsMessageKept state.collector.rows (finite.insert state.sources s new) (state.messages ++ m ∷ [])) is)
    (sent_only m (IsAbove s (last_id old old.place.memory)) (from, λ own e. subst (λ (k : ℕ). last_id old old.place.memory < k) (same_Some id own (sym drawn ∙ e)) fresh))
    (ordered_alone IsDrawnBefore m)

none_is : (o : Option ℕ) (id : ℕ) → o ≡ None → o ≡ Some id → ⊥
none_is o id e f = none-some id (sym e ∙ f)

-- what is no request stands behind every message
no_request : (m n : Message) → request_id m ≡ None → IsDrawnBefore n m
no_request m n none first second same e f = absurd (none_is (request_id m) second none f)

-- a declared source goes on, and sends a message that is no request: it answers one of the collector's, and may have drawn
-- ids for it
pub kept_answer : (state : State) (s : List ℕ) (old new : Slot) (m : Message) → IsKept state → slot_of state s ≡ Some old → SlotGrows old new →
    IsSourceKept state.collector.rows (state.messages ++ m ∷ []) s new →
    IsMessageKept state.collector.rows (finite.insert state.sources s new) (state.messages ++ m ∷ []) m →
    source_of m ≡ s → request_id m ≡ None → IsKept (with_message (with_slot state s new) m)
kept_answer state s old new m kept there grows source is from none =
    kept_sent state s old new (m ∷ []) kept there grows source
    (sent_only m (IsMessageKept state.collector.rows (finite.insert state.sources s new) (state.messages ++ m ∷ [])) is)
    (sent_only m (IsAbove s (last_id old old.place.memory)) (from, λ id e. absurd (none_is (request_id m) id none e)))
    (ordered_alone IsDrawnBefore m)

-- a message is sent that is no request
pub kept_reply : (state : State) (m : Message) → IsKept state → request_id m ≡ None →
    IsMessageKept state.collector.rows state.sources (state.messages ++ m ∷ []) m → IsKept (with_message state m)
kept_reply state m kept none is = record {
  pairs = kept.pairs;
  apart = kept.apart;
  keys = kept.keys;
  formed = kept.formed;
  sources = λ s slot e.
      source_grows state.collector.rows state.collector.rows state.messages (state.messages ++ m ∷ []) s slot (same_rows state.collector.rows) (sent_before state.messages m) (kept.sources s slot e);
  messages = λ n was. elim (sent_split state.messages m n was) [
    | inl before ↦ message_grows state.collector.rows state.collector.rows state.sources state.sources state.messages (state.messages ++ m ∷ []) n (same_rows state.collector.rows)
        (same_sources state.sources) (sent_before state.messages m) (kept.messages n before)
    | inr e ↦ subst (IsMessageKept state.collector.rows state.sources (state.messages ++ m ∷ [])) e is
  ];
  requests = ordered_with IsDrawnBefore state.messages m kept.requests (λ n was. no_request m n none);
  soon = kept.soon;
}
