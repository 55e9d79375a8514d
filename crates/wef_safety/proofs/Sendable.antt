-- Each ask, each delivery and each heartbeat that a source of a kept world sends can be written as bytes, and what it answers and
-- tells of ends has ids that are those of their texts.
use Rattle.std.proofs.Common.{◌≡◌, ℕ, ◌+◌, ◌*◌, ◌≤◌, ◌&&◌, Bool, true, false, List, [], ◌∷◌, length, nat_le, refl, sym, ◌∙◌, subst, arith}
use Rattle.std.proofs.lemmas.Bool.{and_parts, cond_both}
use Rattle.std.proofs.lemmas.Option.{none-some}
use Rattle.std.specs.Prelude.{Option, Some, None, IfSome, unwrap_or}
use Rattle.std.specs.FinMap as finite
use Rattle.std.specs.List.{AllByRecursion, list_all}
use Rattle.std.specs.Option.{option_map}
use Rattle.std.specs.Str.{is_utf8}
use Rattle.wef_base.specs.Names.{channel_name}
use Rattle.wef_batch.specs.Laws.{IsKept as IsKeptItem, IsPlain}
use Rattle.wef_batch.specs.Reach.{loose_sum}
use Rattle.wef_batch.specs.WellFormed.{is_in, is_in_order, is_listed, is_well_formed}
use Rattle.wef_batch.specs.declared.items.Batch.{Batch}
use Rattle.wef_batch.specs.declared.items.Item.{Item}
use Rattle.wef_batch.specs.declared.items.Item.TheVariants.{Event, Dropped, Loose}
use Rattle.wef_bodies.specs.declared.bodies.Body.{Body}
use Rattle.wef_collector.specs.FormsStay.{IsSoundItem}
use Rattle.wef_collector.specs.declared.responses.Response.{Response}
use Rattle.wef_collector_rows.specs.Answers.{channels_read}
use Rattle.wef_eventing.proofs.AddressTexts.{address_is_plain}
use Rattle.wef_replies.proofs.IdTexts.{id_spelt}
use Rattle.wef_ids.proofs.PlainIds.{id_text_good}
use Rattle.wef_envelope.specs.Laws.{IsSpelt}
use Rattle.wef_front.proofs.EndsAreRead.{notes_spelt}
use Rattle.wef_front.specs.Sent.{CanBeAsked}
use Rattle.wef_front_collector.specs.HeardResponses.{response_of}
use Rattle.wef_front_source.specs.Replies.{fault_id, last_id}
use Rattle.wef_front_source.specs.Sending.{BeatCanBeSent, CanBeSent, IsPlainText}
use Rattle.wef_front_source.specs.declared.saying.Said.{Said}
use Rattle.wef_front_source.specs.declared.saying.Said.TheVariants as said
use Rattle.wef_ids.specs.IdTexts.{id_of_value}
use Rattle.wef_ids.specs.declared.MessageId.{MessageId}
use Rattle.wef_keeper.specs.Rows.{Rows, row_of}
use Rattle.wef_keeper.specs.declared.keys.Cell.{Cell}
use Rattle.wef_replay.proofs.GoodNames.{kept_channel}
use Rattle.wef_replay.specs.Good.{is_channel, is_one}
use Rattle.wef_building.specs.Building.{built}
use Rattle.wef_source.specs.Machine.{End, beat_of, delivery_of, end_notes, is_spent, most_drawn, next_id, sent}
use Rattle.wef_source.specs.declared.messages.Delivery.{Delivery}
use Rattle.wef_source.specs.declared.messages.EndNote.{EndNote}
use Rattle.wef_source.specs.Sessions.{session_of}
use Rattle.wef_building.specs.declared.sessions.Session.{Session}
use Rattle.wef_source_log.proofs.Forming.{number_within}
use Rattle.wef_source_log.specs.Forms as log
use Rattle.wef_source_log.specs.Keys.{boot_key}
use Rattle.wef_source_log.specs.LogWindow.{boot_of}
use Rattle.wef_machine.specs.Leasing.{is_short, request_done, request_said, responded}
use Rattle.wef_machine.specs.States.{Slot, State, slot_of}
use Rattle.wef_safety.specs.Kept.{IsAskedFor, IsDelivery, IsKept, IsServed}
use Rattle.wef_safety.proofs.EventTrees.{said_has_tree}
use Rattle.wef_safety.proofs.KeptChannels.{known_channels}
use Rattle.wef_safety.proofs.LowerFacts.{lower}
use Rattle.wef_safety.proofs.NameTexts.{subscription_is_plain}
use Rattle.wef_safety.proofs.Offering.{reads_source}
use Rattle.wef_safety.proofs.Responding.{CanSay, asked_does}
use Rattle.wef_safety.proofs.RowMoves.{known_name}
use Rattle.wef_safety.proofs.SaidEvents.{IsSaidItem, built_said}
use Rattle.wef_safety.proofs.Shutting.{within_most}
use Rattle.wef_safety.proofs.SourceSteps.{below_most, delivery_kept, running_is, running_with, session_served}

-- ---- the id

-- a source that keeps rows of their form was started no more often than numbers go
most_boots : (rows : Rows) → log.AreFormed rows → boot_of rows ≤ 9223372036854775807
most_boots rows formed = by_cell (finite.get rows boot_key) (formed boot_key)
  where
    by_cell : (o : Option Cell) → IfSome o (λ cell. log.is_formed (row_of (boot_key, cell)) ≡ true) → unwrap_or (option_map (λ (cell : Cell). cell.value) o) 0 ≤ 9223372036854775807
    by_cell None e = omega arith
    by_cell (Some cell) e = number_within (row_of (boot_key, cell)) e refl

-- so it is with a source that runs
few_boots : (state : State) (s : List ℕ) (slot : Slot) (end : End) → IsKept state → slot_of state s ≡ Some slot → slot.place.memory ≡ Some end → end.boot ≤ 9223372036854775807
few_boots state s slot end kept there runs =
    let source = kept.sources s slot there in
    subst (λ (n : ℕ). n ≤ 9223372036854775807) (sym (running_is state s slot end source runs).0.boot) (most_boots slot.place.rows source.formed)

-- its ids are those of their texts
drawn_spelt : (boot drawn : ℕ) → boot ≤ 9223372036854775807 → drawn ≤ most_drawn → IsSpelt (id_of_value (boot * 18446744073709551616 + drawn))
drawn_spelt boot drawn few most = id_spelt (boot * 18446744073709551616 + drawn) (omega arith)

next_spelt : (end : End) → end.boot ≤ 9223372036854775807 → end.drawn + 1 ≤ most_drawn → IsSpelt (id_of_value (next_id end))
next_spelt end few left = drawn_spelt end.boot (end.drawn + 1) few left

-- what a source asks for its subscriptions with, where an id is left, is a wish that can be written
pub ask_can_be_sent : (state : State) (s : List ℕ) (slot : Slot) (end : End) → IsKept state → slot_of state s ≡ Some slot → slot.place.memory ≡ Some end → is_spent end ≡ false
    → CanBeAsked (record { source = s; id = id_of_value (next_id end) })
ask_can_be_sent state s slot end kept there runs left =
    let source = kept.sources s slot there in
    let name = reads_source s source.name in
    record {
      utf8 = name.0;
      named = name.1;
      spelt = next_spelt end (few_boots state s slot end kept there runs) (below_most end.drawn left);
      id = id_text_good (next_id end);
    }

-- ---- the batch

-- the channels have names such as a reader gives
abbrev AreNamed : List (List ℕ) → Type 0
AreNamed channels = (c : List ℕ) → is_in channels c ≡ true → is_channel c ≡ true

-- an item can be written, and is read again
abbrev CanBeWritten : Item → Type 0
CanBeWritten item = IsPlain item × IsKeptItem item

utf8_name : (c : List ℕ) → is_channel c ≡ true → is_utf8 c ≡ true
utf8_name c good = (and_parts (is_utf8 c) (is_one c (channel_name c)) good).0

item_written : (channels : List (List ℕ)) (item : Item) → AreNamed channels → is_listed channels item ≡ true → IsSoundItem item → IsSaidItem item → CanBeWritten item
item_written channels (Event event) named listed sound said = (said, said_has_tree event said)
item_written channels (Dropped c first last) named listed sound said =
    let good = named c listed in
    let name = kept_channel c good in
    ((name, said.0, said.1, sound), (utf8_name c good, name))
item_written channels (Loose count) named listed sound said = absurd said

items_written : (channels : List (List ℕ)) (items : List Item) → AreNamed channels → list_all (is_listed channels) items ≡ true → AllByRecursion IsSoundItem items → AllByRecursion IsSaidItem items →
    AllByRecursion IsPlain items × AllByRecursion IsKeptItem items
items_written channels [] named listed sound said = (tt, tt)
items_written channels (item ∷ items) named listed sound said =
    let parts = and_parts (is_listed channels item) (list_all (is_listed channels) items) listed in
    let here = item_written channels item named parts.0 sound.0 said.0 in
    let rest = items_written channels items named parts.1 sound.1 said.1 in
    ((here.0, rest.0), (here.1, rest.1))

all_listed : (channels : List (List ℕ)) (batch : Batch) → is_well_formed channels batch ≡ true → list_all (is_listed channels) batch.items ≡ true
all_listed channels batch formed =
    (and_parts (list_all (is_listed channels) batch.items) (list_all (is_in_order batch) channels)
    (and_parts (list_all (is_listed channels) batch.items && list_all (is_in_order batch) channels) (nat_le (loose_sum batch.items) 9223372036854775807) formed).0).0

-- a channel that a delivery reads has a good name
read_channel : (rows : Rows) (s : List ℕ) (slot : Slot) (delivery : Delivery) → IsDelivery rows s slot delivery → (c : List ℕ) (n : ℕ) → finite.get delivery.batch.to c ≡ Some n → is_channel c ≡ true
read_channel rows s slot delivery is c n e = by (is_in (channels_read is.about) c) refl
  where
    by : (t : Bool) → is_in (channels_read is.about) c ≡ t → is_channel c ≡ true
    by true here = known_channels rows is.u is.about is.known c here
    by false none = absurd (none-some n (sym (is.fits.others c none) ∙ e))

-- ---- the delivery, and the heartbeat

-- the address and the identifier of a session that is served are texts that headers say as they are
session_is_plain : (state : State) (s : List ℕ) (session : Session) → IsKept state → IsServed state.collector.rows state.messages s session →
    IsPlainText session.notify_to × IfSome session.identifier IsPlainText
session_is_plain state s session kept served =
    let terms = served.terms in
    let name = known_name state.collector.rows session.name terms.about kept.keys terms.known in (
      subst IsPlainText (sym terms.address_is) (address_is_plain terms.at session.name s terms.host),
      subst (λ (o : Option (List ℕ)). IfSome o IsPlainText) (sym terms.identifier_is) (subscription_is_plain session.name name),
    )

-- what a session sends, where an id is left, is a delivery that can be written
pub delivery_can_be_sent : (state : State) (s u : List ℕ) (slot : Slot) (end : End) (session : Session) → IsKept state → slot_of state s ≡ Some slot → slot.place.memory ≡ Some end →
    session_of end.sessions u ≡ Some session → is_spent end ≡ false → CanBeSent (delivery_of slot.place.rows end session)
delivery_can_be_sent state s u slot end session kept there runs found left =
    let rows : Rows = state.collector.rows in
    let source = kept.sources s slot there in
    let running = running_is state s slot end source runs in
    let some = running.1 in
    let served = session_served state s u slot end session kept there runs found in
    let new : Slot = running_with slot (sent slot.place.rows end session state.moment) in
    let batch : Batch = built slot.place.rows session in
    let is = delivery_kept lower state s slot new end session kept there runs served refl refl (omega arith) in
    let named = known_channels rows is.u is.about is.known in
    let reads = lower.log_reads slot.place.rows slot.histories slot.capacity (boot_of slot.place.rows) (omega arith) source.window in
    let said = built_said slot.place.rows slot.histories slot.capacity (boot_of slot.place.rows) session reads source.events in
    let items = items_written (channels_read is.about) batch.items named (all_listed (channels_read is.about) batch is.fits.well_formed) is.sound.items said in
    let read = read_channel rows s new (delivery_of slot.place.rows end session) is in
    let texts = session_is_plain state s session kept served in
    record {
      spelt = next_spelt end (few_boots state s slot end kept there runs) (below_most end.drawn left);
      id = id_text_good (next_id end);
      notify_to = texts.0;
      identifier = texts.1;
      plain = items.0;
      kept = items.1;
      entries = λ c n e. (kept_channel c (read c n e), is.sound.to c n e);
      names = λ c n e. utf8_name c (read c n e);
    }

-- what a session says that has nothing to send, where an id is left, is a heartbeat that can be written
pub beat_can_be_sent : (state : State) (s u : List ℕ) (slot : Slot) (end : End) (session : Session) → IsKept state → slot_of state s ≡ Some slot → slot.place.memory ≡ Some end →
    session_of end.sessions u ≡ Some session → is_spent end ≡ false → BeatCanBeSent (beat_of end session)
beat_can_be_sent state s u slot end session kept there runs found left =
    let texts = session_is_plain state s session kept (session_served state s u slot end session kept there runs found) in
    record {
      spelt = next_spelt end (few_boots state s slot end kept there runs) (below_most end.drawn left);
      id = id_text_good (next_id end);
      notify_to = texts.0;
      identifier = texts.1;
    }

-- ---- answers, and notes of ends

-- the id of a fault
fault_spelt : (end : End) → end.boot ≤ 9223372036854775807 → IsSpelt (id_of_value (fault_id end))
fault_spelt end few =
    cond_both (is_spent end) (last_id end) (next_id end) (λ (id : ℕ). IsSpelt (id_of_value id)) (λ spent. drawn_spelt end.boot most_drawn few (omega arith))
    (λ left. next_spelt end few (below_most end.drawn left))

-- the id of what a source answers that can say this
answer_spelt : (end : End) (says : Said) → end.boot ≤ 9223372036854775807 → CanSay end says → IfSome (responded end says) (λ (r : MessageId × Response). IsSpelt r.0)
answer_spelt end (said.Done answer) few can = by (response_of answer)
  where
    by : (o : Option Response) → IfSome (option_map (λ (r : Response). (id_of_value (next_id end), r)) o) (λ (r : MessageId × Response). IsSpelt r.0)
    by None = tt
    by (Some r) = next_spelt end few can.0
answer_spelt end (said.Fault name) few can = fault_spelt end few
answer_spelt end said.Spent few can = drawn_spelt end.boot most_drawn few (omega arith)

-- the id of what a source answers that is asked
pub response_is_spelt : (state : State) (s : List ℕ) (slot : Slot) (end : End) (identifier : Option (List ℕ)) (asks : Body) → IsKept state → slot_of state s ≡ Some slot →
    slot.place.memory ≡ Some end → IsAskedFor state.collector.rows s asks →
    IfSome (responded (request_done identifier asks state.moment end) (request_said identifier asks state.moment end)) (λ (r : MessageId × Response). IsSpelt r.0)
response_is_spelt state s slot end identifier asks kept there runs is =
    let done = asked_does state s slot end identifier asks kept there runs is in
    answer_spelt (request_done identifier asks state.moment end) (request_said identifier asks state.moment end)
    (subst (λ (boot : ℕ). boot ≤ 9223372036854775807) (sym done.0.boot) (few_boots state s slot end kept there runs)) done.1

-- the ids of the notes in which a source tells of ends
pub notes_are_spelt : (state : State) (s : List ℕ) (slot : Slot) (end : End) → IsKept state → slot_of state s ≡ Some slot → slot.place.memory ≡ Some end → is_short end ≡ false →
    AllByRecursion (λ (note : EndNote). IsSpelt note.id) (end_notes end)
notes_are_spelt state s slot end kept there runs room =
    let few = few_boots state s slot end kept there runs in
    let most : end.drawn + length (end_notes end) ≤ most_drawn = within_most (end.drawn + length (end_notes end)) room in
    notes_spelt (next_id end) end.sessions (omega arith)
