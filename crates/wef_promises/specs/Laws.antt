-- What a schedule promises beside that its states are safe.
use Rattle.std.specs.Prelude.{◌≡◌, ◌≤◌, List, ℕ, true, None, Some, codes}
use Rattle.wef_batch.specs.declared.items.Batch.{Batch}
use Rattle.wef_batch.specs.WellFormed.{is_well_formed}
use Rattle.wef_collector_rows.specs.Answers.{channels_read}
use Rattle.wef_collector_rows.specs.Bookmarks.{bookmark_at}
use Rattle.wef_collector_rows.specs.Standing.{standing}
use Rattle.wef_collector_rows.specs.declared.standings.Standing.TheVariants.{Live}
use Rattle.wef_heartbeat.specs.declared.messages.Heartbeat.{Heartbeat}
use Rattle.wef_ids.specs.declared.MessageId.{MessageId}
use Rattle.wef_eventing.specs.Addresses.{source_in, subscription_in}
use Rattle.wef_eventing.specs.declared.subscriptions.Subscription.{Subscription}
use Rattle.wef_source.specs.declared.messages.Delivery.{Delivery}
use Rattle.wef_replay.specs.declared.lines.Line.{Line}
use Rattle.wef_pairs.specs.Pairs.{subscription_at}
use Rattle.wef_machine.specs.States.{State}
use Rattle.wef_machine.specs.Steps.{step}
use Rattle.wef_machine.specs.Answering.{answer_with, answer_word}
use Rattle.wef_machine.specs.Deliveries.{batch_effect, beat_effect, delivery_effect}
use Rattle.wef_machine.specs.declared.messages.Message.TheVariants.{Ack}

-- A well-formed batch for a live subscription that asks for an acknowledgement is acknowledged, unless its commit fails as
-- it is armed to: the word for it says so.
abbrev pub AcknowledgementIsGiven : Type 0
AcknowledgementIsGiven = (state : State) (u s : List ℕ) (about : Subscription) (batch : Batch) →
    standing state.collector.rows u ≡ Live about → is_well_formed (channels_read about) batch ≡ true → batch.ack_wanted ≡ true → state.collector.armed ≡ None →
    answer_word state (batch_effect state.collector.rows u s batch state.moment) batch.ack_wanted ≡ codes "ack"

-- So is a delivery of a source, on a path that leads to the subscription and to a source: an acknowledgement is sent.
abbrev pub DeliveriesAreAcknowledged : Type 0
DeliveriesAreAcknowledged = (state : State) (u s r : List ℕ) (id : MessageId) (about : Subscription) (delivery : Delivery) →
    subscription_in delivery.notify_to ≡ Some u → source_in delivery.notify_to ≡ Some r → standing state.collector.rows u ≡ Live about →
    is_well_formed (channels_read about) delivery.batch ≡ true → delivery.batch.ack_wanted ≡ true → state.collector.armed ≡ None →
    answer_with state (delivery_effect state.collector.rows delivery state.moment) delivery.batch.ack_wanted s id delivery.id ≡ Some (Ack s id delivery.id)

-- So is a heartbeat of a source on such a path.
abbrev pub HeartbeatsAreAcknowledged : Type 0
HeartbeatsAreAcknowledged = (state : State) (u s r : List ℕ) (id : MessageId) (about : Subscription) (beat : Heartbeat) →
    subscription_in beat.notify_to ≡ Some u → source_in beat.notify_to ≡ Some r → standing state.collector.rows u ≡ Live about → state.collector.armed ≡ None →
    answer_with state (beat_effect state.collector.rows beat state.moment) true s id beat.id ≡ Some (Ack s id beat.id)

-- No subscription is forgotten, whatever a line does: it stays, live or ended.
abbrev pub SubscriptionsStay : Type 0
SubscriptionsStay = (state : State) (line : Line) (u : List ℕ) (about : Subscription) →
    subscription_at state.collector.rows u ≡ Some about → subscription_at (step line state).collector.rows u ≡ Some about

-- No bookmark falls, whatever a line does.
abbrev pub BookmarksNeverFall : Type 0
BookmarksNeverFall = (state : State) (line : Line) (u s c : List ℕ) → bookmark_at state.collector.rows u s c ≤ bookmark_at (step line state).collector.rows u s c
