-- What the collector waits for has names that read back, whatever a line does.
use Rattle.std.proofs.Common.{true, false, refl}
use Rattle.wef_collector.specs.Calls.{add_effect, end_effect}
use Rattle.wef_event.specs.Unnumbered.{new_event}
use Rattle.wef_eventing.specs.declared.subscriptions.Subscription.{Subscription}
use Rattle.wef_machine.specs.Deliveries.{batch_effect, message_at, number_back}
use Rattle.wef_machine.specs.Leasing.{forget_at, shut_at}
use Rattle.wef_machine.specs.Places.{armed_with, crashed}
use Rattle.wef_machine.specs.Sources.{ask_at, lost_at, poll_at, write_at}
use Rattle.wef_machine.specs.States.{State, with_foreign}
use Rattle.wef_machine.specs.Steps.{arm_step, batch_at, begun_subscription, crash_step, end_at as ended_at, step, subscribe_at, subscription_of, unchanged}
use Rattle.wef_machine.specs.declared.arming.Armed.{Armed}
use Rattle.wef_replay.specs.declared.lines.Line.{Line}
use Rattle.wef_replay.specs.declared.lines.Line.TheVariants as lines
use Rattle.wef_replay_values.specs.declared.end_name.EndName as the_end
use Rattle.wef_replay_values.specs.declared.end_name.EndName.TheVariants as ends
use Rattle.wef_safety.specs.Kept.{IsAsking, IsHeld}
use Rattle.wef_safety.proofs.Asking.{ask_beside, called_asks, collector_asks, declared_asks, delivered_asks, poll_beside, request_asks, shut_beside, source_asks, write_beside}
use Rattle.wef_safety.proofs.Lower.{Lower}
use Rattle.wef_safety.proofs.Settling.{settling_held}

crashed_asks : (state : State) (end : the_end.EndName) → IsAsking state.collector.memory → IsAsking (crash_step state end).collector.memory
crashed_asks state ends.Collector asks = tt
crashed_asks state (ends.Source s) asks = declared_asks state s crashed asks

armed_asks : (state : State) (end : the_end.EndName) (armed : Armed) → IsAsking state.collector.memory → IsAsking (arm_step state end armed).collector.memory
armed_asks state ends.Collector armed asks = asks
armed_asks state (ends.Source s) armed asks = declared_asks state s (λ place. armed_with place armed) asks

pub line_asks : Lower → (state : State) (line : Line) → IsHeld state → IsAsking (step line state).collector.memory
line_asks lower state (lines.Subscribe u items bytes beat query) held =
    collector_asks state (λ memory. subscribe_at (subscription_of u items bytes beat query)) held.asking (λ now memory own asks. called_asks now.collector (add_effect now.collector.rows (subscription_of u items bytes beat query)) asks)
line_asks lower state (lines.SubscribeAt u s items bytes beat expires query) held =
    let about : Subscription = begun_subscription u s items bytes beat expires query in
    collector_asks state (λ memory. subscribe_at about) held.asking (λ now memory own asks. called_asks now.collector (add_effect now.collector.rows about) asks)
line_asks lower state (lines.End u) held = collector_asks state (λ memory. ended_at u) held.asking (λ now memory own asks. called_asks now.collector (end_effect now.collector.rows u) asks)
line_asks lower state (lines.Batch u s b) held =
    collector_asks (with_foreign state s) (λ memory. batch_at u s b) held.asking (λ now memory own asks. called_asks now.collector (batch_effect now.collector.rows u s b now.moment) asks)
line_asks lower state (lines.Source s capacity) held = held.asking
line_asks lower state (lines.Write s plain) held = source_asks state s (write_at s (new_event plain)) held.asking (write_beside s (new_event plain))
line_asks lower state (lines.WriteXml s event) held = source_asks state s (write_at s event) held.asking (write_beside s event)
line_asks lower state (lines.Ask s) held = source_asks state s (ask_at s) held.asking (ask_beside s)
line_asks lower state (lines.Poll s u) held = source_asks state s (poll_at s u) held.asking (poll_beside s u)
line_asks lower state (lines.Deliver k seen) held = delivered_asks state (message_at state k) held.asking
line_asks lower state (lines.Back n) held = delivered_asks state (message_at state (number_back state n)) held.asking
line_asks lower state lines.Request held = request_asks lower state held
line_asks lower state lines.Forget held = collector_asks state forget_at held.asking (λ now memory own asks. (own.0, tt))
line_asks lower state (lines.Lost s u) held = source_asks state s (lost_at s u) held.asking (λ now slot end. refl)
line_asks lower state (lines.Shut s) held = source_asks state s (shut_at s) held.asking (shut_beside s)
line_asks lower state (lines.Crash end) held = crashed_asks state end held.asking
line_asks lower state (lines.Fail end after) held = armed_asks state end (record { after = after; stops = false }) held.asking
line_asks lower state (lines.Stop end after) held = armed_asks state end (record { after = after; stops = true }) held.asking
line_asks lower state lines.Calm held = held.asking
line_asks lower state lines.Show held = collector_asks state (λ memory. unchanged) held.asking (λ now memory own asks. asks)
line_asks lower state (lines.Print u s c) held = collector_asks state (λ memory. unchanged) held.asking (λ now memory own asks. asks)
line_asks lower state (lines.Status u) held = collector_asks state (λ memory. unchanged) held.asking (λ now memory own asks. asks)
line_asks lower state (lines.Tick milliseconds) held = held.asking
line_asks lower state lines.Settle held = (settling_held lower state held).asking
