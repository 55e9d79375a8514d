-- What the collector hears of a source that has nothing to send keeps what is kept.
use Rattle.std.proofs.Common.{◌≡◌, ℕ, ◌≤◌, true, List, [], refl, ap, sym, subst, arith}
use Rattle.std.specs.Cmp.Lexicographic.{slice_cmp}
use Rattle.std.specs.FinMap as finite
use Rattle.std.specs.List.{AllByRecursion}
use Rattle.std.specs.Ordering.{nat_cmp}
use Rattle.std.specs.Prelude.{Option, Some, unwrap_or}
use Rattle.wef_base.specs.declared.moments.TheConstants.{LAST_MOMENT}
use Rattle.wef_collector.proofs.FormedRows.{heard_row}
use Rattle.wef_collector.proofs.Hearing.{each_heard}
use Rattle.wef_collector.specs.Taken.{heard_changes, put}
use Rattle.wef_collector.specs.declared.memories.Memory.{Memory}
use Rattle.wef_collector_rows.specs.Keys.{heard_key}
use Rattle.wef_collector_rows.specs.Standing.{standing}
use Rattle.wef_collector_rows.specs.declared.standings.Standing as state_of
use Rattle.wef_collector_rows.specs.declared.standings.Standing.TheVariants as stands
use Rattle.wef_heartbeat.specs.declared.messages.Heartbeat.{Heartbeat}
use Rattle.wef_ids.specs.declared.FaultName.TheVariants.{DestinationUnreachable}
use Rattle.wef_ids.specs.declared.MessageId.{MessageId}
use Rattle.wef_keeper.specs.Rows.{Rows}
use Rattle.wef_keeper.specs.declared.keys.Change.{Change}
use Rattle.wef_machine.specs.Answering.{answers_by}
use Rattle.wef_machine.specs.Collecting.{reply_id, with_reply}
use Rattle.wef_machine.specs.Deliveries.{beat_at, effect_at, heard_effect, heard_effect_by}
use Rattle.wef_machine.specs.Places.{commits}
use Rattle.wef_machine.specs.States.{Slot, State, slot_of, with_collector}
use Rattle.wef_machine.specs.declared.messages.Message.TheVariants.{Ack, Beat}
use Rattle.wef_safety.specs.Kept.{IsKept, IsOnPath}
use Rattle.wef_safety.specs.Safe.{WasSent}
use Rattle.wef_safety.proofs.Aside.{IsAsideKept, changes_kept}
use Rattle.wef_safety.proofs.CollectorSteps.{answered_kept, called_kept, fault_kept}
use Rattle.wef_safety.proofs.LeaseRows.{HaveNames}
use Rattle.wef_safety.proofs.LowerFacts.{source_named, subscription_named}
use Rattle.wef_safety.proofs.Moves.{declared_at, kept_reply}
use Rattle.wef_safety.proofs.RowMoves.{IsChangeKept, known_name}
use Rattle.wef_safety.proofs.Sent.{sent_before}

-- ---- the moment at which a source was heard

-- such a row is no subscription, bookmark or lease
heard_put : (u s : List ℕ) (now : ℕ) → IsChangeKept (put (heard_key u s) now [])
heard_put u s now = record {
  name = λ kind. absurd (omega arith);
  subscription = λ kind. absurd (omega arith);
  sources = λ kind. absurd (omega arith);
  bookmark = λ kind. absurd (omega arith);
  channel = λ kind. absurd (omega arith);
  lease = λ kind. absurd (omega arith);
}

put_is : (u s : List ℕ) (now : ℕ) → HaveNames u s → now ≤ LAST_MOMENT → IsAsideKept (put (heard_key u s) now [])
put_is u s now names soon = record {
  aside = omega arith;
  kept = heard_put u s now;
  formed = heard_row u s now names.subscription names.source soon;
}

heard : (rows : Rows) (u s : List ℕ) (now : ℕ) → HaveNames u s → now ≤ LAST_MOMENT → AllByRecursion IsAsideKept (heard_changes rows u s now)
heard rows u s now names soon = each_heard IsAsideKept rows u s now (put_is u s now names soon)

-- ---- a heartbeat

-- its acknowledgement is for what its source sent, which reads nothing
acked_kept : (state : State) (s : List ℕ) (slot : Slot) (id : MessageId) (beat : Heartbeat) → IsKept state → slot_of state s ≡ Some slot → WasSent state.messages (Beat s beat) →
    IsKept (with_reply 1 state (Ack s id beat.id))
acked_kept state s slot id beat kept there was =
    let path = declared_at (slot_of state s) slot (λ (slot : Slot). IsOnPath state.collector.rows s slot beat.notify_to beat.id) there (kept.messages (Beat s beat) was) in
    kept_reply state (Ack s id beat.id) kept refl (record {
      is = record {
        message = Beat s beat;
        was_sent = sent_before state.messages (Ack s id beat.id) (Beat s beat) was;
        of_source = refl;
        id = refl;
        address = beat.notify_to;
        to = finite.empty;
        reads = refl;
        u = path.u;
        about = path.about;
        known = path.known;
        to_subscription = path.to_subscription;
        to_source = path.to_source;
        reached = tt;
      };
      behind = λ c. let none = ap (λ (o : Option ℕ). unwrap_or o 0) (finite.get-empty (slice_cmp nat_cmp) c) in omega arith;
    })

pub beat_keeps : (state : State) (s : List ℕ) (slot : Slot) (memory : Memory) (beat : Heartbeat) → IsKept state → slot_of state s ≡ Some slot → WasSent state.messages (Beat s beat) →
    IsOnPath state.collector.rows s slot beat.notify_to beat.id → IsKept (beat_at s beat memory state)
beat_keeps state s slot memory beat kept there was is =
    subst (λ (x : Option (List ℕ) × Option (List ℕ)).
    IsKept (answers_by state (effect_at state.collector.rows x.0 x.1 (λ u r. heard_effect state.collector.rows u r state.moment)) true s (reply_id memory) beat.id))
    (λ i. (sym is.to_subscription i, sym is.to_source i)) (by_standing (standing state.collector.rows is.u))
  where
    id : MessageId
    id = reply_id memory

    names : HaveNames is.u s
    names = record {
      subscription = subscription_named is.u (known_name state.collector.rows is.u is.about kept.keys is.known);
      source = source_named s (kept.sources s slot there).name;
    }

    by_standing : (found : state_of.Standing) → IsKept (answers_by state (heard_effect_by state.collector.rows is.u s state.moment found) true s (reply_id memory) beat.id)
    by_standing stands.Unknown = fault_kept state s id beat.id DestinationUnreachable kept
    by_standing (stands.Ended about) = fault_kept state s id beat.id DestinationUnreachable kept
    by_standing (stands.Live about) =
        let changes : List Change = heard_changes state.collector.rows is.u s state.moment in
        let after : State = with_collector state (commits state.collector changes) in
        let kept_after : IsKept after = called_kept state changes kept (changes_kept state changes kept (heard state.collector.rows is.u s state.moment names kept.soon)) in
        answered_kept state changes true s id beat.id kept_after (λ wanted e. acked_kept after s slot id beat kept_after there was)
