-- Settling keeps what is kept, since each line does whose work it does.
use Rattle.std.proofs.Common.{ℕ, ◌==◌, Bool, true, false, cond, List, length}
use Rattle.std.specs.Option.{option_map}
use Rattle.std.specs.Prelude.{Option, Some, None, Ok}
use Rattle.wef_collector.specs.Memories.{forgotten}
use Rattle.wef_collector.specs.declared.memories.Memory.{Memory}
use Rattle.wef_collector_leases.specs.Changes.{release_changes}
use Rattle.wef_collector_rows.specs.declared.faults.CollectorFault.{CollectorFault}
use Rattle.wef_keeper.specs.Calls.{Effect}
use Rattle.wef_machine.specs.Arming.{fate}
use Rattle.wef_machine.specs.Deliveries.{deliver_message, deliver_step, message_at}
use Rattle.wef_machine.specs.Keeping.{AreKeeping}
use Rattle.wef_machine.specs.Leasing.{request_at}
use Rattle.wef_machine.specs.Places.{commits}
use Rattle.wef_machine.specs.Sources.{ask_at, ask_step, poll_at, poll_step}
use Rattle.wef_machine.specs.States.{Collector, State}
use Rattle.wef_machine.specs.Turns.{follow, forgets_by, lose_step, newest, polled_by, release_at, release_step, released, request_step, settle_step, the_steps}
use Rattle.wef_machine.specs.declared.arming.Fate.{Fate}
use Rattle.wef_machine.specs.declared.arming.Fate.TheVariants.{Done, Failed, Stopped}
use Rattle.wef_machine.specs.declared.messages.Message.{Message}
use Rattle.wef_machine.specs.declared.messages.Message.TheVariants as sent
use Rattle.wef_machine.proofs.Settling.{settling_keeps}
use Rattle.wef_safety.specs.Kept.{IsAsking, IsHeld}
use Rattle.wef_safety.proofs.Asking.{ask_beside, called_asks, collector_asks, delivered_asks, poll_beside, request_asks, source_asks}
use Rattle.wef_safety.proofs.CollectorSteps.{at_collector_keeps}
use Rattle.wef_safety.proofs.Delivering.{deliver_keeps}
use Rattle.wef_safety.proofs.LeaseSteps.{release_keeps, request_keeps}
use Rattle.wef_safety.proofs.Losing.{lost_held}
use Rattle.wef_safety.proofs.Lower.{Lower}
use Rattle.wef_safety.proofs.SourceSteps.{ask_keeps, poll_keeps}

-- ---- what settling does

-- What each thing that settling does keeps, one after the other.
pub record AreStepping (P : State → Type 0) : Type 0 where
  pub releases : (state : State) → P state → P (release_step state)
  pub loses : (state : State) → P state → P (lose_step state)
  pub asks : (s : List ℕ) (state : State) → P state → P (ask_step state s)
  pub requests : (state : State) → P state → P (request_step state)
  pub polls : (s u : List ℕ) (state : State) → P state → P (poll_step state s u)
  -- the delivery of the message that was sent last
  pub delivers : (state : State) → P state → P (deliver_step state (length state.messages))

-- what was sent is delivered
pub follow_keeps : (P : State → Type 0) → AreStepping P → (before after : State) → P after → P (follow before after)
follow_keeps P keeps before after is = by_test (length after.messages == length before.messages)
  where
    by_test : (t : Bool) → P (deliver_message after (cond t None (message_at after (length after.messages))))
    by_test true = is
    by_test false = keeps.delivers after is

-- so is the answer to it
pub follow_both : (P : State → Type 0) → AreStepping P → (before after : State) → P after → P (follow after (follow before after))
follow_both P keeps before after is = follow_keeps P keeps after (follow before after) (follow_keeps P keeps before after is)

polled_keeps : (P : State → Type 0) → AreStepping P → (s u : List ℕ) (before after : State) (o : Option Message) → P after → P (polled_by s u before after o).0
polled_keeps P keeps s u before after None is = is
polled_keeps P keeps s u before after (Some (sent.Events r delivery)) is = follow_both P keeps before after is
polled_keeps P keeps s u before after (Some _) is = is

stepping_keeps : (P : State → Type 0) → AreStepping P → AreKeeping State (List ℕ) the_steps P
stepping_keeps P keeps = record {
  begin = record {
    releases = keeps.releases;
    loses = keeps.loses;
    asks = λ s state is. follow_both P keeps state (ask_step state s) (keeps.asks s state is);
    requests = λ state is. follow_both P keeps state (request_step state) (keeps.requests state is);
  };
  polls = λ s u state is. polled_keeps P keeps s u state (poll_step state s u) (newest state (poll_step state s u)) (keeps.polls s u state is);
}

-- what each of these keeps, settling keeps
pub settle_keeps : (P : State → Type 0) → AreStepping P → (state : State) → P state → P (settle_step state)
settle_keeps P keeps state is = settling_keeps State (List ℕ) P the_steps (stepping_keeps P keeps) state is

-- ---- what is kept of a world

forgotten_asks : (memory : Option Memory) → IsAsking memory → IsAsking (option_map forgotten memory)
forgotten_asks None asks = tt
forgotten_asks (Some memory) asks = (asks.0, tt)

released_asks : (place : Collector) → IsAsking place.memory → IsAsking (released place).memory
released_asks place asks = by_fate (fate place.armed (release_changes place.rows))
  where
    after : IsAsking (commits place (release_changes place.rows)).memory
    after = let effect : Effect CollectorFault = Ok (release_changes place.rows) in called_asks place effect asks

    by_fate : (how : Fate) → IsAsking (forgets_by how (commits place (release_changes place.rows))).memory
    by_fate Done = forgotten_asks (commits place (release_changes place.rows)).memory after
    by_fate Failed = after
    by_fate Stopped = after

pub released_held : Lower → (state : State) → IsHeld state → IsHeld (release_step state)
released_held lower state held = record {
  kept = at_collector_keeps lower state release_at held.kept (λ now memory kept_now opened. release_keeps now memory kept_now);
  asking = collector_asks state release_at held.asking (λ now memory own asks. released_asks now.collector asks);
}

pub asked_held : Lower → (state : State) (s : List ℕ) → IsHeld state → IsHeld (ask_step state s)
asked_held lower state s held = record { kept = ask_keeps lower state s held.kept; asking = source_asks state s (ask_at s) held.asking (ask_beside s) }

pub requested_held : Lower → (state : State) → IsHeld state → IsHeld (request_step state)
requested_held lower state held = record {
  kept = at_collector_keeps lower state request_at held.kept (λ now memory kept_now opened. request_keeps now memory kept_now);
  asking = request_asks lower state held;
}

pub polled_held : Lower → (state : State) (s u : List ℕ) → IsHeld state → IsHeld (poll_step state s u)
polled_held lower state s u held = record { kept = poll_keeps lower state s u held.kept; asking = source_asks state s (poll_at s u) held.asking (poll_beside s u) }

pub delivered_held : Lower → (state : State) (k : ℕ) → IsHeld state → IsHeld (deliver_step state k)
delivered_held lower state k held = record { kept = deliver_keeps lower state k held; asking = delivered_asks state (message_at state k) held.asking }

pub stepping_held : Lower → AreStepping IsHeld
stepping_held lower = record {
  releases = released_held lower;
  loses = lost_held;
  asks = λ s state held. asked_held lower state s held;
  requests = requested_held lower;
  polls = λ s u state held. polled_held lower state s u held;
  delivers = λ state held. delivered_held lower state (length state.messages) held;
}

pub settling_held : Lower → (state : State) → IsHeld state → IsHeld (settle_step state)
settling_held lower state held = settle_keeps IsHeld (stepping_held lower) state held
