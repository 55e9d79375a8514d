-- What each turn of settling keeps, and that it leads to a later world: a step, and the deliveries of what it sent and of the answer.
use Rattle.std.proofs.Common.{ℕ, List}
use Rattle.std.specs.Prelude.{Option, Some, None}
use Rattle.wef_machine.specs.Sources.{ask_step, poll_step}
use Rattle.wef_machine.specs.States.{State}
use Rattle.wef_machine.specs.declared.messages.Message.{Message}
use Rattle.wef_machine.specs.declared.messages.Message.TheVariants as sent
use Rattle.wef_safety.specs.Kept.{IsHeld}
use Rattle.wef_settling.specs.Settles.{AreKeeping}
use Rattle.wef_machine.specs.Turns.{ask_turn, follow, newest, poll_turn, polled_by, request_step, request_turn, the_steps}
use Rattle.wef_settling.proofs.Facts.{IsLater, IsReady}
use Rattle.wef_settling.proofs.KeptSteps.{asked_held, asked_ready, followed_held, followed_ready, lost_ready, polled_held, polled_ready, released_held, released_ready, requested_held, requested_ready}
use Rattle.wef_settling.proofs.Losing.{lost_held}
use Rattle.wef_settling.proofs.LaterSteps.{asked_later, followed_later, later_trans, polled_later, requested_later}

-- what each delivery keeps, a turn keeps of a step
module _ (P : State → Type 0) (follows : (before after : State) → P after → P (follow before after)) where
  twice : (before after : State) → P after → P (follow after (follow before after))
  twice before after is = follows after (follow before after) (follows before after is)

  pub ask_keeps : (s : List ℕ) (state : State) → P (ask_step state s) → P (ask_turn s state).0
  ask_keeps s state is = twice state (ask_step state s) is

  pub request_keeps : (state : State) → P (request_step state) → P (request_turn state).0
  request_keeps state is = twice state (request_step state) is

  -- by what a session sent; a heartbeat isn't delivered
  by_message : (s u : List ℕ) (before after : State) (message : Option Message) → P after → P (follow after (follow before after)) → P (polled_by s u before after message).0
  by_message s u before after None is both = is
  by_message s u before after (Some (sent.Events r delivery)) is both = both
  by_message s u before after (Some (sent.Ask r id)) is both = is
  by_message s u before after (Some (sent.Offers r id relates given)) is both = is
  by_message s u before after (Some (sent.Beat r beat)) is both = is
  by_message s u before after (Some (sent.Ack r id relates)) is both = is
  by_message s u before after (Some (sent.Fault r id relates fault)) is both = is
  by_message s u before after (Some (sent.Request r id identifier body)) is both = is
  by_message s u before after (Some (sent.Response r id relates answer)) is both = is
  by_message s u before after (Some (sent.Ended r note)) is both = is

  pub poll_keeps : (s u : List ℕ) (state : State) → P (poll_step state s u) → P (poll_turn s u state).0
  poll_keeps s u state is = by_message s u state (poll_step state s u) (newest state (poll_step state s u)) is (twice state (poll_step state s u) is)

-- ---- whatever is armed

pub held_keeping : AreKeeping State (List ℕ) the_steps IsHeld
held_keeping = record {
  releases = released_held;
  loses = lost_held;
  asks = λ s state held. ask_keeps IsHeld followed_held s state (asked_held s state held);
  requests = λ state held. request_keeps IsHeld followed_held state (requested_held state held);
  polls = λ s u state held. poll_keeps IsHeld followed_held s u state (polled_held s u state held);
}

-- ---- where nothing is armed

pub ready_keeping : AreKeeping State (List ℕ) the_steps IsReady
ready_keeping = record {
  releases = released_ready;
  loses = lost_ready;
  asks = λ s state is. ask_keeps IsReady followed_ready s state (asked_ready s state is);
  requests = λ state is. request_keeps IsReady followed_ready state (requested_ready state is);
  polls = λ s u state is. poll_keeps IsReady followed_ready s u state (polled_ready s u state is);
}

-- a later world that keeps what each step keeps
abbrev IsNext : State → State → Type 0
IsNext old new = IsReady new × IsLater old new

followed_next : (old before after : State) → IsNext old after → IsNext old (follow before after)
followed_next old before after is = (followed_ready before after is.0, later_trans old after (follow before after) is.1 (followed_later before after is.0))

pub ask_later : (s : List ℕ) (state : State) → IsReady state → IsLater state (ask_turn s state).0
ask_later s state is = (ask_keeps (IsNext state) (followed_next state) s state (asked_ready s state is, asked_later s state is)).1

pub request_later : (state : State) → IsReady state → IsLater state (request_turn state).0
request_later state is = (request_keeps (IsNext state) (followed_next state) state (requested_ready state is, requested_later state is)).1

pub poll_later : (s u : List ℕ) (state : State) → IsReady state → IsLater state (poll_turn s u state).0
poll_later s u state is = (poll_keeps (IsNext state) (followed_next state) s u state (polled_ready s u state is, polled_later s u state is)).1
