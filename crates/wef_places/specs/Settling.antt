-- Settling, with the count of the calls that ask the ends to answer bytes, or to hear them.
use Rattle.std.specs.Prelude.{ℕ, ◌&&◌, Bool, List, Option, Some, None, if◌then◌else◌}
use Rattle.wef_machine.specs.Measures.{lag_of, requests_left}
use Rattle.wef_machine.specs.Settling.{Steps, settle}
use Rattle.wef_machine.specs.Sources.{ask_step, poll_step}
use Rattle.wef_machine.specs.States.{State, declared_names}
use Rattle.wef_machine.specs.Turns.{follow, has_sent, is_stuck, leases, lose_step, newest, release_step, request_step, sessions_at, verdict_by}
use Rattle.wef_machine.specs.declared.messages.Message.{Message}
use Rattle.wef_machine.specs.declared.messages.Message.TheVariants as sent
use Rattle.wef_machine.specs.declared.verdicts.Verdict.{Verdict}
use Rattle.wef_machine.specs.declared.verdicts.Verdict.TheVariants.{Enough, Ended}
use Rattle.wef_places.specs.Heard.{counted, is_heard, once}

-- A world, and the count of such calls.
pub record Going : Type 0 where
  pub state : State
  pub calls : ℕ

abbrev pub going : State → ℕ → Going
going state calls = record { state = state; calls = calls }

-- a step that delivers nothing
abbrev pub stands : Going → State → Going
stands g state = record { state = state; calls = g.calls }

-- what a step sent is delivered, if it did: one call, where the end is open or can be opened
abbrev pub goes_on : State → Going → Going
goes_on before after = record { state = follow before after.state; calls = counted (once (is_heard after.state (newest before after.state))) after.calls }

abbrev pub ask_going : List ℕ → Going → Going × Bool
ask_going s g =
    let asked = stands g (ask_step g.state s) in
    let taken = goes_on g.state asked in
    (goes_on asked.state taken, has_sent g.state asked.state && has_sent asked.state taken.state)

abbrev pub request_going : Going → Going × Bool
request_going g =
    let asked = stands g (request_step g.state) in
    let taken = goes_on g.state asked in
    (goes_on asked.state taken, leases taken.state (newest asked.state taken.state))

abbrev pub polled_going : List ℕ → List ℕ → State → Going → Option Message → Going × Verdict
polled_going s u before after None = (after, if is_stuck after.state s u then Ended else Enough)
polled_going s u before after (Some (sent.Events r delivery)) =
    let taken = goes_on before after in
    (goes_on after.state taken, verdict_by taken.state (newest after.state taken.state))
polled_going s u before after (Some _) = (after, Enough)

abbrev pub poll_going : List ℕ → List ℕ → Going → Going × Verdict
poll_going s u g = polled_going s u g.state (stands g (poll_step g.state s u)) (newest g.state (poll_step g.state s u))

-- the steps of settling, so counted
abbrev pub going_steps : Steps Going (List ℕ)
going_steps = record {
  release = λ g. stands g (release_step g.state);
  lose_all = λ g. stands g (lose_step g.state);
  names = λ g. declared_names g.state;
  ask = ask_going;
  request = request_going;
  left = λ g. requests_left g.state;
  sessions = λ g s. sessions_at g.state s;
  poll = poll_going;
  lag = λ s u g. lag_of s u g.state;
}

-- the count behind the calls of a world that settles
abbrev pub calls_settling : State → ℕ → ℕ
calls_settling state calls = (settle going_steps (going state calls)).calls
