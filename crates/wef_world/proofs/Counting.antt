-- Settling with the count of its calls: it does to a world what settling does, and keeps what is held; and a turn of its loops leaves
-- what is still to be done.
use Rattle.std.proofs.Common.{◌≡◌, ℕ, suc, ◌<◌, Bool, true, false, List, [], ◌∷◌, ◌++◌, refl, ap, sym, ◌∙◌, subst}
use Rattle.std.specs.Prelude.{Option, Some, None}
use Rattle.wef_machine.specs.Measures.{lag_of, requests_left}
use Rattle.wef_machine.specs.Rounds.{IsFalling, turned}
use Rattle.wef_machine.specs.Settling.{asked, is_more, polled, polling, requested, settle}
use Rattle.wef_machine.specs.Sources.{poll_step}
use Rattle.wef_machine.specs.States.{State}
use Rattle.wef_machine.specs.Turns.{newest, poll_turn, polled_by, request_step, settle_step, the_steps}
use Rattle.wef_machine.specs.declared.messages.Message.{Message}
use Rattle.wef_machine.specs.declared.messages.Message.TheVariants as sent
use Rattle.wef_machine.specs.declared.verdicts.Verdict.{Verdict}
use Rattle.wef_machine.specs.declared.verdicts.Verdict.TheVariants.{More, Enough, Ended}
use Rattle.wef_machine.proofs.SettlingAlike.{AreShown, settling_alike}
use Rattle.wef_places.specs.Settling.{Going, going_steps, poll_going, polled_going, request_going, stands}
use Rattle.wef_safety.proofs.LowerFacts.{lower}
use Rattle.wef_safety.proofs.Settling.{follow_both, polled_held, requested_held, stepping_held}
use Rattle.wef_safety.specs.Kept.{IsHeld}
use Rattle.wef_settling.proofs.PollsFall.{polls_fall}
use Rattle.wef_settling.proofs.RequestsFall.{requests_fall}
use Rattle.wef_world.proofs.Turning.{turned_on}

-- ---- the same is done to the world

-- a world and a verdict, without the count
abbrev shown : Going × Verdict → State × Verdict
shown x = (x.0.state, x.1)

polls_alike : (s u : List ℕ) (g : Going) → shown (poll_going s u g) ≡ poll_turn s u g.state
polls_alike s u g = by (newest g.state (poll_step g.state s u))
  where
    by : (o : Option Message) → shown (polled_going s u g.state (stands g (poll_step g.state s u)) o) ≡ polled_by s u g.state (poll_step g.state s u) o
    by None = refl
    by (Some (sent.Ask r id)) = refl
    by (Some (sent.Offers r id relates given)) = refl
    by (Some (sent.Events r delivery)) = refl
    by (Some (sent.Beat r beat)) = refl
    by (Some (sent.Ack r id relates)) = refl
    by (Some (sent.Fault r id relates fault)) = refl
    by (Some (sent.Request r id identifier body)) = refl
    by (Some (sent.Response r id relates answer)) = refl
    by (Some (sent.Ended r note)) = refl

are_shown : AreShown Going State (List ℕ) (λ g. g.state) going_steps the_steps
are_shown = record {
  releases = λ g. refl;
  loses = λ g. refl;
  names = λ g. refl;
  asks = λ s g. refl;
  asks_go = λ s g. refl;
  requests = λ g. refl;
  requests_go = λ g. refl;
  left = λ g. refl;
  sessions = λ g s. refl;
  polls = polls_alike;
  lag = λ s u g. refl;
}

pub settled_state : (g : Going) → (settle going_steps g).state ≡ settle_step g.state
settled_state g = settling_alike Going State (List ℕ) (λ g. g.state) going_steps the_steps are_shown g

-- ---- requests

requests_falling : IsFalling Going (λ g. IsHeld g.state) (λ g. requests_left g.state) request_going
requests_falling = record {
  keeps = λ g held. follow_both IsHeld (stepping_held lower) g.state (request_step g.state) (requested_held lower g.state held);
  falls = λ g held on. requests_fall g.state held on;
}

-- after a request that leased there is what is left of all requests
pub requests_on : (before after : Going) (goes : Bool) → IsHeld before.state → goes ≡ true → (after, goes) ≡ request_going before
    → requested going_steps after ≡ requested going_steps before
requests_on before after goes held on turn =
    ap (λ (x : Going × Bool). requested going_steps x.0) turn
    ∙ sym (turned_on Going (λ g. IsHeld g.state) (λ g. requests_left g.state) request_going requests_falling before held (sym (ap (λ (x : Going × Bool). x.1) turn) ∙ on))

pub requests_less : (before after : Going) (goes : Bool) → IsHeld before.state → goes ≡ true → (after, goes) ≡ request_going before → requests_left after.state < requests_left before.state
requests_less before after goes held on turn =
    subst (λ (g : Going). requests_left g.state < requests_left before.state) (sym (ap (λ (x : Going × Bool). x.0) turn))
    (requests_fall before.state held (sym (ap (λ (x : Going × Bool). x.1) turn) ∙ on))

-- ---- polls

is_it_more : (v : Verdict) → is_more v ≡ true → v ≡ More
is_it_more More on = refl
is_it_more Enough on = cc
is_it_more Ended on = cc

fell : (s u : List ℕ) (g : Going) → IsHeld g.state → is_more (poll_going s u g).1 ≡ true → lag_of s u (poll_going s u g).0.state < lag_of s u g.state
fell s u g held on =
    subst (λ (x : State × Verdict). lag_of s u x.0 < lag_of s u g.state) (sym (polls_alike s u g))
    (polls_fall s u g.state held (sym (ap (λ (x : State × Verdict). x.1) (polls_alike s u g)) ∙ is_it_more (poll_going s u g).1 on))

-- a poll keeps what is held
poll_held : (s u : List ℕ) (g : Going) → IsHeld g.state → IsHeld (poll_going s u g).0.state
poll_held s u g held = by (newest g.state after)
  where
    after : State
    after = poll_step g.state s u

    here : IsHeld after
    here = polled_held lower g.state s u held

    by : (o : Option Message) → IsHeld (polled_going s u g.state (stands g after) o).0.state
    by None = here
    by (Some (sent.Ask r id)) = here
    by (Some (sent.Offers r id relates given)) = here
    by (Some (sent.Events r delivery)) = follow_both IsHeld (stepping_held lower) g.state after here
    by (Some (sent.Beat r beat)) = here
    by (Some (sent.Ack r id relates)) = here
    by (Some (sent.Fault r id relates fault)) = here
    by (Some (sent.Request r id identifier body)) = here
    by (Some (sent.Response r id relates answer)) = here
    by (Some (sent.Ended r note)) = here

polls_falling : (s u : List ℕ) → IsFalling (Going × Verdict) (λ x. IsHeld x.0.state) (λ x. lag_of s u x.0.state) (polling going_steps s u)
polls_falling s u = record {
  keeps = λ x held. poll_held s u x.0 held;
  falls = λ x held on. fell s u x.0 held on;
}

-- after a poll that moved its session there is what is left of all its polls
pub polls_on : (s u : List ℕ) (before after : Going) (verdict : Verdict) → IsHeld before.state → is_more verdict ≡ true → (after, verdict) ≡ poll_going s u before
    → polled going_steps s u after ≡ polled going_steps s u before
polls_on s u before after verdict held on turn =
    ap (λ (x : Going × Verdict). polled going_steps s u x.0) turn
    ∙ sym (turned_on (Going × Verdict) (λ x. IsHeld x.0.state) (λ x. lag_of s u x.0.state) (polling going_steps s u) (polls_falling s u) (before, Enough) held
    (sym (ap (λ (x : Going × Verdict). is_more x.1) turn) ∙ on))

pub polls_less : (s u : List ℕ) (before after : Going) (verdict : Verdict) → IsHeld before.state → is_more verdict ≡ true → (after, verdict) ≡ poll_going s u before
    → lag_of s u after.state < lag_of s u before.state
polls_less s u before after verdict held on turn =
    subst (λ (x : Going × Verdict). lag_of s u x.0.state < lag_of s u before.state) (sym turn) (fell s u before held (sym (ap (λ (x : Going × Verdict). is_more x.1) turn) ∙ on))
