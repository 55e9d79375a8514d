-- What each step of settling keeps, settling keeps; and a loop that takes turn by turn does what is stated.
use Rattle.std.proofs.Common.{◌≡◌, ℕ, suc, ◌<◌, Bool, true, false, cond, List, [], ◌∷◌, refl, ap, ◌∙◌, arith}
use Rattle.wef_machine.specs.Rounds.{turned}
use Rattle.wef_settling.specs.Settles.{AreKeeping, SettlingKeeps, TurnsAreTaken}
use Rattle.wef_machine.specs.Settling.{Steps, all_asked, all_served, asked, begun, is_ended, is_more, polled, polling, requested, served}
use Rattle.wef_machine.specs.declared.verdicts.Verdict.{Verdict}
use Rattle.wef_machine.specs.declared.verdicts.Verdict.TheVariants.{More, Enough, Ended}
use Rattle.wef_settling.proofs.Turning.{bounds_agree, turns_keep}

-- ---- what each step keeps

module _ {W N : Type 0} (f : Steps W N) (P : W → Type 0) (keeps : AreKeeping W N f P) where
  pub asked_keeps : (ss : List N) (w : W) → P w → P (asked f ss w).0
  asked_keeps [] w is = is
  asked_keeps (s ∷ ss) w is = asked_keeps ss (f.ask s w).0 (keeps.asks s w is)

  pub requested_keeps : (n : ℕ) (w : W) → P w → P (turned f.request n w)
  requested_keeps n w is = turns_keep W P f.request keeps.requests n w is

  pub polls_keep : (s u : N) (n : ℕ) (x : W × Verdict) → P x.0 → P (turned (polling f s u) n x).0
  polls_keep s u n x is = turns_keep (W × Verdict) (λ y. P y.0) (polling f s u) (λ y. keeps.polls s u y.0) n x is

  pub polled_keeps : (s u : N) (w : W) → P w → P (polled f s u w).0
  polled_keeps s u w is = polls_keep s u (suc (f.lag s u w)) (w, Enough) is

  pub served_keeps : (s : N) (us : List N) (w : W) → P w → P (served f s us w)
  served_keeps s [] w is = is
  served_keeps s (u ∷ us) w is =
      let here = polled_keeps s u w is in
      by_test (is_ended (polled f s u w).1) here (served_keeps s us (polled f s u w).0 here)
    where
      by_test : (t : Bool) → P (polled f s u w).0 → P (served f s us (polled f s u w).0) → P (cond t (polled f s u w).0 (served f s us (polled f s u w).0))
      by_test true here rest = here
      by_test false here rest = rest

  pub all_served_keeps : (ss : List N) (w : W) → P w → P (all_served f ss w)
  all_served_keeps [] w is = is
  all_served_keeps (s ∷ ss) w is = all_served_keeps ss (served f s (f.sessions w s) w) (served_keeps s (f.sessions w s) w is)

  pub begun_keeps : (w : W) → P w → P (begun f w)
  begun_keeps w is = keeps.loses (f.release w) (keeps.releases w is)

  pub all_asked_keeps : (w : W) → P w → P (all_asked f w).0
  all_asked_keeps w is = asked_keeps (f.names (begun f w)) (begun f w) (begun_keeps w is)

pub settling_keeps : (W N : Type 0) (P : W → Type 0) → SettlingKeeps W N P
settling_keeps W N P f keeps w is =
    all_served_keeps f P keeps (all_asked f w).1 (requested f (all_asked f w).0)
    (requested_keeps f P keeps (suc (f.left (all_asked f w).0)) (all_asked f w).0 (all_asked_keeps f P keeps w is))

-- ---- turn by turn

pub one_more : (n : ℕ) → n < suc n
one_more n = omega arith

goes_on : (verdict : Verdict) → is_more verdict ≡ true → verdict ≡ More
goes_on More on = refl
goes_on Enough on = cc
goes_on Ended on = cc

pub turns_are_taken : (W N : Type 0) (I : W → Type 0) → TurnsAreTaken W N I
turns_are_taken W N I f falling s u w = record {
  more = λ is on.
      ap (λ (verdict : Verdict). cond (is_more verdict) (turned (polling f s u) (f.lag s u w) (f.poll s u w)) (f.poll s u w)) on
      ∙ bounds_agree (W × Verdict) (λ x. I x.0) (λ x. f.lag s u x.0) (polling f s u) (record {
        keeps = λ x kept. falling.poll_kept s u x.0 kept;
        falls = λ x kept more. falling.polls_fall s u x.0 kept (goes_on (f.poll s u x.0).1 more);
      }) (f.poll s u w) (f.lag s u w) (suc (f.lag s u (f.poll s u w).0)) (falling.poll_kept s u w is) (falling.polls_fall s u w is on) (one_more (f.lag s u (f.poll s u w).0));
  last = λ off. ap (λ (t : Bool). cond t (turned (polling f s u) (f.lag s u w) (f.poll s u w)) (f.poll s u w)) off;
  requests_more = λ is on.
      ap (λ (t : Bool). cond t (turned f.request (f.left w) (f.request w).0) (f.request w).0) on
      ∙ bounds_agree W I f.left f.request (record { keeps = falling.request_kept; falls = falling.requests_fall }) (f.request w).0 (f.left w) (suc (f.left (f.request w).0))
      (falling.request_kept w is) (falling.requests_fall w is on) (one_more (f.left (f.request w).0));
  requests_last = λ off. ap (λ (t : Bool). cond t (turned f.request (f.left w) (f.request w).0) (f.request w).0) off;
}
