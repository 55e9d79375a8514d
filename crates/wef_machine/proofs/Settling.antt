-- What settling keeps, over any world.
use Rattle.std.proofs.Common.{ℕ, suc, Bool, true, false, cond, List, [], ◌∷◌}
use Rattle.wef_machine.specs.Keeping.{AreBeginning, AreKeeping, ArePolling, SettlingKeeps}
use Rattle.wef_machine.specs.Settling.{Steps, all_asked, all_served, asked, begun, is_ended, polled, polling, requested, served}
use Rattle.wef_machine.specs.declared.verdicts.Verdict.{Verdict}
use Rattle.wef_machine.specs.declared.verdicts.Verdict.TheVariants.{Enough}
use Rattle.wef_machine.proofs.Turning.{turned_keeps}

-- ---- the polls

polled_keeps : (W N : Type 0) (f : Steps W N) (P : W → Type 0) → ArePolling W N f P → (s u : N) (w : W) → P w → P (polled f s u w).0
polled_keeps W N f P polls s u w is =
    turned_keeps (W × Verdict) (λ x. P x.0) (polling f s u) (λ x. polls s u x.0) (suc (f.lag s u w)) (w, Enough) is

served_keeps : (W N : Type 0) (f : Steps W N) (P : W → Type 0) → ArePolling W N f P → (s : N) (us : List N) (w : W) → P w → P (served f s us w)
served_keeps W N f P polls s [] w is = is
served_keeps W N f P polls s (u ∷ us) w is = by_end (is_ended (polled f s u w).1) here (served_keeps W N f P polls s us (polled f s u w).0 here)
  where
    here : P (polled f s u w).0
    here = polled_keeps W N f P polls s u w is

    by_end : (t : Bool) → P (polled f s u w).0 → P (served f s us (polled f s u w).0) → P (cond t (polled f s u w).0 (served f s us (polled f s u w).0))
    by_end true this rest = this
    by_end false this rest = rest

-- what each poll keeps, all polls keep
pub polls_keep : (W N : Type 0) (f : Steps W N) (P : W → Type 0) → ArePolling W N f P → (ss : List N) (w : W) → P w → P (all_served f ss w)
polls_keep W N f P polls [] w is = is
polls_keep W N f P polls (s ∷ ss) w is = polls_keep W N f P polls ss (served f s (f.sessions w s) w) (served_keeps W N f P polls s (f.sessions w s) w is)

-- ---- what comes before them

asked_keeps : (W N : Type 0) (f : Steps W N) (P : W → Type 0) → AreBeginning W N f P → (ss : List N) (w : W) → P w → P (asked f ss w).0
asked_keeps W N f P keeps [] w is = is
asked_keeps W N f P keeps (s ∷ ss) w is = asked_keeps W N f P keeps ss (f.ask s w).0 (keeps.asks s w is)

requested_keeps : (W N : Type 0) (f : Steps W N) (P : W → Type 0) → AreBeginning W N f P → (w : W) → P w → P (requested f w)
requested_keeps W N f P keeps w is = turned_keeps W P f.request keeps.requests (suc (f.left w)) w is

-- what each step up to the polls keeps, all these keep
pub beginning_keeps : (W N : Type 0) (f : Steps W N) (P : W → Type 0) → AreBeginning W N f P → (w : W) → P w → P (requested f (all_asked f w).0)
beginning_keeps W N f P keeps w is =
    requested_keeps W N f P keeps (all_asked f w).0
    (asked_keeps W N f P keeps (f.names (begun f w)) (begun f w) (keeps.loses (f.release w) (keeps.releases w is)))

pub settling_keeps : (W N : Type 0) (P : W → Type 0) → SettlingKeeps W N P
settling_keeps W N P f keeps w is =
    polls_keep W N f P keeps.polls (all_asked f w).1 (requested f (all_asked f w).0) (beginning_keeps W N f P keeps.begin w is)
