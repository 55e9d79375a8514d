-- Settling goes the same way in two worlds of which one shows the other.
use Rattle.std.proofs.Common.{◌≡◌, ℕ, suc, Bool, true, false, cond, List, [], ◌∷◌, refl, ap, sym, ◌∙◌}
use Rattle.wef_machine.specs.Rounds.{turned}
use Rattle.wef_machine.specs.Settling.{Steps, all_asked, all_served, and_also, asked, begun, is_ended, is_more, polled, polling, requested, served, settle}
use Rattle.wef_machine.specs.declared.verdicts.Verdict.{Verdict}
use Rattle.wef_machine.specs.declared.verdicts.Verdict.TheVariants.{Enough}
use Rattle.wef_machine.proofs.Turning.{AreAlike, turned_alike}

-- a world and a verdict, shown
abbrev with_verdict : {W V : Type 0} → (W → V) → W × Verdict → V × Verdict
with_verdict shown x = (shown x.0, x.1)

-- Each step shows what the other's does.
pub record AreShown (W V N : Type 0) (shown : W → V) (f : Steps W N) (g : Steps V N) : Type 0 where
  pub releases : (w : W) → shown (f.release w) ≡ g.release (shown w)
  pub loses : (w : W) → shown (f.lose_all w) ≡ g.lose_all (shown w)
  pub names : (w : W) → f.names w ≡ g.names (shown w)
  pub asks : (s : N) (w : W) → shown (f.ask s w).0 ≡ (g.ask s (shown w)).0
  pub asks_go : (s : N) (w : W) → (f.ask s w).1 ≡ (g.ask s (shown w)).1
  pub requests : (w : W) → shown (f.request w).0 ≡ (g.request (shown w)).0
  pub requests_go : (w : W) → (f.request w).1 ≡ (g.request (shown w)).1
  pub left : (w : W) → f.left w ≡ g.left (shown w)
  pub sessions : (w : W) (s : N) → f.sessions w s ≡ g.sessions (shown w) s
  pub polls : (s u : N) (w : W) → with_verdict shown (f.poll s u w) ≡ g.poll s u (shown w)
  pub lag : (s u : N) (w : W) → f.lag s u w ≡ g.lag s u (shown w)

polling_alike : (W V N : Type 0) (shown : W → V) (f : Steps W N) (g : Steps V N) → AreShown W V N shown f g → (s u : N) →
    AreAlike (W × Verdict) (V × Verdict) (with_verdict shown) (polling f s u) (polling g s u)
polling_alike W V N shown f g is s u = record { same = λ x. is.polls s u x.0; goes = λ x. ap (λ (y : V × Verdict). is_more y.1) (is.polls s u x.0) }

polled_alike : (W V N : Type 0) (shown : W → V) (f : Steps W N) (g : Steps V N) → AreShown W V N shown f g → (s u : N) (w : W) →
    with_verdict shown (polled f s u w) ≡ polled g s u (shown w)
polled_alike W V N shown f g is s u w =
    turned_alike (W × Verdict) (V × Verdict) (with_verdict shown) (polling f s u) (polling g s u) (polling_alike W V N shown f g is s u) (suc (f.lag s u w)) (w, Enough)
    ∙ ap (λ (n : ℕ). turned (polling g s u) (suc n) (shown w, Enough)) (is.lag s u w)

served_alike : (W V N : Type 0) (shown : W → V) (f : Steps W N) (g : Steps V N) → AreShown W V N shown f g → (s : N) (us : List N) (w : W) →
    shown (served f s us w) ≡ served g s us (shown w)
served_alike W V N shown f g is s [] w = refl
served_alike W V N shown f g is s (u ∷ us) w =
    by_end (is_ended (polled f s u w).1)
    ∙ ((λ i. cond (is_ended (polled f s u w).1) (shown (polled f s u w).0) (served_alike W V N shown f g is s us (polled f s u w).0 i))
    ∙ ap (λ (y : V × Verdict). cond (is_ended y.1) y.0 (served g s us y.0)) (polled_alike W V N shown f g is s u w))
  where
    by_end : (t : Bool) → shown (cond t (polled f s u w).0 (served f s us (polled f s u w).0)) ≡ cond t (shown (polled f s u w).0) (shown (served f s us (polled f s u w).0))
    by_end true = refl
    by_end false = refl

all_served_alike : (W V N : Type 0) (shown : W → V) (f : Steps W N) (g : Steps V N) → AreShown W V N shown f g → (ss : List N) (w : W) →
    shown (all_served f ss w) ≡ all_served g ss (shown w)
all_served_alike W V N shown f g is [] w = refl
all_served_alike W V N shown f g is (s ∷ ss) w =
    all_served_alike W V N shown f g is ss (served f s (f.sessions w s) w)
    ∙ (ap (λ (v : V). all_served g ss v) (served_alike W V N shown f g is s (f.sessions w s) w)
    ∙ ap (λ (us : List N). all_served g ss (served g s us (shown w))) (is.sessions w s))

asked_alike : (W V N : Type 0) (shown : W → V) (f : Steps W N) (g : Steps V N) → AreShown W V N shown f g → (ss : List N) (w : W) →
    shown (asked f ss w).0 ≡ (asked g ss (shown w)).0
asked_alike W V N shown f g is [] w = refl
asked_alike W V N shown f g is (s ∷ ss) w =
    asked_alike W V N shown f g is ss (f.ask s w).0 ∙ ap (λ (v : V). (asked g ss v).0) (is.asks s w)

asks_go_alike : (W V N : Type 0) (shown : W → V) (f : Steps W N) (g : Steps V N) → AreShown W V N shown f g → (ss : List N) (w : W) →
    (asked f ss w).1 ≡ (asked g ss (shown w)).1
asks_go_alike W V N shown f g is [] w = refl
asks_go_alike W V N shown f g is (s ∷ ss) w =
    (λ i. and_also (is.asks_go s w i) s (asks_go_alike W V N shown f g is ss (f.ask s w).0 i))
    ∙ ap (λ (v : V). and_also (g.ask s (shown w)).1 s (asked g ss v).1) (is.asks s w)

requested_alike : (W V N : Type 0) (shown : W → V) (f : Steps W N) (g : Steps V N) → AreShown W V N shown f g → (w : W) →
    shown (requested f w) ≡ requested g (shown w)
requested_alike W V N shown f g is w =
    turned_alike W V shown f.request g.request (record { same = is.requests; goes = is.requests_go }) (suc (f.left w)) w
    ∙ ap (λ (n : ℕ). turned g.request (suc n) (shown w)) (is.left w)

begun_alike : (W V N : Type 0) (shown : W → V) (f : Steps W N) (g : Steps V N) → AreShown W V N shown f g → (w : W) → shown (begun f w) ≡ begun g (shown w)
begun_alike W V N shown f g is w = is.loses (f.release w) ∙ ap (λ (v : V). g.lose_all v) (is.releases w)

names_alike : (W V N : Type 0) (shown : W → V) (f : Steps W N) (g : Steps V N) → AreShown W V N shown f g → (w : W) → f.names (begun f w) ≡ g.names (begun g (shown w))
names_alike W V N shown f g is w = is.names (begun f w) ∙ ap (λ (v : V). g.names v) (begun_alike W V N shown f g is w)

-- what is shown after settling is what settling leaves of what was shown
pub settling_alike : (W V N : Type 0) (shown : W → V) (f : Steps W N) (g : Steps V N) → AreShown W V N shown f g → (w : W) → shown (settle f w) ≡ settle g (shown w)
settling_alike W V N shown f g is w =
    all_served_alike W V N shown f g is (all_asked f w).1 (requested f (all_asked f w).0)
    ∙ (λ i. all_served g (goes i) (reached i))
  where
    goes : (all_asked f w).1 ≡ (all_asked g (shown w)).1
    goes =
        asks_go_alike W V N shown f g is (f.names (begun f w)) (begun f w)
        ∙ (λ i. (asked g (names_alike W V N shown f g is w i) (begun_alike W V N shown f g is w i)).1)

    reached : shown (requested f (all_asked f w).0) ≡ requested g (all_asked g (shown w)).0
    reached =
        requested_alike W V N shown f g is (all_asked f w).0
        ∙ (ap (λ (v : V). requested g v) (asked_alike W V N shown f g is (f.names (begun f w)) (begun f w))
        ∙ (λ i. requested g (asked g (names_alike W V N shown f g is w i) (begun_alike W V N shown f g is w i)).0))
