-- Loops whose turns leave less to be done: a turn that goes on leaves what is still to be done.
use Rattle.std.proofs.Common.{◌≡◌, ℕ, zero, suc, ◌<◌, Bool, true, false, cond, refl, ap, ◌∙◌, arith}
use Rattle.wef_machine.specs.Rounds.{BoundsAgree, IsFalling, Turn, turned}

none_left : (n : ℕ) → n < 0 → ⊥
none_left n less = omega arith

-- what is less than what a bound is above is below the next bound
next_bound : (left more n : ℕ) → left < more → more < suc n → left < n
next_bound left more n less below = omega arith

below_next : (n : ℕ) → n < suc n
below_next n = omega arith

pub bounds_agree : (S : Type 0) (I : S → Type 0) → BoundsAgree S I
bounds_agree S I left turn falling s zero m is less more = absurd (none_left (left s) less)
bounds_agree S I left turn falling s (suc n) zero is less more = absurd (none_left (left s) more)
bounds_agree S I left turn falling s (suc n) (suc m) is less more =
    by_test (turn s).1 refl (λ on.
    let fell = falling.falls s is on in
    bounds_agree S I left turn falling (turn s).0 n m (falling.keeps s is) (next_bound (left (turn s).0) (left s) n fell less) (next_bound (left (turn s).0) (left s) m fell more))
  where
    by_test : (t : Bool) → (turn s).1 ≡ t → ((turn s).1 ≡ true → turned turn n (turn s).0 ≡ turned turn m (turn s).0) →
        cond t (turned turn n (turn s).0) (turn s).0 ≡ cond t (turned turn m (turn s).0) (turn s).0
    by_test true on rest = rest on
    by_test false off rest = refl

-- what is still to be done is all that was, less one turn
pub turned_on : (S : Type 0) (I : S → Type 0) (left : S → ℕ) (turn : S → Turn S) → IsFalling S I left turn → (s : S) → I s → (turn s).1 ≡ true →
    turned turn (suc (left s)) s ≡ turned turn (suc (left (turn s).0)) (turn s).0
turned_on S I left turn falling s is on =
    ap (λ (t : Bool). cond t (turned turn (left s) (turn s).0) (turn s).0) on
    ∙ bounds_agree S I left turn falling (turn s).0 (left s) (suc (left (turn s).0)) (falling.keeps s is) (falling.falls s is on) (below_next (left (turn s).0))
