-- A loop whose turns leave less to be done ends with a turn that doesn't go on, however many there may be; and what each turn keeps,
-- the loop keeps.
use Rattle.std.proofs.Common.{◌≡◌, ℕ, zero, suc, ◌<◌, Bool, true, false, cond, refl, arith}
use Rattle.wef_machine.specs.Rounds.{BoundsAgree, HasStopped, Turn, TurnsStop, turned}

pub none_left : (n : ℕ) → n < 0 → ⊥
none_left n less = omega arith

-- what is less than what a bound is above is below the next bound
pub next_bound : (left more n : ℕ) → left < more → more < suc n → left < n
next_bound left more n less below = omega arith

pub bounds_agree : (S : Type 0) (I : S → Type 0) → BoundsAgree S I
bounds_agree S I left turn falling s zero m is less more = absurd (none_left (left s) less)
bounds_agree S I left turn falling s (suc n) zero is less more = absurd (none_left (left s) more)
bounds_agree S I left turn falling s (suc n) (suc m) is less more =
    by_test (turn s).1 refl (λ on.
    let fell = falling.falls s is on in
    bounds_agree S I left turn falling (turn s).0 n m (falling.keeps s is) (next_bound (left (turn s).0) (left s) n fell less) (next_bound (left (turn s).0) (left s) m fell more))
  where
    by_test : (t : Bool) → (turn s).1 ≡ t → ((turn s).1 ≡ true → turned turn n (turn s).0 ≡ turned turn m (turn s).0) →
        cond t (turned turn n (turn s).0) (turn s).0 ≡ cond t (turned turn m (turn s).0) (turn s).0
    by_test true on rest = rest on
    by_test false off rest = refl

pub turns_stop : (S : Type 0) (I : S → Type 0) → TurnsStop S I
turns_stop S I left turn falling s zero is less = absurd (none_left (left s) less)
turns_stop S I left turn falling s (suc n) is less =
    by_test (turn s).1 refl (λ on.
    turns_stop S I left turn falling (turn s).0 n (falling.keeps s is) (next_bound (left (turn s).0) (left s) n (falling.falls s is on) less))
  where
    by_test : (t : Bool) → (turn s).1 ≡ t → ((turn s).1 ≡ true → HasStopped S I turn (turned turn n (turn s).0)) → HasStopped S I turn (cond t (turned turn n (turn s).0) (turn s).0)
    by_test true on rest = rest on
    by_test false off rest = record { before = s; was = is; last = off; left = refl }

pub turns_keep : (S : Type 0) (P : S → Type 0) (turn : S → Turn S) → ((s : S) → P s → P (turn s).0) → (n : ℕ) (s : S) → P s → P (turned turn n s)
turns_keep S P turn keeps zero s is = is
turns_keep S P turn keeps (suc n) s is = by_test (turn s).1 (turns_keep S P turn keeps n (turn s).0 (keeps s is)) (keeps s is)
  where
    by_test : (t : Bool) → P (turned turn n (turn s).0) → P (turn s).0 → P (cond t (turned turn n (turn s).0) (turn s).0)
    by_test true rest here = rest
    by_test false rest here = here
