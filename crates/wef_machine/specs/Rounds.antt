-- A loop whose turns say whether it goes on, with a bound on how many turns there are.
use Rattle.std.specs.Prelude.{◌≡◌, ℕ, zero, suc, ◌<◌, Bool, true, false, if◌then◌else◌}

-- a turn: what is there after it, and whether the next one follows
abbrev pub Turn : Type 0 → Type 0
Turn S = S × Bool

-- what is there after the last turn, of at most so many
abbrev pub turned : {S : Type 0} → (S → Turn S) → ℕ → S → S
turned turn zero s = s
turned turn (suc n) s = if (turn s).1 then turned turn n (turn s).0 else (turn s).0

-- Each turn keeps a fact, and one that goes on leaves less to be done.
pub record IsFalling (S : Type 0) (I : S → Type 0) (left : S → ℕ) (turn : S → Turn S) : Type 0 where
  pub keeps : (s : S) → I s → I (turn s).0
  pub falls : (s : S) → I s → (turn s).1 ≡ true → left (turn s).0 < left s

-- What is there is behind a turn that didn't go on.
pub record HasStopped (S : Type 0) (I : S → Type 0) (turn : S → Turn S) (end : S) : Type 0 where
  pub before : S
  pub was : I before
  pub last : (turn before).1 ≡ false
  pub left : end ≡ (turn before).0

-- With more turns than are left to be done it is all the same how many there may be.
abbrev pub BoundsAgree : (S : Type 0) → (S → Type 0) → Type 0
BoundsAgree S I = (left : S → ℕ) (turn : S → Turn S) → IsFalling S I left turn → (s : S) (n m : ℕ) → I s → left s < n → left s < m →
    turned turn n s ≡ turned turn m s

-- Then the last turn is one that doesn't go on.
abbrev pub TurnsStop : (S : Type 0) → (S → Type 0) → Type 0
TurnsStop S I = (left : S → ℕ) (turn : S → Turn S) → IsFalling S I left turn → (s : S) (n : ℕ) → I s → left s < n → HasStopped S I turn (turned turn n s)
