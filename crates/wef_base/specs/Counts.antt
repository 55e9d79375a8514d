-- Counts of faults: they never fall, and stay at 2^64 - 1.
use Rattle.std.specs.Prelude.{◌≡◌, ℕ, ◌+◌, ◌<◌, ◌≤◌, ◌==◌, Bool, List, min, Result, MatchResult, OnErr}
use Rattle.std.specs.List.{list_any}

-- The count rose. One that ends at 2^64 - 1 counts as one that rose, since it can't rise further.
abbrev pub Rose : ℕ → ℕ → Type 0
Rose before now = min before 18446744073709551614 < now

-- The count didn't fall, and a refusal came only where it rose.
abbrev pub HasCause : {T E : Type 0} → ℕ → ℕ → Result T E → Type 0
HasCause before now result = (before ≤ now) × OnErr result (Rose before now)

-- A count of given bytes: it grows by what was given, and stays below 2^64.
abbrev pub Gives : {E : Type 0} → ℕ → ℕ → Result ℕ E → Type 0
Gives before now result = MatchResult result (λ n. (now ≡ before + n) × (now < 18446744073709551616)) (λ _. now ≡ before)

-- The count rose by one where a call failed, and stayed where it didn't.
abbrev pub CountsFaults : {T E : Type 0} → ℕ → ℕ → Result T E → Type 0
CountsFaults before now result = MatchResult result (λ _. now ≡ before) (λ _. now ≡ min (before + 1) 18446744073709551615)

-- the call of this number, counted from 1, is told to fail
abbrev pub is_told : ℕ → List ℕ → Bool
is_told call failing = list_any (λ number. number == call) failing
