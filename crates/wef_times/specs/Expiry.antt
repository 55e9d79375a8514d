-- Expiries, as a subscriber asks for them (WS-Eventing, 4.1, Expires).
use Rattle.std.specs.Prelude.{ℕ, zero, suc, ◌+◌, ◌*◌, ◌/◌, min, List, ℤ, pos, negsuc, ◌-ℤ◌, Option, Some, None, Result}
use Rattle.std.specs.declared.result.Result.TheVariants.{Ok, Err}
use Rattle.wef_base.specs.declared.names.ValueFault.{ValueFault}
use Rattle.wef_base.specs.declared.names.ValueFault.TheVariants.{TooLarge}
use Rattle.wef_times.specs.Durations.{LIMIT, duration_in}
use Rattle.wef_times.specs.Instants.{instant_in}

-- nanoseconds in milliseconds, rounded up
abbrev pub rounded_up : ℕ → ℕ
rounded_up nanos = (nanos + 999_999) / 1_000_000

-- so many nanoseconds ahead in milliseconds, at most the limit; nothing where that isn't ahead
abbrev pub ahead_by : ℤ → Option ℕ
ahead_by (pos zero) = None
ahead_by (pos (suc n)) = Some (min (rounded_up (suc n)) LIMIT)
ahead_by (negsuc n) = None

-- how far an instant is ahead of now, in milliseconds since 1970
abbrev pub until : ℕ → Result ℤ ValueFault → Option ℕ
until now (Ok instant) = ahead_by (instant -ℤ pos (now * 1_000_000))
until now (Err fault) = None

-- the milliseconds of a duration above 0, of one that is too large the limit, and of another text those to its instant
abbrev pub expiry_of : Result ℕ ValueFault → Option ℕ → Option ℕ
expiry_of (Ok zero) ahead = None
expiry_of (Ok (suc ms)) ahead = Some (suc ms)
expiry_of (Err TooLarge) ahead = Some LIMIT
expiry_of (Err fault) ahead = ahead

-- in how many milliseconds from now, in milliseconds since 1970, what a text says is over
unfoldable pub expiry_in : ℕ → List ℕ → Option ℕ
expiry_in now text = expiry_of (duration_in text) (until now (instant_in text))
