-- When a source is to be heard of again, and which source is silent. Times are in milliseconds.
use Rattle.std.specs.Prelude.{ℕ, ◌+◌, ◌*◌, nat_le, Bool, Option, Some, None, if◌then◌else◌}
use Rattle.wef_heartbeat.specs.declared.silence.Status.{Status}
use Rattle.wef_heartbeat.specs.declared.silence.Status.TheVariants.{Active, Inactive, Never}

-- an interval is over since a source last sent
abbrev pub due : ℕ → ℕ → ℕ → Bool
due last_sent interval now = nat_le (last_sent + interval) now

-- two are over since it was heard
abbrev pub is_silent : ℕ → ℕ → ℕ → Bool
is_silent heard interval now = nat_le (heard + 2 * interval) now

-- by when it was heard last, if it was at all
abbrev pub status_of : Option ℕ → ℕ → ℕ → Status
status_of None interval now = Never
status_of (Some heard) interval now = if is_silent heard interval now then Inactive else Active
