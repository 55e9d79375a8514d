-- The bytes of an instant, taken from a text byte by byte.
use Rattle.std.specs.Prelude.{ℕ, nat_lt, List, [], ◌∷◌, ◌++◌, length, ℤ, Option, None, if◌then◌else◌}
use Rattle.wef_base.specs.Names.{is_space}
use Rattle.wef_times.specs.Instants.{instant_at}
use Rattle.wef_query_values.specs.declared.instants.Standing.{Standing}
use Rattle.wef_query_values.specs.declared.instants.Standing.TheVariants.{Open, Closed, Broken}

-- what is taken: bytes without the spaces before them, the same with spaces behind them, or what can be no instant
pub data Taken : Type 0 where
  Kept : List ℕ → Taken
  Ended : List ℕ → Taken
  Other : Taken

-- with a space behind it: one before the others doesn't count, and one behind them ends what is taken
abbrev pub with_space : Taken → Taken
with_space (Kept []) = Kept []
with_space (Kept (c ∷ cs)) = Ended (c ∷ cs)
with_space (Ended cs) = Ended cs
with_space Other = Other

-- with another byte behind it, of at most 35
abbrev pub with_byte : Taken → ℕ → Taken
with_byte (Kept cs) c = if nat_lt (length cs) 35 then Kept (cs ++ c ∷ []) else Other
with_byte (Ended cs) c = Other
with_byte Other c = Other

-- what a byte makes of what is taken
abbrev pub take_byte : Taken → ℕ → Taken
take_byte t c = if is_space c then with_space t else with_byte t c

-- the instant, where the text ends here
abbrev pub instant_taken : Taken → Option ℤ
instant_taken (Kept cs) = instant_at cs
instant_taken (Ended cs) = instant_at cs
instant_taken Other = None

-- what the code holds, by how it stands with the bytes
abbrev pub taken : Standing → List ℕ → Taken
taken Open cs = Kept cs
taken Closed cs = Ended cs
taken Broken cs = Other

-- how it stands behind a space
abbrev pub behind_space : Standing → Standing
behind_space Open = Closed
behind_space Closed = Closed
behind_space Broken = Broken
