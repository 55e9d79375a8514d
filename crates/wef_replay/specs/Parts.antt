-- The parts of a text that are left, once some were cut off.
use Rattle.std.specs.Prelude.{ℕ, List, [], Option}
use Rattle.std.specs.Borrow.{Bor}
use Rattle.std.specs.Iterator.{YieldsFirstRef}
use Rattle.std.specs.Option.{option_map_or}
use Rattle.wef_base.specs.Words.{parts}
use Rattle.wef_replay.specs.declared.cutting.Parts.{Parts}

-- the parts of what stands behind a separating byte, where there was one
abbrev pub parts_behind : ℕ → Option (Bor (List ℕ)) → List (List ℕ)
parts_behind separator rest = option_map_or (λ text. parts separator text.now) rest []

-- the parts that are left
abbrev pub parts_left : Parts → List (List ℕ)
parts_left it = parts_behind it.separator it.rest

-- a call gave the first part that was left, or `None` where none was left, and then none is
abbrev pub GivesFirstPart : Parts → Option (Bor (List ℕ)) → Parts → Type 0
GivesFirstPart = YieldsFirstRef parts_left
