-- When two ids of messages agree, and which ids an end draws.
use Rattle.std.specs.Prelude.{ℕ, ◌+◌, ◌*◌, ◌==◌, Bool, false, min, Option, Some, None}
use Rattle.wef_ids.specs.declared.ids.Ids.{Ids}

-- both have a value, and the same one
abbrev pub ids_agree : Option ℕ → Option ℕ → Bool
ids_agree (Some value) (Some wanted) = value == wanted
ids_agree (Some value) None = false
ids_agree None other = false

-- the ids of an end that has just started
abbrev pub ids_of_boot : ℕ → Ids
ids_of_boot boot = record { boot = boot; drawn = 0 }

-- the ids after so many more are drawn; the last number stays at 2^64 - 1
abbrev pub with_drawn : ℕ → Ids → Ids
with_drawn more ids = record ids { drawn = min (ids.drawn + more) 18446744073709551615 }

-- the value of the id that is drawn next
abbrev pub next_id : Ids → ℕ
next_id ids = ids.boot * 18446744073709551616 + min (ids.drawn + 1) 18446744073709551615
