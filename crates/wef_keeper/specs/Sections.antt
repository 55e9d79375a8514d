-- Sections of the rows: the rows whose keys share their first parts, read by pages.
use Rattle.std.specs.Prelude.{Bool, true, cond, Option, Some, None, ◌&&◌, List, [], ◌∷◌, nat_eq}
use Rattle.std.specs.Cmp.Lexicographic.{pointwise}
use Rattle.std.specs.List.{filter}
use Rattle.wef_keeper.specs.Rows.{Rows, rows_after}
use Rattle.wef_keeper.specs.declared.keys.Depth.{Depth}
use Rattle.wef_keeper.specs.declared.keys.Depth.TheVariants.{Kind, Sub, Source, Channel}
use Rattle.wef_keeper.specs.declared.keys.Key.{Key}
use Rattle.wef_keeper.specs.declared.keys.Row.{Row}

-- whether a key shares its parts with another down to a depth
abbrev pub is_under : Depth → Key → Key → Bool
is_under Kind of key = nat_eq of.kind key.kind
is_under Sub of key = nat_eq of.kind key.kind && pointwise nat_eq of.sub key.sub
is_under Source of key = nat_eq of.kind key.kind && pointwise nat_eq of.sub key.sub && pointwise nat_eq of.source key.source
is_under Channel of key = nat_eq of.kind key.kind && pointwise nat_eq of.sub key.sub && pointwise nat_eq of.source key.source && pointwise nat_eq of.channel key.channel

-- the rows behind a key that share its parts down to a depth, in the order of their keys
abbrev pub rows_under : Depth → Key → Rows → List Row
rows_under depth after rows = filter (λ row. is_under depth after row.key) (rows_after after rows)

-- the key of a page's last row, and the one it was read behind where it has no row
abbrev pub last_key : Key → List Row → Key
last_key after [] = after
last_key after (row ∷ rows) = last_key row.key rows

-- whether a section has a key, where no depth stands for all rows
abbrev pub is_wanted : Option Depth → Key → Key → Bool
is_wanted None after key = true
is_wanted (Some depth) after key = is_under depth after key

-- the entries in front of the first whose key doesn't pass
abbrev pub front : {X : Type 0} → (Key → Bool) → List (Key × X) → List (Key × X)
front test [] = []
front test (entry ∷ entries) = cond (test entry.0) (entry ∷ front test entries) []
