-- The number that stands at a key.
use Rattle.std.specs.Prelude.{ℕ, unwrap_or}
use Rattle.std.specs.FinMap as map
use Rattle.std.specs.Option.{option_map}
use Rattle.wef_keeper.specs.declared.keys.Cell.{Cell}
use Rattle.wef_keeper.specs.declared.keys.Key.{Key}
use Rattle.wef_keeper.specs.Rows.{Rows}

-- the value of the row of a key, and 0 where there is none
abbrev pub number_at : Rows → Key → ℕ
number_at rows key = unwrap_or (option_map (λ (cell : Cell). cell.value) (map.get rows key)) 0
