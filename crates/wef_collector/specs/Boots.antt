-- The boot number: how often the collector was started over these rows; and the memory that begins with it.
use Rattle.std.specs.Prelude.{ℕ, ◌+◌}
use Rattle.wef_keeper.specs.Rows.{Rows}
use Rattle.wef_collector_rows.specs.Keys.{boot_key}
use Rattle.wef_collector_rows.specs.Numbers.{number_at}
use Rattle.wef_collector.specs.Memories.{start_of}
use Rattle.wef_collector.specs.declared.memories.Memory.{Memory}

-- the boot number, 0 where none is kept
abbrev pub boot_of : Rows → ℕ
boot_of rows = number_at rows boot_key

-- what a collector remembers that was just started over these rows
abbrev pub memory_begun : Rows → Memory
memory_begun rows = start_of (boot_of rows + 1)
