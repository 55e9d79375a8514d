-- What is done with the store before a command begins.
use Rattle.std.specs.Prelude.{◌≡◌, ◌⊎◌, Bool, true, false, Option, Some, None}
use Rattle.wef_base.specs.Counts.{Rose}
use Rattle.wef_command_line.specs.declared.command.Command.{Command}
use Rattle.wef_command_line.specs.declared.command.Command.TheVariants as the
use Rattle.wef_keeper.specs.Access.{IsReady}
use Rattle.wef_keeper.specs.Keeping.{KeepsRows, Store}

-- whether words ask for a command that uses the store
abbrev pub asks_store : Option Command → Bool
asks_store None = false
asks_store (Some the.Replay) = false
asks_store (Some (the.Made seed size)) = false
asks_store (Some the.Check) = false
asks_store (Some command) = true

-- An opening was refused: memory was wanting, which leaves no doubt, or the store counts a fault. It is opened, and in doubt, as it
-- was before, and nothing of what it tells has changed.
abbrev pub IsRefused : Store → Store → Type 0
IsRefused before now = (now.opened ≡ before.opened) × (now.doubt ≡ before.doubt) × KeepsRows before now × ((now.doubt ≡ false) ⊎ Rose before.faults now.faults)

-- an opening that is done leaves the store opened and without doubt
abbrev pub IsOpening : Store → Store → Type 0
IsOpening before now = IsReady now ⊎ IsRefused before now
