-- The addresses of commands.
use Rattle.wef_command_line.specs.declared.command.Command.{Command}
use Rattle.wef_command_line.specs.declared.command.Command.TheVariants as the
use Rattle.wef_eventing.specs.Addresses.{IsHost}

-- the address that a source asks at is a host, and so is that of a collector that asks
abbrev pub HasHost : Command → Type 0
HasHost (the.Forward address s number) = IsHost address
HasHost (the.Request address number) = IsHost address
HasHost _ = Unit {0}
