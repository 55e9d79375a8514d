use Rattle.std.proofs.Common.{◌≡◌, drop}
use Rattle.wef_machine.specs.Turns.{lose_each}
use Rattle.wef_world.proofs.ends.Ends.lose_each.Given as goal

-- the sources that are left are the whole
abbrev pub invariant-loop-name : goal.invariant-loop-name
invariant-loop-name l = lose_each l.self (drop l.name-index l.names) ≡ lose_each l.fn.self l.fn.names
