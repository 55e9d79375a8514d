use Rattle.std.proofs.Common.{◌≡◌, drop}
use Rattle.wef_machine.specs.Turns.{lost_each}
use Rattle.wef_places.proofs.slots.lose_each.Given as goal

abbrev pub invariant-loop-name : goal.invariant-loop-name
invariant-loop-name l = record {
  memory : lost_each l.source.memory (drop l.name-index l.names) ≡ lost_each l.fn.source.memory l.names;
  keeper : l.source.keeper ≡ l.fn.source.keeper;
  same_name : l.source.name ≡ l.fn.source.name;
}
