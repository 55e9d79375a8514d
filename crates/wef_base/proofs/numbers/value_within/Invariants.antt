use Rattle.std.proofs.Common.{◌≡◌, ◌≤◌, drop}
use Rattle.wef_base.specs.Numbers.{value_from}
use Rattle.wef_base.proofs.numbers.value_within.Given as goal

abbrev pub invariant-loop-digit : goal.invariant-loop-digit
invariant-loop-digit l = record {
  so_far : value_from l.value (drop l.digit-index l.digits) ≡ value_from 0 l.digits;
  within : l.value ≤ l.limit;
}
