use Rattle.std.proofs.Common.{◌≡◌, ◌≤◌, drop, min}
use Rattle.wef_base.specs.Numbers.{value_from}
use Rattle.wef_times.proofs.digits.value_up_to.Given as goal

abbrev pub invariant-loop-digit : goal.invariant-loop-digit
invariant-loop-digit l = record {
  so_far : min (value_from l.value (drop l.digit-index l.digits)) l.limit ≡ min (value_from 0 l.digits) l.limit;
  within : l.value ≤ l.limit;
}
