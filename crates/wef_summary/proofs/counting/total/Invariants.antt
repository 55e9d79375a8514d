use Rattle.std.proofs.Common.{◌≡◌, ◌≤◌, ◌+◌, ◌*◌, drop}
use Rattle.wef_summary.specs.Summary.{sum_of}
use Rattle.wef_summary.proofs.counting.total.Given as goal

abbrev pub invariant-loop-number : goal.invariant-loop-number
invariant-loop-number l = record {
  so_far : l.total + sum_of (λ n. n) (drop l.number-index l.numbers) ≡ sum_of (λ n. n) l.numbers;
  small : l.total ≤ l.number-index * 18446744073709551615;
}
