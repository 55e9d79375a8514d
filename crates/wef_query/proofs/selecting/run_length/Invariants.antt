use Rattle.std.proofs.Common.{◌≡◌, ◌+◌, length}
use Rattle.std.specs.List.{prefix_len}
use Rattle.wef_query.specs.Runs.{is_of}
use Rattle.wef_query.proofs.selecting.run_length.Given as goal

abbrev pub invariant-loop-item : goal.invariant-loop-item
invariant-loop-item l = record {
  counted : l.length + prefix_len (is_of l.group) l.rest ≡ prefix_len (is_of l.group) l.items;
  within : l.length + length l.rest ≡ length l.items;
}

abbrev pub decreases-loop-item : goal.decreases-loop-item
decreases-loop-item l = length l.rest
