use Rattle.std.proofs.Common.{◌≡◌, ◌≤◌, ◌++◌, length, take}
use Rattle.std.specs.BTreeMap.Range.{entries_between}
use Rattle.std.specs.declared.ops.Bound.TheVariants.{Excluded, Unbounded}
use Rattle.wef_keeper.specs.Cells.{standing}
use Rattle.wef_keeper.specs.Rows.{key_cmp}
use Rattle.wef_keeper.specs.Sections.{is_wanted, front}
use Rattle.wef_keeper.proofs.paging.first_rows.Given as goal

-- the rows so far and what is wanted of the entries that are left begin as what is wanted of all
abbrev pub invariant-loop-key : goal.invariant-loop-key
invariant-loop-key l =
    record {
      short : length l.rows.items ≤ l.max;
      read : take l.max (l.rows.items ++ standing (front (λ key. is_wanted l.depth l.after key) l.key-iterator)) ≡ take l.max (standing (front (λ key. is_wanted l.depth l.after key) (entries_between key_cmp (Excluded l.after) Unbounded l.cells.entries)));
    }
