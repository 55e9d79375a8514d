use Rattle.std.proofs.Common.{◌≡◌, ◌-◌, ◌++◌, IfSome, length}
use Rattle.wef_keeper.specs.Access.{HasRead}
use Rattle.wef_keeper.specs.Sections.{rows_under}
use Rattle.wef_keeper.proofs.access.section.Given as goal

abbrev pub invariant-loop-last : goal.invariant-loop-last
invariant-loop-last g l =
    record {
      reads : HasRead (g.K.Keeper.store l.fn.keeper) (g.K.Keeper.store l.keeper);
      read : IfSome (g.K.Keeper.store l.keeper).rows (λ rows. l.section ++ rows_under l.depth l.last rows ≡ rows_under l.depth l.after rows);
    }

abbrev pub decreases-loop-last : goal.decreases-loop-last
decreases-loop-last g l = 18446744073709551616 - length l.section
