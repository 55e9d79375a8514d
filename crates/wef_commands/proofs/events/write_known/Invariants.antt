use Rattle.std.proofs.Common.{◌≤◌, ◌-◌, IfSome}
use Rattle.wef_keeper.specs.Access.{HasRead}
use Rattle.wef_commands.proofs.PagesJudged.{AreFormedTo}
use Rattle.wef_commands.proofs.PagesWritten.{IsLeftAbove}
use Rattle.wef_commands.proofs.events.write_known.Given as goal

abbrev pub invariant-writing : goal.invariant-writing
invariant-writing g l = record {
  read : HasRead (g.K.Keeper.store l.fn.keeper) (g.K.Keeper.store l.keeper);
  written : IfSome (g.K.Keeper.store l.keeper).rows (IsLeftAbove l.fn.name l.fn.source l.fn.channel (g.O.Sink.taken l.fn.out) (g.O.Sink.taken l.out) l.after);
  judged : IfSome (g.K.Keeper.store l.keeper).rows (AreFormedTo l.fn.name l.fn.source l.fn.channel l.after);
  later : g.O.Sink.faults l.fn.out ≤ g.O.Sink.faults l.out;
}

-- the numbers of a channel's events rise
abbrev pub decreases-writing : goal.decreases-writing
decreases-writing g l = 18446744073709551616 - l.after
