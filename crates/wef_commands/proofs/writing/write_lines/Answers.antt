use Rattle.std.proofs.Common.{◌+◌, arith}
use Rattle.wef_commands.specs.Checking.{lines_of}
use Rattle.wef_commands.specs.Writing.{events_of}
use Rattle.wef_commands.proofs.LinesWritten.{good_behind, line_done, line_stops, none_yet}
use Rattle.wef_commands.proofs.writing.write_lines.Goals as goal

pub loop-rest-init : goal.loop-rest-init
loop-rest-init g c = record {
  so_far = none_yet (events_of (lines_of c.args.text.now)) (g.O.Sink.taken c.args.out.now) (g.K.Keeper.store c.args.log.now.keeper);
  good = c.requires;
  later = omega arith;
  counted = omega arith;
}

-- it ends at a line
pub returns-in-Err : goal.returns-in-Err
returns-in-Err g c =
    line_stops (events_of (lines_of c.args.text.now)) (lines_of c.loop-rest.rest.now) c.cut.result.0.now (lines_of c.cut.result.1.now) c.loop-rest.number c.in-Err.ending
    (g.O.Sink.taken c.args.out.now) (g.O.Sink.taken c.loop-rest.out) (g.O.Sink.taken c.write_line.new.out)
    (g.O.Sink.faults c.args.out.now) (g.O.Sink.faults c.loop-rest.out) (g.O.Sink.faults c.write_line.new.out)
    (g.K.Keeper.store c.args.log.now.keeper) (g.K.Keeper.store c.loop-rest.log.keeper) (g.K.Keeper.store c.write_line.new.log.keeper)
    c.cut.ensures.first c.loop-rest.invariant.good c.loop-rest.invariant.so_far c.loop-rest.invariant.later c.in-Err.ensures.turn

-- the event of a line is written and told
pub loop-rest-preserved : goal.loop-rest-preserved
loop-rest-preserved g c =
    let all = lines_of c.loop-rest.rest.now in
    let line = c.cut.result.0.now in
    let lines = lines_of c.cut.result.1.now in
    let count = c.loop-rest.number in
    record {
      so_far =
          line_done (events_of (lines_of c.args.text.now)) all line lines count c.in-Ok.field-0
          (g.O.Sink.taken c.args.out.now) (g.O.Sink.taken c.loop-rest.out) (g.O.Sink.taken c.write_line.new.out) (g.O.Sink.faults c.loop-rest.out) (g.O.Sink.faults c.write_line.new.out)
          (g.K.Keeper.store c.args.log.now.keeper) (g.K.Keeper.store c.loop-rest.log.keeper) (g.K.Keeper.store c.write_line.new.log.keeper)
          c.cut.ensures.first c.loop-rest.invariant.good c.loop-rest.invariant.so_far c.in-Ok.ensures.turn;
      good = good_behind (count + 1) all line lines c.cut.ensures.first c.loop-rest.invariant.good;
      later = omega (arith, c.loop-rest.invariant.later, c.write_line.ensures.later);
      counted = omega (arith, c.loop-rest.invariant.counted, c.cut.ensures.shorter);
    }
