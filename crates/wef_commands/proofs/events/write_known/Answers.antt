use Rattle.std.proofs.Common.{rules, ◌<◌, ◌∙◌, length, subst, arith}
use Rattle.std.specs.Io.KnownBytes.{Appends}
use Rattle.wef_collector_rows.specs.Held.{held_rows}
use Rattle.wef_commands.specs.Streams.{WritesPart}
use Rattle.wef_commands.specs.declared.ending.Ending.TheVariants as ends
use Rattle.wef_commands.proofs.PagesJudged.{judges_nothing, last_read, none_read, page_read, page_said}
use Rattle.wef_commands.proofs.PagesWritten.{all_left, ended_behind, failed_behind, stopped, written_behind}
use Rattle.wef_commands.proofs.events.write_known.Goals as goal

pub writing-init : goal.writing-init
writing-init g c = record {
  read = search rules;
  written = all_left c.args.name.now c.args.source.now c.args.channel.now (g.O.Sink.taken c.args.out.now) (g.K.Keeper.store c.args.keeper.now).rows;
  judged = none_read c.args.name.now c.args.source.now c.args.channel.now (g.K.Keeper.store c.args.keeper.now).rows;
  later = omega arith;
}

-- the page can't be read
pub returns-in-Err-NoMemory-clause-wrote : goal.returns-in-Err-NoMemory-clause-wrote
returns-in-Err-NoMemory-clause-wrote g c =
    stopped c.args.name.now c.args.source.now c.args.channel.now (g.O.Sink.taken c.args.out.now) (g.O.Sink.taken c.writing.out) (g.K.Keeper.store c.writing.keeper).rows
    (g.K.Keeper.store c.held_page.new.keeper).rows c.writing.after c.in-Err-NoMemory.ensures.reads.0.1 c.writing.invariant.written

pub returns-in-Err-Failed-clause-wrote : goal.returns-in-Err-Failed-clause-wrote
returns-in-Err-Failed-clause-wrote g c =
    stopped c.args.name.now c.args.source.now c.args.channel.now (g.O.Sink.taken c.args.out.now) (g.O.Sink.taken c.writing.out) (g.K.Keeper.store c.writing.keeper).rows
    (g.K.Keeper.store c.held_page.new.keeper).rows c.writing.after c.in-Err-Failed.ensures.reads.0.1 c.writing.invariant.written

pub returns-in-Err-NoMemory-clause-judged : goal.returns-in-Err-NoMemory-clause-judged
returns-in-Err-NoMemory-clause-judged g c =
    judges_nothing (g.K.Keeper.store c.held_page.new.keeper).rows ends.NoMemory (λ rows. held_rows rows c.args.name.now c.args.source.now c.args.channel.now 0) (λ rows. tt)

pub returns-in-Err-Failed-clause-judged : goal.returns-in-Err-Failed-clause-judged
returns-in-Err-Failed-clause-judged g c =
    judges_nothing (g.K.Keeper.store c.held_page.new.keeper).rows ends.StoreFailed (λ rows. held_rows rows c.args.name.now c.args.source.now c.args.channel.now 0) (λ rows. tt)

-- there is no memory for its lines
pub returns-in-Err-clause-judged : goal.returns-in-Err-clause-judged
returns-in-Err-clause-judged g c =
    judges_nothing (g.K.Keeper.store c.held_page.new.keeper).rows ends.NoMemory (λ rows. held_rows rows c.args.name.now c.args.source.now c.args.channel.now 0) (λ rows. tt)

pub returns-in-Err-clause-wrote : goal.returns-in-Err-clause-wrote
returns-in-Err-clause-wrote g c =
    stopped c.args.name.now c.args.source.now c.args.channel.now (g.O.Sink.taken c.args.out.now) (g.O.Sink.taken c.writing.out) (g.K.Keeper.store c.writing.keeper).rows
    (g.K.Keeper.store c.held_page.new.keeper).rows c.writing.after c.in-Ok.ensures.reads.0.1 c.writing.invariant.written

-- the last page
pub returns-then-is_last-clause-wrote : goal.returns-then-is_last-clause-wrote
returns-then-is_last-clause-wrote g c =
    let short : length c.in-Ok.page < 64 = omega (arith, c.len.ensures, c.if-is_last.true) in
    ended_behind c.args.name.now c.args.source.now c.args.channel.now (g.O.Sink.taken c.args.out.now) (g.O.Sink.taken c.writing.out) (g.K.Keeper.store c.writing.keeper).rows
    (g.K.Keeper.store c.held_page.new.keeper).rows c.writing.after c.in-Ok.page c.in-Ok-page_text.text c.in-Ok.ensures.reads.0.1 c.writing.invariant.written
    (rw c.as_slice-events.ensures at c.in-Ok-page_text.ensures)
    64 c.write_last.result (g.O.Sink.taken c.write_last.new.out) (g.O.Sink.faults c.args.out.now) (g.O.Sink.faults c.writing.out) (g.O.Sink.faults c.write_last.new.out)
    short c.in-Ok.ensures.page c.in-Ok.ensures.rest c.write_last.ensures

pub returns-then-is_last-clause-judged : goal.returns-then-is_last-clause-judged
returns-then-is_last-clause-judged g c =
    let short : length c.in-Ok.page < 64 = omega (arith, c.len.ensures, c.if-is_last.true) in
    let u = c.args.name.now in
    let s = c.args.source.now in
    let channel = c.args.channel.now in
    let before = (g.K.Keeper.store c.writing.keeper).rows in
    let now = (g.K.Keeper.store c.held_page.new.keeper).rows in
    last_read u s channel before now 64 c.writing.after c.in-Ok.page c.in-Ok.ensures.reads.0.1 c.writing.invariant.judged c.write_last.result short
    (page_said u s channel before now 64 c.writing.after c.in-Ok.page c.in-Ok.ensures.reads.0.1 c.writing.invariant.judged c.in-Ok.ensures.page c.in-Ok.ensures.rest_of_rows c.in-Ok.ensures.judged)

-- the output fails behind a page
pub returns-in-Err-write_whole-clause-judged : goal.returns-in-Err-write_whole-clause-judged
returns-in-Err-write_whole-clause-judged g c =
    judges_nothing (g.K.Keeper.store c.held_page.new.keeper).rows ends.OutputFailed (λ rows. held_rows rows c.args.name.now c.args.source.now c.args.channel.now 0) (λ rows. tt)

pub returns-in-Err-write_whole-clause-wrote : goal.returns-in-Err-write_whole-clause-wrote
returns-in-Err-write_whole-clause-wrote g c =
    failed_behind c.args.name.now c.args.source.now c.args.channel.now (g.O.Sink.taken c.args.out.now) (g.O.Sink.taken c.writing.out) (g.K.Keeper.store c.writing.keeper).rows
    (g.K.Keeper.store c.held_page.new.keeper).rows c.writing.after c.in-Ok.page c.in-Ok-page_text.text c.in-Ok.ensures.reads.0.1 c.writing.invariant.written
    (rw c.as_slice-events.ensures at c.in-Ok-page_text.ensures)
    (g.O.Sink.taken c.write_whole.new.out) c.in-Ok.ensures.rest
    (subst (WritesPart (g.O.Sink.taken c.writing.out) (g.O.Sink.taken c.write_whole.new.out)) (c.as_bytes.ensures.value ∙ c.as_str.ensures) c.write_whole.ensures.part)

-- a page is written
pub writing-preserved : goal.writing-preserved
writing-preserved g c =
    let u = c.args.name.now in
    let s = c.args.source.now in
    let channel = c.args.channel.now in
    let before = (g.K.Keeper.store c.writing.keeper).rows in
    let now = (g.K.Keeper.store c.held_page.new.keeper).rows in
    let b = g.O.Sink.taken c.writing.out in
    let d = g.O.Sink.taken c.write_whole.new.out in
    let last = rw c.as_slice-events.ensures at c.last_number_of-after.ensures in
    record {
      read = search rules;
      written = written_behind u s channel (g.O.Sink.taken c.args.out.now) b before now c.writing.after c.in-Ok.page c.in-Ok-page_text.text c.in-Ok.ensures.reads.0.1 c.writing.invariant.written
          (rw c.as_slice-events.ensures at c.in-Ok-page_text.ensures)
          d c.last_number_of-after.result c.in-Ok.ensures.rest (subst (Appends b d) (c.as_bytes.ensures.value ∙ c.as_str.ensures) c.in-Ok-write_whole.ensures.ok) last;
      judged = page_read u s channel before now 64 c.writing.after c.in-Ok.page c.in-Ok.ensures.reads.0.1 c.writing.invariant.judged c.last_number_of-after.result
          (page_said u s channel before now 64 c.writing.after c.in-Ok.page c.in-Ok.ensures.reads.0.1 c.writing.invariant.judged c.in-Ok.ensures.page c.in-Ok.ensures.rest_of_rows c.in-Ok.ensures.judged)
          last;
      later = omega (arith, c.writing.invariant.later, c.in-Ok-write_whole.ensures.later);
    }

pub writing-smaller : goal.writing-smaller
writing-smaller g c =
    let some : 0 < length c.in-Ok.page = omega (arith, c.len.ensures, c.if-is_last.false) in
    let rises = c.in-Ok.ensures.rises some in
    let last = rw c.as_slice-events.ensures at c.last_number_of-after.ensures in
    let next : c.last_number_of-after.result < 18446744073709551616 = omega arith in
    omega (arith, rises, last, next)
