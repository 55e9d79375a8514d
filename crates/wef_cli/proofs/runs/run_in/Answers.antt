use Rattle.std.proofs.Common.{rules, ◌≡◌, ◌∷◌, [], sym, subst, ◌∙◌, arith}
use Rattle.std.proofs.lemmas.List.{nil_from_length}
use Rattle.std.specs.Io.KnownBytes.{Appends}
use Rattle.wef_machine.specs.States.{State}
use Rattle.wef_machine.specs.Steps.{AreAdmitted, trail_from}
use Rattle.wef_commands.specs.Streams.{WritesPart}
use Rattle.wef_commands.proofs.Written.{all_written, further, part, part_further, whole_is_part}
use Rattle.wef_cli.proofs.LinesDone.{line_done, lines_done}
use Rattle.wef_cli.proofs.runs.run_in.Goals as goal

-- memory is wanting
pub returns-in-Err-clause-part : goal.returns-in-Err-clause-part
returns-in-Err-clause-part g c = part _ _ (trail_from c.args.world.now.held c.args.lines) _ c.loop-line.invariant.written

-- a line is done
pub loop-line-preserved : goal.loop-line-preserved
loop-line-preserved g c =
    let whole = trail_from c.args.world.now.held c.args.lines in
    let rest = c.next.new.self.rest.items in
    let first : c.loop-line.line-iterator.rest.items ≡ c.in-Some.line ∷ rest = search rules in
    let so_far = line_done _ _ whole c.loop-line.waiting c.run_one.new.waiting c.loop-line.world.held c.run_one.new.world.held c.in-Some.line _ rest first c.in-Ok.ensures.state c.in-Ok.ensures.printed c.loop-line.invariant.written in
    record {
      written = further _ _ _ whole c.run_one.new.waiting c.write_enough.new.waiting (trail_from c.run_one.new.world.held rest) so_far c.in-Ok-write_enough.ensures.ok;
      admitted = subst (λ (s : State). AreAdmitted s rest) (sym c.in-Ok.ensures.state) (subst (AreAdmitted c.loop-line.world.held) first c.loop-line.invariant.admitted).1;
      later = omega (arith, c.loop-line.invariant.later, c.write_enough.ensures.later);
    }

-- the output fails behind a line
pub returns-in-Err-write_enough-clause-part : goal.returns-in-Err-write_enough-clause-part
returns-in-Err-write_enough-clause-part g c =
    let whole = trail_from c.args.world.now.held c.args.lines in
    let first : c.loop-line.line-iterator.rest.items ≡ c.in-Some.line ∷ c.next.new.self.rest.items = search rules in
    part_further _ _ _ whole c.run_one.new.waiting (trail_from c.run_one.new.world.held c.next.new.self.rest.items)
    (line_done _ _ whole c.loop-line.waiting c.run_one.new.waiting c.loop-line.world.held c.run_one.new.world.held c.in-Some.line _ c.next.new.self.rest.items first c.in-Ok.ensures.state c.in-Ok.ensures.printed c.loop-line.invariant.written)
    c.write_enough.ensures.part

-- all lines are done
pub returns-in-Ok-write_whole-clause-ok : goal.returns-in-Ok-write_whole-clause-ok
returns-in-Ok-write_whole-clause-ok g c =
    let whole = trail_from c.args.world.now.held c.args.lines in
    let none = nil_from_length c.loop-line.line-iterator.rest.items (sym c.loop-line.line-iterator.rest.ok.0 ∙ c.in-None.ensures.steps.0) in
    all_written _ _ _ whole c.loop-line.waiting (lines_done _ _ whole c.loop-line.waiting c.loop-line.world.held _ none c.loop-line.invariant.written)
    (subst (Appends (g.O.Sink.taken c.loop-line.out) (g.O.Sink.taken c.write_whole.new.out)) c.as_slice.ensures c.in-Ok-write_whole.ensures.ok)

pub returns-in-Ok-write_whole-clause-part : goal.returns-in-Ok-write_whole-clause-part
returns-in-Ok-write_whole-clause-part g c = whole_is_part _ _ (trail_from c.args.world.now.held c.args.lines) (returns-in-Ok-write_whole-clause-ok g c)

-- the output fails at last
pub returns-clause-part : goal.returns-clause-part
returns-clause-part g c =
    let whole = trail_from c.args.world.now.held c.args.lines in
    let none = nil_from_length c.loop-line.line-iterator.rest.items (sym c.loop-line.line-iterator.rest.ok.0 ∙ c.in-None.ensures.steps.0) in
    part_further _ _ _ whole c.loop-line.waiting [] (lines_done _ _ whole c.loop-line.waiting c.loop-line.world.held _ none c.loop-line.invariant.written)
    (subst (WritesPart (g.O.Sink.taken c.loop-line.out) (g.O.Sink.taken c.write_whole.new.out)) c.as_slice.ensures c.write_whole.ensures.part)
