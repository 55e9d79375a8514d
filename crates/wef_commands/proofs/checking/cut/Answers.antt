use Rattle.std.proofs.Common.{take_all}
use Rattle.std.proofs.lemmas.List.{take_rest}
use Rattle.wef_lines.proofs.Cuts.{none_before}
use Rattle.wef_commands.proofs.Checked.{first_line, last_line}
use Rattle.wef_commands.proofs.checking.cut.Goals as goal

pub returns-then-byte-eq10-clause-first : goal.returns-then-byte-eq10-clause-first
returns-then-byte-eq10-clause-first c =
    rw take_rest (first_line c.loop-at.at c.args.text.now c.loop-at-test.true c.if-byte-eq10.true c.loop-at.invariant)

pub loop-at-preserved : goal.loop-at-preserved
loop-at-preserved c = none_before 10 c.loop-at.at c.args.text.now c.loop-at-test.true c.if-byte-eq10.false c.loop-at.invariant

pub returns-clause-first : goal.returns-clause-first
returns-clause-first c =
    rw take_rest (last_line c.args.text.now c.requires (rw (take_all _ _ c.loop-at-test.false) at c.loop-at.invariant))
