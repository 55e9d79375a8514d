use Rattle.std.proofs.Common.{take_all}
use Rattle.std.proofs.lemmas.List.{take_rest}
use Rattle.std.proofs.lemmas.List.Splits.{slice_split_none}
use Rattle.wef_lines.proofs.Cuts.{none_before}
use Rattle.wef_replay.proofs.Cuts.{cut_at}
use Rattle.wef_replay.proofs.cutting.cut.Goals as goal

pub returns-then-byte-separator : goal.returns-then-byte-separator
returns-then-byte-separator c =
    rw take_rest (cut_at c.args.separator c.loop-at.at c.args.text.now c.loop-at-test.true c.if-byte-separator.true c.loop-at.invariant)

pub loop-at-preserved : goal.loop-at-preserved
loop-at-preserved c = none_before c.args.separator c.loop-at.at c.args.text.now c.loop-at-test.true c.if-byte-separator.false c.loop-at.invariant

pub returns : goal.returns
returns c = slice_split_none _ _ (rw (take_all _ _ c.loop-at-test.false) at c.loop-at.invariant)
