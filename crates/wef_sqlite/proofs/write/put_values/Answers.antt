-- The columns of a row say the row: its texts are texts, and its numbers are kept.
use Rattle.std.proofs.Common.{false, subst}
use Rattle.sqlite.proofs.InsideLemmas.{inside_keeps}
use Rattle.sqlite.specs.Held.{state}
use Rattle.std.specs.Str.{IsUtf8}
use Rattle.wef_sqlite.proofs.Reading.{half, values_read}
use Rattle.wef_sqlite.proofs.write.put_values.Goals as goal

pub returns-clause-reads : goal.returns-clause-reads
returns-clause-reads g c =
    let row = c.args.row.now in
    values_read row c.kind_number.ensures.small (half c.args.number row.key.number c.ranges.number.sfits c.requires.number)
    (subst IsUtf8 c.as_str.ensures c.as_str.utf8) (subst IsUtf8 c.as_str-2.ensures c.as_str-2.utf8)
    (subst IsUtf8 c.as_str-3.ensures c.as_str-3.utf8) (subst IsUtf8 c.as_str-4.ensures c.as_str-4.utf8)

pub returns-clause-keeps : goal.returns-clause-keeps
returns-clause-keeps g c clean inside =
    inside_keeps (state g.S.Store c.args.tx.now.conn.now) (state g.S.Store c.execute.new.self.conn.now) 0 false _ _ _ (c.execute.ensures.runs clean inside)
