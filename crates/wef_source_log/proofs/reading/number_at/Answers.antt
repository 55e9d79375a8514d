use Rattle.std.proofs.Common.{◌≡◌, true, subst, Option, IfSome}
use Rattle.wef_keeper.specs.Keeping.{row_at}
use Rattle.wef_keeper.specs.declared.keys.Row.{Row}
use Rattle.wef_keeper.proofs.ReadsOf.{ill_formed}
use Rattle.wef_source_log.specs.Forms.{AreFormed, is_formed}
use Rattle.wef_source_log.proofs.Forming.{no_number}
use Rattle.wef_source_log.proofs.reading.number_at.Goals as goal

pub returns-then-row-gt-MAX-clause-reads : goal.returns-then-row-gt-MAX-clause-reads
returns-then-row-gt-MAX-clause-reads g c =
    let store = g.K.Keeper.store c.formed_row.new.keeper in
    let is = subst (λ (found : Option Row). IfSome store.rows (λ rows. found ≡ row_at c.args.key.now rows)) c.in-Some.is c.in_ok-row.ensures.row in
    let well = subst (λ (found : Option Row). IfSome found (λ row. is_formed row ≡ true)) c.in-Some.is c.in_ok-row.ensures.formed in
    ill_formed AreFormed (g.K.Keeper.store c.args.keeper.now) store c.in_ok-row.ensures.reads.0 (no_number store.rows c.args.key.now c.in-Some.row well c.requires.number c.if-row-gt-MAX.true is)
