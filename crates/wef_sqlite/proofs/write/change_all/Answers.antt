-- One change more is made behind those before it.
use Rattle.std.proofs.Common.{◌≡◌, ◌∙◌, ◌+◌, sym, ap, subst, take, arith, [], ◌∷◌, ◌++◌}
use Rattle.std.proofs.lemmas.List.{take_more}
use Rattle.sqlite.proofs.InsideLemmas.{keeps_then}
use Rattle.sqlite.specs.Held.{state}
use Rattle.wef_sqlite.specs.Makes.{MakesAll}
use Rattle.wef_sqlite.proofs.Making.{makes_more}
use Rattle.wef_sqlite.proofs.Plain.{clean_before, survives_reads}
use Rattle.wef_sqlite.proofs.write.change_all.Goals as goal

pub loop-change-preserved : goal.loop-change-preserved
loop-change-preserved g c =
    let first = c.args.tx.now.conn.now in
    let before = c.loop-change.tx.conn.now in
    let now = c.make.new.tx.conn.now in
    let changes = c.args.changes.now in
    let index = c.loop-change.change-index in
    let change = c.change-item.result in
    let front : take (index + 1) changes ≡ take index changes ++ change ∷ [] =
    take_more changes index change (omega arith) ∙ ap (λ y. take index changes ++ y ∷ []) (sym c.change-item.is) in
    let inv = c.loop-change.invariant in
    record {
      same_reference = c.make.ensures.same_reference ∙ inv.same_reference;
      makes = λ clean inside.
          let so_far = inv.makes (clean_before (state g.S.Store before) (state g.S.Store now) c.make.ensures.survives clean) inside in
          let made = c.in_ok-make.ensures.makes clean so_far.1 in
          (subst (λ all. MakesAll g.S.Store all first now) (sym front) (makes_more g.S.Store (take index changes) change first before now so_far.0 made.0), made.1);
      keeps = λ clean inside.
          let late = clean_before (state g.S.Store before) (state g.S.Store now) c.make.ensures.survives clean in
          keeps_then (state g.S.Store first) (state g.S.Store before) (state g.S.Store now) (inv.keeps late inside) (c.make.ensures.keeps clean (inv.makes late inside).1);
      survives = survives_reads (state g.S.Store first) (state g.S.Store before) (state g.S.Store now) inv.survives c.make.ensures.survives;
    }

pub returns-in_err-make-clause-keeps : goal.returns-in_err-make-clause-keeps
returns-in_err-make-clause-keeps g c clean inside =
    let first = c.args.tx.now.conn.now in
    let before = c.loop-change.tx.conn.now in
    let now = c.make.new.tx.conn.now in
    let inv = c.loop-change.invariant in
    let late = clean_before (state g.S.Store before) (state g.S.Store now) c.make.ensures.survives clean in
    keeps_then (state g.S.Store first) (state g.S.Store before) (state g.S.Store now) (inv.keeps late inside) (c.make.ensures.keeps clean (inv.makes late inside).1)
