use Rattle.std.proofs.Common.{◌≡◌, rules, false}
use Rattle.wef_keeper.specs.Forms.{ArePassed}
use Rattle.wef_keeper.proofs.Forming.{no_row}
use Rattle.wef_keeper.proofs.ReadsOf.{ill_formed}
use Rattle.wef_keeper.proofs.forms.formed_row.Goals as goal

pub returns-then-not-branch-clause-reads : goal.returns-then-not-branch-clause-reads
returns-then-not-branch-clause-reads g c =
    let ill : g.F.Form.passes c.in-Some.row ≡ false = search rules in
    let store = g.K.Keeper.store c.row.new.keeper in
    ill_formed (ArePassed g.F.Form.passes) (g.K.Keeper.store c.args.keeper.now) store c.in_ok-row.ensures.reads.0
    (no_row g.F.Form.passes store.rows c.args.key.now c.in-Some.row ill (search rules))
