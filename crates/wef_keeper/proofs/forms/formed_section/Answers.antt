use Rattle.std.proofs.Common.{◌≡◌, rules, false}
use Rattle.std.specs.List.{list_all}
use Rattle.wef_keeper.specs.Forms.{ArePassed}
use Rattle.wef_keeper.proofs.Forming.{no_section}
use Rattle.wef_keeper.proofs.ReadsOf.{ill_formed}
use Rattle.wef_keeper.proofs.forms.formed_section.Goals as goal

pub returns-then-not-branch-clause-reads : goal.returns-then-not-branch-clause-reads
returns-then-not-branch-clause-reads g c =
    let ill : list_all g.F.Form.passes c.in_ok-section.section ≡ false = search rules in
    let store = g.K.Keeper.store c.section.new.keeper in
    ill_formed (ArePassed g.F.Form.passes) (g.K.Keeper.store c.args.keeper.now) store c.in_ok-section.ensures.reads.0
    (no_section g.F.Form.passes store.rows c.args.depth c.args.after.now c.in_ok-section.section ill c.in_ok-section.ensures.section)
