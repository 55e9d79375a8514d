use Rattle.std.proofs.Common.{◌≡◌, ◌∙◌}
use Rattle.wef_keeper.specs.Access.{fails}
use Rattle.wef_keeper.proofs.ReadsOf.{tested}
use Rattle.wef_collector_rows.specs.Forms.{AreFormed}
use Rattle.wef_collector_rows.specs.Keys.{lease_key}
use Rattle.wef_collector_leases.proofs.LeaseRows.{no_lease}
use Rattle.wef_collector_leases.proofs.leases.read_lease.Goals as goal

pub returns-in-Some-clause-reads : goal.returns-in-Some-clause-reads
returns-in-Some-clause-reads g c =
    let now = g.K.Keeper.store c.formed_cell.new.keeper in
    let key : c.in_ok-key.key ≡ lease_key c.args.sub.now c.args.source.now = c.in_ok-key.ensures ∙ (λ i. lease_key (c.as_text.ensures.value i) (c.as_text-2.ensures.value i)) in
    tested AreFormed (fails c.lease_of.result) (g.K.Keeper.store c.args.keeper.now) now c.in_ok-cell.ensures.reads.0
    (λ failed. no_lease now.rows c.in_ok-key.key c.args.sub.now c.args.source.now c.in-Some.cell key (c.lease_of.ensures.failed failed) (rw c.in-Some.is at c.in_ok-cell.ensures.cell))
