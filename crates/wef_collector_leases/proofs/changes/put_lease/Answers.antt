use Rattle.std.proofs.Common.{◌≡◌, ◌∙◌}
use Rattle.wef_collector_rows.specs.Keys.{lease_key}
use Rattle.wef_collector_leases.proofs.LeaseRows.{lease_row}
use Rattle.wef_collector_leases.proofs.changes.put_lease.Goals as goal

pub put-requires-clause-form : goal.put-requires-clause-form
put-requires-clause-form c =
    let key : c.in_ok-lease_key.field-0 ≡ lease_key c.args.sub.now c.args.source.now = c.in_ok-lease_key.ensures ∙ (λ i. lease_key (c.as_text-sub.ensures.value i) (c.as_text-source.ensures.value i)) in
    lease_row c.args.sub.now c.args.source.now c.args.lease.identifier c.args.lease.expiry c.in_ok-lease_key.field-0 key c.as_text-sub.ensures.kept c.as_text-source.ensures.kept c.requires.expiry c.requires.allowed
