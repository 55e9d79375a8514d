use Rattle.wef_keeper.specs.Access.{fails}
use Rattle.wef_keeper.proofs.ReadsOf.{may_be_ill}
use Rattle.wef_collector_rows.specs.Forms.{AreFormed}
use Rattle.wef_collector_rows.proofs.SubscriptionRows.{no_standing, standing_found, standing_judged}
use Rattle.wef_collector_rows.proofs.standings.standing_in.Goals as goal

pub returns-in-Some-clause-standing : goal.returns-in-Some-clause-standing
returns-in-Some-clause-standing g c =
    standing_found c.standing_of.result (g.K.Keeper.store c.row.new.keeper).rows c.in_ok-key.key c.args.sub.now c.in-Some.row c.in_ok-key.ensures (rw c.in-Some.is at c.in_ok-row.ensures.row) c.standing_of.ensures.standing

pub returns-in-Some-clause-judged : goal.returns-in-Some-clause-judged
returns-in-Some-clause-judged g c =
    standing_judged c.standing_of.result (g.K.Keeper.store c.row.new.keeper).rows c.in_ok-key.key c.args.sub.now c.in-Some.row c.in_ok-key.ensures (rw c.in-Some.is at c.in_ok-row.ensures.row) c.standing_of.ensures.formed

pub returns-in-Some-clause-reads : goal.returns-in-Some-clause-reads
returns-in-Some-clause-reads g c =
    let now = g.K.Keeper.store c.row.new.keeper in
    may_be_ill AreFormed (fails c.standing_of.result) (g.K.Keeper.store c.args.keeper.now) now c.in_ok-row.ensures.reads
    (λ failed. no_standing now.rows c.in_ok-key.key c.args.sub.now c.in-Some.row c.in_ok-key.ensures (c.standing_of.ensures.failed failed) (rw c.in-Some.is at c.in_ok-row.ensures.row))
