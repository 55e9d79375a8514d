use Rattle.std.proofs.Common.{◌≡◌, ap, sym, ◌∙◌, List}
use Rattle.std.specs.Prelude.{Ok}
use Rattle.wef_keeper.proofs.Told.{told_both, told_still}
use Rattle.wef_keeper.specs.declared.keys.Change.{Change}
use Rattle.wef_collector.specs.Calls.{hear_by, hear_effect}
use Rattle.wef_collector.specs.Taken.{heard_changes}
use Rattle.wef_collector_rows.specs.Standing.{standing}
use Rattle.wef_collector_rows.specs.declared.standings.Standing.{Standing}
use Rattle.wef_collector_rows.specs.declared.standings.Standing.TheVariants.{Live}
use Rattle.wef_collector.proofs.effects.hear_changes.Goals as goal

pub returns-clause-effect : goal.returns-clause-effect
returns-clause-effect g c =
    let s = c.in_ok-_subscription._subscription in
    let u = c.args.sub.now in
    let source = c.args.source.now in
    let before = g.K.Keeper.store c.live_in.new.keeper in
    let now = g.K.Keeper.store c.heard_changes.new.keeper in
    let made = c.in_ok-heard_changes.field-0 in
    let live = told_still before.rows now.rows (λ rows. standing rows u ≡ Live s) c.in_ok-heard_changes.ensures.reads.0.1 c.in_ok-_subscription.ensures.ok in
    told_both now.rows (λ rows. standing rows u ≡ Live s) (λ rows. made ≡ heard_changes rows u source c.args.now) (λ rows. hear_effect rows u source c.args.now ≡ Ok made)
    live c.in_ok-heard_changes.ensures.changes
    (λ rows live is. ap (λ (found : Standing). hear_by found rows u source c.args.now) live ∙ sym (ap (λ (changes : List Change). Ok changes) is))
