use Rattle.std.proofs.Common.{◌≡◌, subst, sym}
use Rattle.wef_keeper.proofs.Told.{told_both, told_still}
use Rattle.wef_keeper.specs.Calls.{Tells}
use Rattle.wef_collector.specs.Calls.{take_by, take_effect}
use Rattle.wef_collector_rows.specs.Faults.{collector_store}
use Rattle.wef_collector_rows.specs.Judged.{IsFormedAt}
use Rattle.wef_collector_rows.specs.Keys.{subscription_key}
use Rattle.wef_collector_rows.specs.Standing.{standing}
use Rattle.wef_collector_rows.specs.declared.standings.Standing.{Standing}
use Rattle.wef_collector_rows.specs.declared.standings.Standing.TheVariants.{Live}
use Rattle.wef_collector.proofs.CallsAnswered.{take_judged}
use Rattle.wef_collector.proofs.effects.take_changes.Goals as goal

pub returns-clause-effect : goal.returns-clause-effect
returns-clause-effect g c =
    let s = c.in_ok-subscription.subscription in
    let u = c.args.sub.now in
    let source = c.args.source.now in
    let batch = c.args.batch.now in
    let before = g.K.Keeper.store c.live_in.new.keeper in
    let now = g.K.Keeper.store c.live_changes.new.keeper in
    let made = c.live_changes.result in
    let live = told_still before.rows now.rows (λ rows. standing rows u ≡ Live s) c.live_changes.ensures.reads.0.1 c.in_ok-subscription.ensures.ok in
    told_both now.rows (λ rows. standing rows u ≡ Live s) (λ rows. Tells collector_store made (take_by (Live s) rows u source batch c.args.now)) (λ rows. Tells collector_store made (take_effect rows u source batch c.args.now))
    live c.live_changes.ensures.effect
    (λ rows live tells. subst (λ (found : Standing). Tells collector_store made (take_by found rows u source batch c.args.now)) (sym live) tells)

pub returns-clause-judged : goal.returns-clause-judged
returns-clause-judged g c =
    let s = c.in_ok-subscription.subscription in
    let u = c.args.sub.now in
    let before = g.K.Keeper.store c.live_in.new.keeper in
    let now = g.K.Keeper.store c.live_changes.new.keeper in
    let stays = c.live_changes.ensures.reads.0.1 in
    take_judged now.rows c.live_changes.result u c.args.source.now s c.args.batch.now (told_still before.rows now.rows (λ rows. standing rows u ≡ Live s) stays c.in_ok-subscription.ensures.ok)
    (told_still before.rows now.rows (IsFormedAt (subscription_key u)) stays c.in_ok-subscription.ensures.judged) c.live_changes.ensures.judged
