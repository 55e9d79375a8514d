use Rattle.std.proofs.Common.{refl}
use Rattle.wef_collector_rows.specs.Keys.{subscription_key}
use Rattle.wef_collector.proofs.FormedRows.{as_row, is_subscription, subscription_row}
use Rattle.wef_collector.proofs.effects.put_subscription.Goals as goal

pub one_put-requires-clause-form : goal.one_put-requires-clause-form
one_put-requires-clause-form c =
    as_row (subscription_key c.args.sub.now) c.in_ok-key.key c.args.value c.args.body c.args.body c.in_ok-key.ensures refl
    (subscription_row c.args.sub.now c.args.body c.args.value c.requires.value (is_subscription c.args.sub.now c.as_text-text.ensures.kept) c.requires.kept)
