use Rattle.wef_eventing.proofs.AllEvents.{parts_are_one}
use Rattle.wef_eventing.proofs.subscriptions.Subscription.all_events.Goals as goal

pub returns-clause-is_one : goal.returns-clause-is_one
returns-clause-is_one c =
    parts_are_one c.args.name c.args.channels c.args.max_items c.args.max_bytes c.args.heartbeat _ _ c.in_ok-query.ensures c.new.ensures
