use Rattle.wef_promises.proofs.Lasting.{bookmarks_never_fall, subscriptions_stay}
use Rattle.wef_promises.proofs.laws.nothing_is_forgotten.Goals as goal

pub returns : goal.returns
returns c = record { subscriptions = subscriptions_stay; bookmarks = bookmarks_never_fall }
