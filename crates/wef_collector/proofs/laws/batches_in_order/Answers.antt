use Rattle.wef_collector.proofs.Batches.{events_are_held, bookmark_moves, bookmark_never_falls, others_stay}
use Rattle.wef_collector.proofs.laws.batches_in_order.Goals as goal

pub returns : goal.returns
returns c = record { events = events_are_held; bookmark = bookmark_moves; never_falls = bookmark_never_falls; others = others_stay }
