use Rattle.std.proofs.Common.{true}
use Rattle.wef_event.specs.Events.{event_of, event_or_none}
use Rattle.wef_batch.proofs.Opened.{given_is_found, opened}
use Rattle.wef_batch.proofs.reading.event_of_root.Goals as goal

pub returns : goal.returns
returns c =
    opened c.event_of_node.result (event_or_none (event_of true c.args.root.now)) c.unless_refused.result
    (given_is_found c.event_of_node.result (event_of true c.args.root.now) c.event_of_node.ensures) c.unless_refused.ensures
