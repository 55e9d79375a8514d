-- Texts that a Subscribe holds as they are.
use Rattle.std.specs.Prelude.{ℕ, List}
use Rattle.wef_envelope.specs.declared.actions.TheConstants.{EVENTS, EVENT_QUERY}

-- the mode in which events are delivered in batches (WS-Management, 10.2.9)
unfoldable pub batches : List ℕ
batches = EVENTS.now

-- the dialect of queries
unfoldable pub event_query : List ℕ
event_query = EVENT_QUERY.now
