-- The lists of queries that ask for all events of channels.
use Rattle.std.specs.Prelude.{ℕ, Bool, false, List, codes, map}
use Rattle.wef_base.specs.Names.{same}
use Rattle.wef_query.specs.Items.{QueryItem}

-- the query that asks for all events of a channel, in group 0
abbrev pub all_events : List ℕ → QueryItem
all_events channel = record { group = 0; suppress = false; channel = channel; text = codes "*" }

-- one such query a channel, in order
abbrev pub all_events_of : List (List ℕ) → List QueryItem
all_events_of channels = map all_events channels

-- whether an item sets no condition: each event of its channel meets it
abbrev pub is_unconditional : QueryItem → Bool
is_unconditional item = same item.text (codes "*")
