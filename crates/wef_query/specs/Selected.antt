-- The channels that a list of queries speaks of, and those whose events it selects.
use Rattle.std.specs.Prelude.{ℕ, ◌==◌, Bool, false, not, ◌&&◌, List, [], ◌∷◌, Option, Some, None, if◌then◌else◌}
use Rattle.std.specs.List.{list_any}
use Rattle.wef_base.specs.Names.{same}
use Rattle.wef_base.specs.declared.tree.Element.{Element}
use Rattle.wef_query_values.specs.Meaning.{gives}
use Rattle.wef_query_paths.specs.Paths.{path_of}
use Rattle.wef_query_paths.specs.declared.path.Path.{Path}
use Rattle.wef_query.specs.Order.{in_order}
use Rattle.wef_query.specs.Items.{QueryItem}
use Rattle.wef_query.specs.Queries.{is_unconditional}

-- the channels of the Selects, in the items' order
abbrev pub selects : List QueryItem → List (List ℕ)
selects [] = []
selects (item ∷ items) = if item.suppress then selects items else item.channel ∷ selects items

-- the channels of the Selects in the order of their bytes, each once
abbrev pub channels_of : List QueryItem → List (List ℕ)
channels_of items = in_order (selects items)

-- whether a path gives a node of an event; where there is no path there is no node
abbrev pub path_gives : Option Path → Element → Bool
path_gives (Some path) node = gives path node
path_gives None node = false

-- whether what an item says gives a node of an event
abbrev pub item_gives : QueryItem → Element → Bool
item_gives item node = path_gives (path_of item.text) node

-- the item is a Select of the group and channel that gives a node
abbrev pub is_select_of : ℕ → List ℕ → Element → QueryItem → Bool
is_select_of group channel node item = item.group == group && (not item.suppress && (same item.channel channel && item_gives item node))

-- the item is a Suppress of the group and channel that gives a node
abbrev pub is_suppress_of : ℕ → List ℕ → Element → QueryItem → Bool
is_suppress_of group channel node item = item.group == group && (item.suppress && (same item.channel channel && item_gives item node))

-- a Select of the group and channel gives a node
abbrev pub is_asked_for : List QueryItem → ℕ → List ℕ → Element → Bool
is_asked_for items group channel node = list_any (is_select_of group channel node) items

-- a Suppress of the group and channel gives a node
abbrev pub is_suppressed : List QueryItem → ℕ → List ℕ → Element → Bool
is_suppressed items group channel node = list_any (is_suppress_of group channel node) items

-- a Select of the group and channel gives a node, and no Suppress of them does
abbrev pub is_selected_by : List QueryItem → List ℕ → Element → ℕ → Bool
is_selected_by items channel node group = is_asked_for items group channel node && not (is_suppressed items group channel node)

-- whether the event of a channel and a tree is selected: in some group a Select of the channel gives a node of the tree, and no
-- Suppress of the group and channel does
unfoldable pub is_selected : List QueryItem → List ℕ → Element → Bool
is_selected items channel node = list_any (λ (item : QueryItem). is_selected_by items channel node item.group) items

-- the item is a Select that gives a node, and no Suppress of its group and channel does
abbrev pub is_selecting : List QueryItem → List ℕ → Element → QueryItem → Bool
is_selecting items channel node item = is_select_of item.group channel node item && not (is_suppressed items item.group channel node)

-- ---- lists that select all events of a channel, whatever these hold

-- the item is a Suppress of the group and channel
abbrev pub is_suppress_at : ℕ → List ℕ → QueryItem → Bool
is_suppress_at group channel item = item.group == group && (item.suppress && same item.channel channel)

-- the item is a Select of the channel without a condition, and no Suppress of the channel stands in its group
abbrev pub is_asking_for_all : List QueryItem → List ℕ → QueryItem → Bool
is_asking_for_all items channel item =
    (not item.suppress && (same item.channel channel && is_unconditional item)) && not (list_any (is_suppress_at item.group channel) items)

-- one of the items is such a Select
unfoldable pub selects_all : List QueryItem → List ℕ → Bool
selects_all items channel = list_any (is_asking_for_all items channel) items
