-- Items of one group that stand together.
use Rattle.std.specs.Prelude.{ℕ, ◌==◌, nat_le, Bool, true, not, ◌&&◌, List, [], ◌∷◌}
use Rattle.wef_base.specs.Names.{same}
use Rattle.wef_base.specs.declared.tree.Element.{Element}
use Rattle.wef_query.specs.Items.{QueryItem}
use Rattle.wef_query.specs.Queries.{is_unconditional}
use Rattle.wef_query.specs.Selected.{is_select_of}

-- no item is of a lower group than the one before it, and the first of none lower than the given one; so the items of each group
-- stand together
abbrev pub never_fall : ℕ → List QueryItem → Bool
never_fall group [] = true
never_fall group (item ∷ items) = nat_le group item.group && never_fall item.group items

-- the item is of the group
abbrev pub is_of : ℕ → QueryItem → Bool
is_of group item = item.group == group

-- the item is a Select of the channel that gives a node
abbrev pub is_giving_select : List ℕ → Element → QueryItem → Bool
is_giving_select channel node item = is_select_of item.group channel node item

-- the item is a Select of the channel without a condition
abbrev pub is_select_of_all : List ℕ → QueryItem → Bool
is_select_of_all channel item = not item.suppress && (same item.channel channel && is_unconditional item)
