-- The tree that a list of queries is written as. Items that stand together and are of one group are in one Query.
use Rattle.std.specs.Prelude.{ℕ, ◌==◌, Bool, List, [], ◌∷◌, ◌++◌, codes, if◌then◌else◌}
use Rattle.std.specs.Fmt.{decimal}
use Rattle.wef_base.specs.declared.tree.Attribute.{Attribute}
use Rattle.wef_base.specs.declared.tree.Element.{Element}
use Rattle.wef_elements.specs.Children.{as_nodes, with_attributes, with_elements}
use Rattle.wef_query.specs.Items.{QueryItem}

-- an attribute without a namespace
abbrev pub plain : List ℕ → List ℕ → Attribute
plain name value = record { space = []; name = name; value = value }

-- what the element of an item is called
abbrev pub item_name : Bool → List ℕ
item_name suppress = if suppress then codes "Suppress" else codes "Select"

-- the element of an item
abbrev pub item_element : QueryItem → Element
item_element item = with_attributes [] (item_name item.suppress) (plain (codes "Path") item.channel ∷ []) item.text

-- the element of a group, which holds those of its items
abbrev pub group_element : ℕ → List Element → Element
group_element group es = record { space = []; name = codes "Query"; attributes = plain (codes "Id") (decimal group) ∷ []; children = as_nodes es }

-- the elements of groups: that of a group of which some elements stand already, and those of items behind these
abbrev pub groups_from : ℕ → List Element → List QueryItem → List Element
groups_from group es [] = group_element group es ∷ []
groups_from group es (item ∷ items) =
    if item.group == group
    then groups_from group (es ++ item_element item ∷ []) items
    else group_element group es ∷ groups_from item.group (item_element item ∷ []) items

-- the elements of the groups of items
abbrev pub groups_of : List QueryItem → List Element
groups_of [] = []
groups_of (item ∷ items) = groups_from item.group (item_element item ∷ []) items

-- the tree of items
abbrev pub query_element : List QueryItem → Element
query_element items = with_elements [] (codes "QueryList") (groups_of items)
