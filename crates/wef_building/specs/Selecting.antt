-- Which records a list of queries selects: by the tree that a record's text says.
use Rattle.std.specs.Prelude.{ℕ, Bool, false, List, Option, Some, None}
use Rattle.wef_base.specs.declared.tree.Charset.TheVariants.{Utf8}
use Rattle.wef_base.specs.declared.tree.Element.{Element}
use Rattle.wef_query.specs.Selected.{is_selected}
use Rattle.wef_query.specs.declared.QueryList.{QueryList}
use Rattle.wef_tree_reading.specs.Documents.{tree_of}

-- whether there is a tree, and it passes a test
abbrev pub in_tree : (Element → Bool) → Option Element → Bool
in_tree holds (Some node) = holds node
in_tree holds None = false

-- whether the query selects the record of a channel that has a text; a text without a tree isn't selected
unfoldable pub is_wanted : QueryList → List ℕ → List ℕ → Bool
is_wanted query c text = in_tree (is_selected query.items c) (tree_of Utf8 text)
