-- The elements among nodes, by their qualified names.
use Rattle.std.specs.Prelude.{ℕ, Bool, false, ◌&&◌, not, List, [], map, Option, Some, None}
use Rattle.std.specs.List.{filter_map, find, list_all, list_any}
use Rattle.wef_base.specs.Names.{is_space, same}
use Rattle.wef_base.specs.declared.tree.Attribute.{Attribute}
use Rattle.wef_base.specs.declared.tree.Element.{Element}
use Rattle.wef_base.specs.declared.tree.Node.{Node, out-Node, Node-F}
use Rattle.wef_base.specs.declared.tree.Node.TheVariants.{Element as Child}
use Rattle.wef_elements.specs.Texts.{only_text}

-- the element that a node is
abbrev pub element_of : Node → Option Element
element_of n = elim (out-Node n) [ Node-F.Element e ↦ Some e | Node-F.Chars text ↦ None ]

-- the elements among nodes
abbrev pub elements_in : List Node → List Element
elements_in nodes = filter_map element_of nodes

-- a text that isn't spaces alone
abbrev pub is_words : Node → Bool
is_words n = elim (out-Node n) [ Node-F.Element e ↦ false | Node-F.Chars text ↦ not (list_all is_space text) ]

-- whether there is such a text among nodes
abbrev pub has_words : List Node → Bool
has_words nodes = list_any is_words nodes

-- an element of this namespace and local name (Namespaces in XML 1.0, 2.1)
abbrev pub is_called : List ℕ → List ℕ → Element → Bool
is_called space name e = same name e.name && same space e.space

-- the first element of a name among nodes
abbrev pub first_called : List ℕ → List ℕ → List Node → Option Element
first_called space name nodes = find (is_called space name) (elements_in nodes)

-- elements as nodes
abbrev pub as_nodes : List Element → List Node
as_nodes es = map (λ e. Child e) es

-- an element that has attributes and a text
abbrev pub with_attributes : List ℕ → List ℕ → List Attribute → List ℕ → Element
with_attributes space name attributes text = record { space = space; name = name; attributes = attributes; children = only_text text }

-- an element without attributes that has a text, and one that has elements
abbrev pub with_text : List ℕ → List ℕ → List ℕ → Element
with_text space name text = with_attributes space name [] text

abbrev pub with_elements : List ℕ → List ℕ → List Element → Element
with_elements space name es = record { space = space; name = name; attributes = []; children = as_nodes es }
