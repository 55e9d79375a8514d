-- The text of an element.
use Rattle.std.specs.Prelude.{ℕ, ◌==◌, List, [], ◌∷◌, ◌++◌, length, if◌then◌else◌}
use Rattle.std.specs.List.{flat_map}
use Rattle.wef_base.specs.Names.{trimmed}
use Rattle.wef_base.specs.declared.tree.Element.{Element}
use Rattle.wef_base.specs.declared.tree.Node.{Node, Chars, Element', Row_of-Node, end_of-Node, more_of-Node}

-- all text inside a node, also that of elements inside it
abbrev mutual
  pub text_in : Node → List ℕ
  text_in (Chars text) = text
  text_in (Element' space name attributes shape row) = text_in_row row

  pub text_in_row : {m : _} → Row_of-Node m → List ℕ
  text_in_row end_of-Node = []
  text_in_row (more_of-Node n rest) = text_in n ++ text_in_row rest

-- all text inside an element
abbrev pub text_inside : Element → List ℕ
text_inside e = flat_map text_in e.children

-- what an element says: all text inside it, without the spaces at both ends
abbrev pub said_in : Element → List ℕ
said_in e = trimmed (text_inside e)

-- a text as the children of an element: an empty one is no child
abbrev pub only_text : List ℕ → List Node
only_text text = if length text == 0 then [] else Chars text ∷ []
