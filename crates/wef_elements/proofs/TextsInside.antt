-- The text inside an element, by the data that a node is.
use Rattle.std.proofs.Common.{◌≡◌, ◌++◌, refl, ap, sym, ◌∙◌, subst}
use Rattle.std.specs.List.{flat_map}
use Rattle.wef_base.specs.declared.tree.Element.{Element}
use Rattle.wef_base.specs.declared.tree.Node.{Node, Chars, Element', Row_of-Node, end_of-Node, more_of-Node, items-the_row-Node, items_shown-the_row-Node-0, out-Node, Node-F}
use Rattle.wef_base.specs.declared.tree.Node.TheVariants.{Element as Child, outs-Chars, outs-Element', outs-Element}
use Rattle.wef_elements.specs.Texts.{text_in, text_in_row, text_inside}

-- the text in a row of nodes, by its list
row_is : {m : _} (row : Row_of-Node m) → text_in_row row ≡ flat_map text_in (items-the_row-Node m row)
row_is end_of-Node = refl
row_is (more_of-Node n rest) = ap (λ t. text_in n ++ t) (row_is rest)

-- the text in a node that is an element is that inside the element
pub inside_child : (n : Node) (e : Element) → n ≡ Child e → text_in n ≡ text_inside e
inside_child (Chars text) e same =
    let opened = sym (outs-Chars text) ∙ ap out-Node same ∙ outs-Element e in
    cc
inside_child (Element' space name attributes shape row) e same =
    let opened = sym (outs-Element' space name attributes shape row) ∙ ap out-Node same ∙ outs-Element e in
    let P : Element → Type 0 = λ x. text_in_row row ≡ text_inside x in
    subst P (ap (λ x. elim x [ Node-F.Element z ↦ z | Node-F.Chars t ↦ e ]) opened)
    (row_is row ∙ ap (λ ns. flat_map text_in ns) (sym (items_shown-the_row-Node-0 shape row)))
